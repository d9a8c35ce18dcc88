-- What the faults of a text mean.
use Rattle.std.proofs.Math.Option.{Option, none, some}
use Rattle.std.specs.Prelude.{◌≡◌}
use Rattle.golog.specs.Faults.{Fault}
use Rattle.golog.specs.Reading as golog
use Rattle.golog.specs.Reading.{Reading, text_fault}
use Rattle.golog.specs.Reading.TextFault.{misplaced, unknown, over_limit}
use Rattle.golog.specs.Reading.Reading.{refused}
use Rattle.text.specs.declared.fault.WordFault.TheVariants.{Strange}
use Rattle.text.specs.declared.fault.TextFault.{TextFault}
use Rattle.text.specs.declared.fault.TextFault.TheVariants.{Word, Misplaced, Unknown, OverLimit, Memory}

-- wanting memory is no fault of the text
abbrev pub said_fault : TextFault → Option golog.TextFault
said_fault (Word (Strange o)) = some (misplaced o)
said_fault (Misplaced o) = some (misplaced o)
said_fault (Unknown o) = some (unknown o)
said_fault (OverLimit o) = some (over_limit o)
said_fault Memory = none

-- the reading is refused for this, where it is a fault of the text
abbrev pub Told : Option golog.TextFault → Reading → Type 0
Told none x = Unit {0}
Told (some g) x = x ≡ refused g

abbrev pub Tells : TextFault → Reading → Type 0
Tells f x = Told (said_fault f) x

-- the fault as it is reported; all zero where memory is wanting
abbrev pub reported : Option golog.TextFault → Fault
reported none = record { number = 0; layer = 0; place = 0 }
reported (some g) = text_fault g

abbrev pub fault_of : TextFault → Fault
fault_of f = reported (said_fault f)
