-- Reading a job file, as a definition that computes: front to back, record by record, the routine's text at its record, and then the end.
use Rattle.std.specs.Prelude.{ℕ, zero, suc, ◌-◌, Bool, true, false, List, [], ◌∷◌, length, Some, None, Ok, Err, Option, Result, nat_le}
use Rattle.records.specs.declared.RecordFault.TheVariants.{Cut}
use Rattle.items.specs.declared.item.Header.{Header}
use Rattle.items.specs.Layout.{Entry, text_in}
use Rattle.model.specs.declared.fault.ModelFault.{ModelFault}
use Rattle.model.specs.declared.fault.ModelFault.TheVariants.{Record, Missing}
use Rattle.model.specs.Contents.{Contents, silence, with_item}
use Rattle.model.specs.Weigh.{begin, turn}
use Rattle.model.specs.Closing.{closing}
use Rattle.golog.specs.Programs.{Prog}
use Rattle.golog.specs.Points.{Ways, ways}
use Rattle.golog.specs.Points.Ways.{one_way, two_ways}
use Rattle.golog.specs.Grammar.{Names}
use Rattle.golog.specs.Reading.{Reading, TextFault, read}
use Rattle.golog.specs.Reading.Reading.{tree, refused}

-- Why a file is refused: it is too long, for its records or model, for its text, or for two ways of its routine.
pub data Refusal : Type 0 where
  too_long : ℕ → Refusal
  of_model : ModelFault → Refusal
  of_text : TextFault → Refusal
  of_ways : ℕ → ℕ → ℕ → Refusal

-- What a file says: its head, what comes behind it, and the program of its routine.
pub record Said : Type 0 where
  pub head : Header
  pub contents : Contents
  pub program : Prog

-- the names that a text may use: those that have come
abbrev pub names_in : Contents → Names
names_in c = record { facts = c.facts; acts = c.acts }

-- the program so far: a text is read as its record comes
abbrev pub heard : Reading → Result (Option Prog) Refusal
heard (tree t) = Ok (Some t)
heard (refused f) = Err (of_text f)

abbrev pub listen : Option (List ℕ) → Contents → Option Prog → Result (Option Prog) Refusal
listen None c o = Ok o
listen (Some text) c o = heard (read (names_in c) text)

abbrev pub hear_on : Result (Option Prog) Refusal → (Option Prog → Result Said Refusal) → Result Said Refusal
hear_on (Err f) next = Err f
hear_on (Ok o) next = next o

-- the end of the file: its fault if it has one, then two ways of the routine
abbrev pub ended_ways : Ways → Header → Contents → Prog → Result Said Refusal
ended_ways one_way h c t = Ok (record { head = h; contents = c; program = t })
ended_ways (two_ways p q r) h c t = Err (of_ways p q r)

abbrev pub ended_routine : Header → Contents → ℕ → Option Prog → Result Said Refusal
ended_routine h c end None = Err (of_model (Missing end))
ended_routine h c end (Some t) = ended_ways (ways (length c.facts) t) h c t

abbrev pub ended : Option ModelFault → Header → Contents → ℕ → Option Prog → Result Said Refusal
ended (Some f) h c end o = Err (of_model f)
ended None h c end o = ended_routine h c end o

-- the fault of a record, or what comes behind it
abbrev pub go_on : Result (Entry × List ℕ) ModelFault → (Entry → List ℕ → Result Said Refusal) → Result Said Refusal
go_on (Err f) next = Err (of_model f)
go_on (Ok (i, rest)) next = next i rest

-- The records that are left of a file that ends at an offset, behind its head, what was said so far and the program so far.
-- Each has four bytes at least, so as many turns as there are bytes suffice.
abbrev pub judge : (turns : ℕ) → Header → Contents → Option Prog → (end : ℕ) → List ℕ → Result Said Refusal
judge n h c o end [] = ended (closing h c end) h c end o
judge zero h c o end (b ∷ bytes) = Err (of_model (Record (Cut (end - length (b ∷ bytes)))))
judge (suc n) h c o end (b ∷ bytes) =
    go_on (turn h c (end - length (b ∷ bytes)) (b ∷ bytes))
    (λ i rest. hear_on (listen (text_in i) (with_item c i) o) (λ p. judge n h (with_item c i) p end rest))

abbrev pub after_head : Result (Header × List ℕ) ModelFault → ℕ → Result Said Refusal
after_head (Err f) end = Err (of_model f)
after_head (Ok (h, rest)) end = judge end h silence None end rest

-- what a file says, or why it is refused
abbrev pub verdict : List ℕ → Result Said Refusal
verdict file = after_head (begin file) (length file)

-- the same with a limit on the file's length
abbrev pub limited : Bool → ℕ → List ℕ → Result Said Refusal
limited true most file = verdict file
limited false most file = Err (too_long most)

abbrev pub verdict_within : ℕ → List ℕ → Result Said Refusal
verdict_within most file = limited (nat_le (length file) most) most file
