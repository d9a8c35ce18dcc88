-- A fault that the reader tells is the refusal that the verdict names. Want of memory is none.
use Rattle.std.proofs.Math.Option.{Option, none, some}
use Rattle.std.specs.Prelude.{◌≡◌, ◌⊎◌, Err, Result}
use Rattle.model.specs.declared.fault.ModelFault.TheVariants.{Memory}
use Rattle.golog.specs.Reading.{TextFault}
use Rattle.text.specs.Faults.{said_fault}
use Rattle.routine.specs.declared.fault.RoutineFault.{RoutineFault}
use Rattle.routine.specs.declared.fault.RoutineFault.TheVariants as routine
use Rattle.faults.specs.declared.fault.FileFault.{FileFault}
use Rattle.faults.specs.declared.fault.FileFault.TheVariants.{TooLong, Model, Text, Routine}
use Rattle.jobfile.specs.Verdict.{Refusal}
use Rattle.jobfile.specs.Verdict.Refusal.{too_long, of_model, of_text, of_ways}

abbrev pub TextRefused : {X : Type 0} → Option TextFault → Result X Refusal → Type 0
TextRefused none v = Unit {0}
TextRefused (some f) v = v ≡ Err (of_text f)

abbrev pub RoutineRefused : {X : Type 0} → RoutineFault → Result X Refusal → Type 0
RoutineRefused (routine.TwoWays p q r) v = v ≡ Err (of_ways p q r)
RoutineRefused routine.Memory v = Unit {0}

abbrev pub Refused : {X : Type 0} → FileFault → Result X Refusal → Type 0
Refused (TooLong n) v = v ≡ Err (too_long n)
Refused (Model f) v = (f ≡ Memory) ⊎ (v ≡ Err (of_model f))
Refused (Text f) v = TextRefused (said_fault f) v
Refused (Routine f) v = RoutineRefused f v
