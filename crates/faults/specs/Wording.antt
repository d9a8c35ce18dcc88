-- What the fault of a file says to a foreman: what the fault that it holds says.
use Rattle.std.specs.Prelude.{ℕ, List, codes}
use Rattle.model.specs.Wording.{model_words}
use Rattle.text.specs.Wording.{text_words}
use Rattle.routine.specs.Wording.{routine_words}
use Rattle.faults.specs.declared.fault.FileFault.{FileFault}
use Rattle.faults.specs.declared.fault.FileFault.TheVariants.{TooLong, Model, Text, Routine}

abbrev pub fault_words : FileFault → List ℕ
fault_words (TooLong most) = codes "the file is too long"
fault_words (Model f) = model_words f
fault_words (Text f) = text_words f
fault_words (Routine f) = routine_words f
