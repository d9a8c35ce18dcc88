-- Each fault's number, layer and place, and the line that tells them.
use Rattle.std.specs.Prelude.{ℕ, ◌+◌, ◌*◌, List, ◌++◌, codes, decimal}
use Rattle.records.specs.declared.RecordFault.{RecordFault}
use Rattle.records.specs.declared.RecordFault.TheVariants.{Cut, NoHead, UnknownKind, OtherForm, OutOfOrder, WrongLength}
use Rattle.locks.specs.declared.allowance.LayerFault.{LayerFault}
use Rattle.locks.specs.declared.allowance.LayerFault.TheVariants.{Allowance, States}
use Rattle.model.specs.declared.fault.ModelFault.{ModelFault}
use Rattle.model.specs.declared.fault.ModelFault.TheVariants.{Record, Field, BadName, SameName, TooOften, Missing, Stuck, Layer, Memory}
use Rattle.text.specs.Faults as text
use Rattle.routine.specs.Faults as routine
use Rattle.faults.specs.declared.fault.telling.Outcome.{Outcome}
use Rattle.faults.specs.declared.fault.FileFault.{FileFault}
use Rattle.faults.specs.declared.fault.FileFault.TheVariants.{TooLong, Model, Text, Routine}

-- the layers that find faults: 1 records, 2 model
abbrev pub record_layer : ℕ
record_layer = 1

abbrev pub model_layer : ℕ
model_layer = 2

abbrev pub record_number : RecordFault → ℕ
record_number (Cut at) = 1
record_number (NoHead at) = 2
record_number (UnknownKind at) = 2
record_number (OtherForm at) = 2
record_number (OutOfOrder at) = 2
record_number (WrongLength at) = 2

abbrev pub record_place : RecordFault → ℕ
record_place (Cut at) = at
record_place (NoHead at) = at
record_place (UnknownKind at) = at
record_place (OtherForm at) = at
record_place (OutOfOrder at) = at
record_place (WrongLength at) = at

abbrev pub layer_number : LayerFault → ℕ
layer_number (Allowance k) = 3
layer_number (States n) = 10

abbrev pub layer_place : LayerFault → ℕ
layer_place (Allowance k) = k
layer_place (States n) = n

-- want of memory is no fault of the file: it has no number, no layer and no place
abbrev pub model_number : ModelFault → ℕ
model_number (Record f) = record_number f
model_number (Field at) = 3
model_number (BadName at) = 4
model_number (SameName at) = 4
model_number (TooOften at) = 5
model_number (Missing at) = 5
model_number (Stuck a s) = 6
model_number (Layer f) = layer_number f
model_number Memory = 0

abbrev pub layer_of : ModelFault → ℕ
layer_of (Record f) = record_layer
layer_of (Field at) = model_layer
layer_of (BadName at) = model_layer
layer_of (SameName at) = model_layer
layer_of (TooOften at) = model_layer
layer_of (Missing at) = model_layer
layer_of (Stuck a s) = model_layer
layer_of (Layer f) = model_layer
layer_of Memory = 0

abbrev pub model_place : ModelFault → ℕ
model_place (Record f) = record_place f
model_place (Field at) = at
model_place (BadName at) = at
model_place (SameName at) = at
model_place (TooOften at) = at
model_place (Missing at) = at
model_place (Stuck a s) = a * 4096 + s
model_place (Layer f) = layer_place f
model_place Memory = 0

-- a fault that holds another has that one's number, layer and place
abbrev pub fault_number : FileFault → ℕ
fault_number (TooLong most) = 3
fault_number (Model f) = model_number f
fault_number (Text f) = (text.fault_of f).number
fault_number (Routine f) = routine.routine_number f

abbrev pub fault_layer : FileFault → ℕ
fault_layer (TooLong most) = model_layer
fault_layer (Model f) = layer_of f
fault_layer (Text f) = (text.fault_of f).layer
fault_layer (Routine f) = routine.fault_layer f

abbrev pub fault_place : FileFault → ℕ
fault_place (TooLong most) = most
fault_place (Model f) = model_place f
fault_place (Text f) = (text.fault_of f).place
fault_place (Routine f) = routine.routine_place f

-- what a refusal tells, as one: number, layer and place
abbrev pub record_outcome : RecordFault → Outcome
record_outcome f = record { number = record_number f; layer = record_layer; place = record_place f }

abbrev pub layer_outcome : LayerFault → Outcome
layer_outcome f = record { number = layer_number f; layer = model_layer; place = layer_place f }

abbrev pub model_outcome : ModelFault → Outcome
model_outcome f = record { number = model_number f; layer = layer_of f; place = model_place f }

abbrev pub fault_outcome : FileFault → Outcome
fault_outcome f = record { number = fault_number f; layer = fault_layer f; place = fault_place f }

-- the line of a refusal
abbrev pub line_of : (number layer place : ℕ) → List ℕ
line_of number layer place =
    codes "refused " ++ (decimal number ++ (codes " layer " ++ (decimal layer ++ (codes " place " ++ decimal place))))

abbrev pub refusal_line : FileFault → List ℕ
refusal_line f = line_of (fault_number f) (fault_layer f) (fault_place f)
