-- What a fault of the model says to a foreman; of a record or a layer, what that one says.
use Rattle.std.specs.Prelude.{ℕ, List, codes}
use Rattle.records.specs.Wording.{record_words}
use Rattle.locks.specs.Wording.{layer_words}
use Rattle.model.specs.declared.fault.ModelFault.{ModelFault}
use Rattle.model.specs.declared.fault.ModelFault.TheVariants.{Record, Field, BadName, SameName, TooOften, Missing, Stuck, Layer, Memory}

abbrev pub model_words : ModelFault → List ℕ
model_words (Record f) = record_words f
model_words (Field at) = codes "the field is out of its range"
model_words (BadName at) = codes "this is not a name"
model_words (SameName at) = codes "the name stands there twice"
model_words (TooOften at) = codes "the record is there once too often"
model_words (Missing at) = codes "a record is missing"
model_words (Stuck a s) = codes "an act is allowed in a state and has no reaction there"
model_words (Layer f) = layer_words f
model_words Memory = codes "there is no memory for what the file says"
