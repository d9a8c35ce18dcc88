-- What a refused layer says to a foreman.
use Rattle.std.specs.Prelude.{ℕ, List, codes}
use Rattle.locks.specs.declared.allowance.LayerFault.{LayerFault}
use Rattle.locks.specs.declared.allowance.LayerFault.TheVariants.{Allowance, States}

abbrev pub layer_words : LayerFault → List ℕ
layer_words (Allowance k) = codes "the allowance is above 7"
layer_words (States n) = codes "the layer has more than 32768 states"
