-- What a refused routine says to a foreman.
use Rattle.std.specs.Prelude.{ℕ, List, codes}
use Rattle.routine.specs.declared.fault.RoutineFault.{RoutineFault}
use Rattle.routine.specs.declared.fault.RoutineFault.TheVariants.{TwoWays, Memory}

abbrev pub routine_words : RoutineFault → List ℕ
routine_words (TwoWays p q r) = codes "one act has two ways on from a point, and both may go on"
routine_words Memory = codes "there is no memory for what the routine says"
