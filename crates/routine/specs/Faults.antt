-- The number, the layer and the place of each fault; want of memory has none.
use Rattle.std.specs.Prelude.{ℕ}
use Rattle.golog.specs.Points.{two_ways_fault}
use Rattle.routine.specs.declared.fault.RoutineFault.{RoutineFault}
use Rattle.routine.specs.declared.fault.RoutineFault.TheVariants.{TwoWays, Memory}

abbrev pub routine_number : RoutineFault → ℕ
routine_number (TwoWays p q r) = (two_ways_fault p q r).number
routine_number Memory = 0

abbrev pub fault_layer : RoutineFault → ℕ
fault_layer (TwoWays p q r) = (two_ways_fault p q r).layer
fault_layer Memory = 0

abbrev pub routine_place : RoutineFault → ℕ
routine_place (TwoWays p q r) = (two_ways_fault p q r).place
routine_place Memory = 0
