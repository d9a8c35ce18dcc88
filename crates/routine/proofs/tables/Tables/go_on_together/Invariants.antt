use Rattle.std.proofs.Common.{◌&&◌}
use Rattle.locks.specs.Meaning.{any_below}
use Rattle.golog.specs.Points.{goes_on, valuation}
use Rattle.routine.specs.Sets.{Holds}
use Rattle.routine.specs.Kept.{tables_prog}
use Rattle.routine.proofs.tables.Tables.go_on_together.Given as goal

abbrev pub invariant-loop-going : goal.invariant-loop-going
invariant-loop-going l =
    Holds l.set (λ r. any_below l.going-index (λ n. goes_on (tables_prog l.self) (valuation n) l.first && goes_on (tables_prog l.self) (valuation n) r))
