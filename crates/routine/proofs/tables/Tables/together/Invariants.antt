use Rattle.std.proofs.Common.{◌&&◌}
use Rattle.locks.specs.Meaning.{any_below}
use Rattle.golog.specs.Points.{next, valuation}
use Rattle.routine.specs.Sets.{Holds}
use Rattle.routine.specs.Kept.{tables_prog}
use Rattle.routine.proofs.tables.Tables.together.Given as goal

abbrev pub invariant-loop-valuation : goal.invariant-loop-valuation
invariant-loop-valuation l =
    Holds l.set (λ r. any_below l.valuation (λ n. next (tables_prog l.self) (valuation n) l.from l.first && next (tables_prog l.self) (valuation n) l.from r))
