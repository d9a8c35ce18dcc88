use Rattle.std.proofs.Common.{◌&&◌, eqb, ltb}
use Rattle.golog.specs.Points.{word}
use Rattle.routine.specs.Sets.{Holds}
use Rattle.routine.specs.Kept.{tables_prog}
use Rattle.routine.proofs.tables.Tables.alike.Given as goal

abbrev pub invariant-loop-k : goal.invariant-loop-k
invariant-loop-k l = Holds l.set (λ j. ltb j l.k && eqb (word (tables_prog l.self) l.point) (word (tables_prog l.self) j))
