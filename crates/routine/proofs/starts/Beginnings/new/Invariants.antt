use Rattle.std.proofs.Common.{◌≡◌, length, vec_items}
use Rattle.golog.specs.Points.{valuation}
use Rattle.routine.specs.Rows.{Starts}
use Rattle.routine.proofs.starts.Beginnings.new.Given as goal

abbrev pub invariant-loop-i : goal.invariant-loop-i
invariant-loop-i l = Starts l.tree (valuation l.valuation) (vec_items l.starts) × (length (vec_items l.starts) ≡ l.i)
