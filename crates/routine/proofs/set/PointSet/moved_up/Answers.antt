use Rattle.routine.proofs.Masks.{moved_holds}
use Rattle.routine.proofs.set.PointSet.moved_up.Goals as goal

pub returns-then-by-lt64 : goal.returns-then-by-lt64
returns-then-by-lt64 c = moved_holds c.args.self.bits c.args.by
