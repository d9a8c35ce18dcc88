use Rattle.routine.proofs.Masks.{has_or}
use Rattle.routine.proofs.set.PointSet.union.Goals as goal

pub returns : goal.returns
returns c j h = has_or c.args.self.bits c.args.other.bits j
