use Rattle.routine.proofs.Masks.{has_and}
use Rattle.routine.proofs.set.PointSet.common.Goals as goal

pub returns : goal.returns
returns c j h = has_and c.args.self.bits c.args.other.bits j
