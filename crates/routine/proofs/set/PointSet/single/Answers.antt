use Rattle.std.proofs.Common.{◌*◌, ◌^◌, ◌∙◌}
use Rattle.routine.proofs.Masks.{has_low, has_single}
use Rattle.routine.proofs.set.PointSet.single.Goals as goal

pub returns : goal.returns
returns c j h = has_low (1 * 2 ^ c.args.point) 64 j h ∙ has_single c.args.point j
