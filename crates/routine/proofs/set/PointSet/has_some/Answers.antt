use Rattle.std.proofs.Common.{arith}
use Rattle.routine.proofs.Going.{some_in_is}
use Rattle.routine.proofs.set.PointSet.has_some.Goals as goal

pub returns : goal.returns
returns c = some_in_is c.args.self (omega arith)
