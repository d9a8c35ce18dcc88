use Rattle.golog.proofs.Refusals.{misplaced_is_first}
use Rattle.golog.proofs.misplaced_stands.Goals as goal

pub returns : goal.returns
returns c = misplaced_is_first
