use Rattle.golog.proofs.Passing.{pass_is_accepts}
use Rattle.golog.proofs.pass_stands.Goals as goal

pub returns : goal.returns
returns c = pass_is_accepts
