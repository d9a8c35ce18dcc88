use Rattle.golog.proofs.Accepted.{made_is_accepted}
use Rattle.golog.proofs.made_stands.Goals as goal

pub returns : goal.returns
returns c = made_is_accepted
