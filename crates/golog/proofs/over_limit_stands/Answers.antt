use Rattle.golog.proofs.Limits.{over_limit_is_first}
use Rattle.golog.proofs.over_limit_stands.Goals as goal

pub returns : goal.returns
returns c = over_limit_is_first
