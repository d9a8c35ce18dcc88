use Rattle.golog.proofs.Limits.{bounded_is_read}
use Rattle.golog.proofs.bounded_read_stands.Goals as goal

pub returns : goal.returns
returns c = bounded_is_read
