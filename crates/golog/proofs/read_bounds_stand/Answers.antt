use Rattle.golog.proofs.Limits.{read_is_bounded}
use Rattle.golog.proofs.read_bounds_stand.Goals as goal

pub returns : goal.returns
returns c = read_is_bounded
