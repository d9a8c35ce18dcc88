use Rattle.golog.proofs.Refusals.{unknown_is_first}
use Rattle.golog.proofs.unknown_stands.Goals as goal

pub returns : goal.returns
returns c = unknown_is_first
