use Rattle.golog.proofs.Sure.{make_is_sure}
use Rattle.golog.proofs.sureness_stands.Goals as goal

pub returns : goal.returns
returns c = make_is_sure
