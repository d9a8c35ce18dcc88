use Rattle.std.proofs.Common.{refl}
use Rattle.golog.proofs.texts_come_out.Goals as goal

pub returns : goal.returns
returns c = refl
