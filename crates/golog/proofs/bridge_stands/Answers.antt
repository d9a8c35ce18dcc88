use Rattle.golog.proofs.Bridge.{bridge}
use Rattle.golog.proofs.bridge_stands.Goals as goal

pub returns : goal.returns
returns c = bridge
