use Rattle.golog.proofs.OneWays.{ways_is_one_way}
use Rattle.golog.proofs.one_way_stands.Goals as goal

pub returns : goal.returns
returns c = ways_is_one_way
