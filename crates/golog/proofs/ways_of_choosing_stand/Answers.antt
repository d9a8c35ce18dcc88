use Rattle.golog.proofs.Choosing.{within_is_ending}
use Rattle.golog.proofs.ways_of_choosing_stand.Goals as goal

pub returns : goal.returns
returns c = within_is_ending
