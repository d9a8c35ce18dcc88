use Rattle.golog.proofs.Numbers.{numbers_are_least}
use Rattle.golog.proofs.numbers_stand.Goals as goal

pub returns : goal.returns
returns c = numbers_are_least
