use Rattle.golog.proofs.ReadingProof.{reading_is_grammar}
use Rattle.golog.proofs.reading_stands.Goals as goal

pub returns : goal.returns
returns c = reading_is_grammar
