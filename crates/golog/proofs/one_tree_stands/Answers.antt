use Rattle.golog.proofs.ReadingProof.{text_one_tree}
use Rattle.golog.proofs.one_tree_stands.Goals as goal

pub returns : goal.returns
returns c = text_one_tree
