use Rattle.std.proofs.lemmas.Result.{MatchResult-weaker}
use Rattle.text.proofs.Growing.{guarded_built}
use Rattle.text.proofs.reader.Reader.guarded.Goals as goal

pub returns : goal.returns
returns c =
    MatchResult-weaker c.node-2.result c.node-2.ensures
    (λ i h. guarded_built c.args.self.now c.node.new.self c.node-2.new.self c.args.c c.args.p _ i c.in_ok-t.ensures h c.requires) (λ f e. e)
