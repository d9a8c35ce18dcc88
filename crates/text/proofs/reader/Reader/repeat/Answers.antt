use Rattle.std.proofs.lemmas.Result.{MatchResult-weaker}
use Rattle.text.proofs.Growing.{repeat_built}
use Rattle.text.proofs.reader.Reader.repeat.Goals as goal

pub returns : goal.returns
returns c =
    MatchResult-weaker c.node-3.result c.node-3.ensures
    (λ i h.
    repeat_built c.args.self.now c.guarded.new.self c.node.new.self c.clause.new.self c.node-2.new.self c.node-3.new.self c.args.c c.args.p
    _ _ _ _ i c.in_ok-body.ensures c.in_ok-turns.ensures c.in_ok-n.ensures c.in_ok-end.ensures h c.requires.c_in_bounds) (λ f e. e)
