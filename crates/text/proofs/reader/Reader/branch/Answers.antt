use Rattle.std.proofs.lemmas.Result.{MatchResult-weaker}
use Rattle.text.proofs.Growing.{grows_trans, prog_there, branch_built}
use Rattle.text.proofs.reader.Reader.branch.Goals as goal

pub guarded-requires-2 : goal.guarded-requires-2
guarded-requires-2 c =
    prog_there c.args.self.now.tree c.clause.new.self.tree
    (grows_trans c.args.self.now.tree c.guarded.new.self.tree c.clause.new.self.tree c.in_ok-first.ensures.grows c.in_ok-n.ensures.grows) c.args.q c.requires.q_in_bounds

pub returns : goal.returns
returns c =
    MatchResult-weaker c.node.result c.node.ensures
    (λ i h.
    branch_built c.args.self.now c.guarded.new.self c.clause.new.self c.guarded-2.new.self c.node.new.self c.args.c c.args.p c.args.q
    _ _ _ i c.in_ok-first.ensures c.in_ok-n.ensures c.in_ok-second.ensures h c.requires.c_in_bounds c.requires.q_in_bounds) (λ f e. e)
