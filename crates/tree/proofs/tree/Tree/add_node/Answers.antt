use Rattle.std.proofs.Common.{◌≡◌, true, length, is_ok, vec_items, sym, ◌∙◌, subst₂}
use Rattle.tree.specs.declared.node.Node.TheVariants.{Act}
use Rattle.tree.specs.Trees.{prog_lower}
use Rattle.tree.proofs.Falling.{falls_grown}
use Rattle.tree.proofs.tree.Tree.add_node.Goals as goal

pub invariant_of-self : goal.invariant_of-self
invariant_of-self c =
    let conds = length (vec_items c.args.self.now.clauses) in
    let old = vec_items c.args.self.now.nodes in
    let low : prog_lower conds (length old) c.args.node ≡ true =
    subst₂ (λ m n. prog_lower m n c.args.node ≡ true) (c.len.ensures ∙ c.args.self.now.clauses.ok.0) (c.len-2.ensures ∙ c.args.self.now.nodes.ok.0)
    (sym c.if-not-node_is_lower.ensures) in record { conds = c.args.self.now.conds; progs = falls_grown (prog_lower conds) (Act 0) old c.args.node c.args.self.now.progs low (is_ok c.push.result) _ c.push.ensures.table }
