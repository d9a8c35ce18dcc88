use Rattle.std.proofs.Common.{◌≡◌, true, length, is_ok, vec_items, sym, ◌∙◌, subst}
use Rattle.tree.specs.declared.node.Clause.TheVariants.{True}
use Rattle.tree.specs.Trees.{cond_lower}
use Rattle.tree.proofs.Falling.{falls_grown, progs_fall_more, length_grown}
use Rattle.tree.proofs.tree.Tree.add_clause.Goals as goal

pub invariant_of-self : goal.invariant_of-self
invariant_of-self c =
    let old = vec_items c.args.self.now.clauses in
    let low : cond_lower (length old) c.args.clause ≡ true =
    subst (λ n. cond_lower n c.args.clause ≡ true) (c.len.ensures ∙ c.args.self.now.clauses.ok.0) (sym c.if-not-clause_is_lower.ensures) in record { conds = falls_grown cond_lower True old c.args.clause c.args.self.now.conds low (is_ok c.push.result) _ c.push.ensures.table; progs = progs_fall_more (length old) _ _ (length_grown (is_ok c.push.result) old c.args.clause _ c.push.ensures.table) c.args.self.now.progs }
