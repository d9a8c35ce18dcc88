-- What an entry of a tree stands for, from what the entry is.
use Rattle.std.proofs.Common.{◌≡◌, ℕ, ◌≤◌, length, get_or, sym, ap, ◌∙◌, subst, inl, inr}
use Rattle.std.proofs.lemmas.List.{get_or_past}
use Rattle.std.proofs.lemmas.Bool.{cases_lt}
use Rattle.golog.specs.Programs.{Valuation, eval}
use Rattle.golog.specs.Programs.Cond.{always}
use Rattle.golog.specs.Programs.Prog.{act}
use Rattle.tree.specs.declared.node.Clause.{Clause}
use Rattle.tree.specs.declared.node.Clause.TheVariants.{True}
use Rattle.tree.specs.declared.node.Node.{Node}
use Rattle.tree.specs.declared.node.Node.TheVariants.{Act}
use Rattle.tree.specs.declared.tree.Tree.{Tree}
use Rattle.tree.specs.Trees.{cond_node, cond_to, cond_of, prog_node, prog_to, prog_of}
use Rattle.tree.specs.Held.{clauses, nodes, cond_at, prog_at}
use Rattle.routine.specs.Rows.{IsRow, IsStart}
use Rattle.routine.specs.declared.row.Row.{Row}
use Rattle.routine.specs.declared.row.Start.{Start}
use Rattle.tree.proofs.Unrolled.{cond_unrolled, prog_unrolled}

module _ (t : Tree) (i : ℕ) where
  cond_past : length (clauses t) ≤ i → always ≡ cond_at t i
  unfolding cond_to cond_of
  cond_past h = ap (cond_node (cond_to i (clauses t))) (sym (get_or_past (clauses t) i True h))

  pub cond_is : (x : Clause) → x ≡ get_or (clauses t) i True → cond_node (cond_at t) x ≡ cond_at t i
  cond_is x e =
      ap (cond_node (cond_at t)) e
      ∙ elim (cases_lt i (length (clauses t))) [
        | inl h ↦ sym (cond_unrolled (clauses t) t.conds i h)
        | inr h ↦ ap (cond_node (cond_at t)) (get_or_past (clauses t) i True h) ∙ cond_past h
      ]

  pub value_is : (v : Valuation) (x : Clause) → x ≡ get_or (clauses t) i True → eval (cond_node (cond_at t) x) v ≡ eval (cond_at t i) v
  value_is v x e = ap (λ c. eval c v) (cond_is x e)

  prog_past : length (nodes t) ≤ i → act 0 ≡ prog_at t i
  unfolding prog_to prog_of
  prog_past h = ap (prog_node (prog_to i (nodes t) (clauses t)) (cond_at t)) (sym (get_or_past (nodes t) i (Act 0) h))

  pub prog_is : (x : Node) → x ≡ get_or (nodes t) i (Act 0) → prog_node (prog_at t) (cond_at t) x ≡ prog_at t i
  prog_is x e =
      ap (prog_node (prog_at t) (cond_at t)) e
      ∙ elim (cases_lt i (length (nodes t))) [
        | inl h ↦ sym (prog_unrolled (length (clauses t)) (nodes t) (clauses t) t.progs i h)
        | inr h ↦ ap (prog_node (prog_at t) (cond_at t)) (get_or_past (nodes t) i (Act 0) h) ∙ prog_past h
      ]

  module _ (v : Valuation) (x : Node) (is : x ≡ get_or (nodes t) i (Act 0)) where
    pub row_is : (k : ℕ) (r : Row) → IsRow (prog_node (prog_at t) (cond_at t) x) v k r → IsRow (prog_at t i) v k r
    row_is k r = subst (λ δ. IsRow δ v k r) (prog_is x is)

    pub row_back : (k : ℕ) (r : Row) → IsRow (prog_at t i) v k r → IsRow (prog_node (prog_at t) (cond_at t) x) v k r
    row_back k r = subst (λ δ. IsRow δ v k r) (sym (prog_is x is))

    pub start_is : (s : Start) → IsStart (prog_node (prog_at t) (cond_at t) x) v s → IsStart (prog_at t i) v s
    start_is s = subst (λ δ. IsStart δ v s) (prog_is x is)
