-- The act words of an entry, from those of its parts.
use Rattle.std.proofs.Common.{◌≡◌, ℕ, ◌-◌, ◌<◌, ◌≤◌, ◌⊎◌, [], ◌∷◌, ◌++◌, get_or, sym, ap, ◌∙◌, inl, inr, arith}
use Rattle.std.proofs.lemmas.List.{get_or_append_left, get_or-append_right, get_or_past}
use Rattle.golog.specs.Programs.{Prog}
use Rattle.golog.specs.Points.{no_act, act_words, words}
use Rattle.tree.specs.declared.node.Node.{Node}
use Rattle.tree.specs.declared.node.Node.TheVariants.{Act, Seq, Alt}
use Rattle.tree.specs.declared.tree.Tree.{Tree}
use Rattle.tree.specs.Trees.{prog_node}
use Rattle.tree.specs.Held.{nodes, cond_at, prog_at}
use Rattle.routine.specs.Sets.{room}
use Rattle.routine.specs.Rows.{counted}
use Rattle.routine.proofs.Entries.{prog_is}

pub act_is :
    (t : Tree) (i w : ℕ) (x : Node) → x ≡ get_or (nodes t) i (Act 0) →
    get_or (act_words (prog_node (prog_at t) (cond_at t) x)) w no_act ≡ get_or (act_words (prog_at t i)) w no_act
act_is t i w x e = ap (λ δ. get_or (act_words δ) w no_act) (prog_is t i x e)

pub act_of_two :
    (t : Tree) (i w a b : ℕ) (x : Node) → x ≡ get_or (nodes t) i (Act 0) → (x ≡ Seq a b) ⊎ (x ≡ Alt a b) →
    get_or (act_words (prog_at t a) ++ act_words (prog_at t b)) w no_act ≡ get_or (act_words (prog_at t i)) w no_act
act_of_two t i w a b x e (inl f) = act_is t i w (Seq a b) (sym f ∙ e)
act_of_two t i w a b x e (inr f) = act_is t i w (Alt a b) (sym f ∙ e)

pub lone_act : (a w : ℕ) → w ≡ 0 → a ≡ get_or (a ∷ []) w no_act
lone_act a w e = ap (λ i. get_or (a ∷ []) i no_act) (sym e)

pub no_more_acts : (a w : ℕ) → (w ≡ 0 → ⊥) → no_act ≡ get_or (a ∷ []) w no_act
no_more_acts a w h = sym (get_or_past (a ∷ []) w no_act (omega arith))

module _ (p q : Prog) (w n : ℕ) (low : w < room) (count : n ≡ counted p) where
  pub act_in_first : w < n → get_or (act_words p) w no_act ≡ get_or (act_words p ++ act_words q) w no_act
  act_in_first h = sym (get_or_append_left (act_words p) (act_words q) no_act w (omega arith))

  pub act_in_second : n ≤ w → get_or (act_words q) (w - n) no_act ≡ get_or (act_words p ++ act_words q) w no_act
  act_in_second h =
      let e : words p ≡ n = omega arith in sym (get_or-append_right (act_words p) (act_words q) n w no_act e h)
