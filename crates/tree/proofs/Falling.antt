-- Tables whose entries have their parts below them, one entry longer.
use Rattle.std.proofs.Common.{◌≡◌, ℕ, ◌<◌, ◌≤◌, Bool, true, false, cond, List, [], ◌∷◌, ◌++◌, length, get_or, sym, refl, subst, inl, inr, arith, ltb-true, lt-ltb}
use Rattle.std.proofs.lemmas.List.{get_or_append_left, get_or_push, length_push}
use Rattle.std.proofs.lemmas.Bool.{cases_lt}
use Rattle.tree.specs.declared.node.Node.{Node}
use Rattle.tree.specs.declared.node.Node.TheVariants.{Act, Test, Seq, Alt, Star}
use Rattle.tree.specs.Trees.{prog_lower, ProgFalls}

module _ {X : Type 0} (P : ℕ → X → Bool) (d : X) (xs : List X) (x : X) (falls : (i : ℕ) → i < length xs → P i (get_or xs i d) ≡ true) (low : P (length xs) x ≡ true) where
  falls_push : (i : ℕ) → i < length (xs ++ x ∷ []) → P i (get_or (xs ++ x ∷ []) i d) ≡ true
  falls_push i h =
      elim (cases_lt i (length xs)) [
        | inl lt ↦ rw (get_or_append_left xs (x ∷ []) d i lt) (falls i lt)
        | inr ge ↦
            let e : i ≡ length xs = omega (arith, length_push xs x) in
            rw (get_or_push xs x d i (sym e)) (subst (λ k. P k x ≡ true) (sym e) low)
      ]

  -- whether or not the entry was added
  pub falls_grown : (b : Bool) (ys : List X) → ys ≡ cond b (xs ++ x ∷ []) xs → (i : ℕ) → i < length ys → P i (get_or ys i d) ≡ true
  falls_grown true ys e = subst (λ l. (i : ℕ) → i < length l → P i (get_or l i d) ≡ true) (sym e) falls_push
  falls_grown false ys e = subst (λ l. (i : ℕ) → i < length l → P i (get_or l i d) ≡ true) (sym e) falls

-- more conditions do no harm
lower_more : (n m i : ℕ) (x : Node) → n ≤ m → prog_lower n i x ≡ true → prog_lower m i x ≡ true
lower_more n m i (Act a) h e = refl
lower_more n m i (Test c) h e = lt-ltb c m (omega (arith, ltb-true c n e))
lower_more n m i (Seq a b) h e = e
lower_more n m i (Alt a b) h e = e
lower_more n m i (Star a) h e = e

pub progs_fall_more : (n m : ℕ) (ns : List Node) → n ≤ m → ProgFalls n ns → ProgFalls m ns
progs_fall_more n m ns h falls i l = lower_more n m i (get_or ns i (Act 0)) h (falls i l)

pub length_grown : {X : Type 0} (b : Bool) (xs : List X) (x : X) (ys : List X) → ys ≡ cond b (xs ++ x ∷ []) xs → length xs ≤ length ys
length_grown true xs x ys e = rw e (omega (arith, length_push xs x))
length_grown false xs x ys e = rw e (omega arith)
