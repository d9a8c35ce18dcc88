-- Questions of a list, asked of what each item gives.
use Rattle.std.proofs.Common.{◌≡◌, ℕ, ◌+◌, Bool, true, false, ◌||◌, cond, List, [], ◌∷◌, map, Some, None, Option, refl, ap, ◌∙◌, arith}
use Rattle.std.specs.List.{list_any, position_from}
use Rattle.words.specs.Names.{same_word, position, one_on, further}

module _ {V : Type 0} (f : V → List ℕ) where
  pub list_any_of_map : (p : List ℕ → Bool) (vs : List V) → list_any (λ v. p (f v)) vs ≡ list_any p (map f vs)
  list_any_of_map p [] = refl
  list_any_of_map p (v ∷ vs) = ap (λ t. p (f v) || t) (list_any_of_map p vs)

  module _ (w : List ℕ) where
    -- a place counted from k on
    pub position_further : (vs : List V) (k : ℕ) → position_from (λ v. same_word (f v) w) k vs ≡ further k (position (map f vs) w)
    position_further [] k = refl
    position_further (v ∷ vs) k = by_test (same_word (f v) w) (position_further vs (k + 1) ∙ one_further (position (map f vs) w))
      where
        one_further : (o : Option ℕ) → further (k + 1) o ≡ further k (one_on o)
        one_further None = refl
        one_further (Some i) = ap Some (omega arith)

        by_test : (t : Bool) → position_from (λ v. same_word (f v) w) (k + 1) vs ≡ further k (one_on (position (map f vs) w))
            → cond t (Some k) (position_from (λ v. same_word (f v) w) (k + 1) vs)
            ≡ further k (elim t [ true ↦ Some 0 | false ↦ one_on (position (map f vs) w) ])
        by_test true _ = ap Some (omega arith)
        by_test false rest = rest

    pub position_whole : (vs : List V) → position_from (λ v. same_word (f v) w) 0 vs ≡ position (map f vs) w
    position_whole vs = position_further vs 0 ∙ none_further (position (map f vs) w)
      where
        none_further : (o : Option ℕ) → further 0 o ≡ o
        none_further None = refl
        none_further (Some i) = ap Some (omega arith)
