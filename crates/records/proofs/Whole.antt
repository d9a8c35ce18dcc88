-- What stands at the front of bytes that are long enough.
use Rattle.std.proofs.Common.{◌≡◌, ℕ, ◌-◌, ◌≤◌, List, [], ◌∷◌, length, get_or, take, drop, ap, ◌∙◌, subst, arith, length-drop, le-leb}
use Rattle.std.proofs.lemmas.List.{take_rest}
use Rattle.records.specs.Split.{front, long_enough, two_bytes}
use Rattle.records.specs.Split.Front.{whole}

front_long :
    (xs : List ℕ) → 4 ≤ length xs → two_bytes (get_or xs 0 0) (get_or xs 1 0) ≤ length (drop 4 xs) →
    front xs ≡ whole (two_bytes (get_or xs 2 0) (get_or xs 3 0)) (take (two_bytes (get_or xs 0 0) (get_or xs 1 0)) (drop 4 xs))
    (drop (two_bytes (get_or xs 0 0) (get_or xs 1 0)) (drop 4 xs))
front_long [] l h = let z : ⊥ = omega arith in absurd z
front_long (a ∷ []) l h = let z : ⊥ = omega arith in absurd z
front_long (a ∷ (b ∷ [])) l h = let z : ⊥ = omega arith in absurd z
front_long (a ∷ (b ∷ (c ∷ []))) l h = let z : ⊥ = omega arith in absurd z
front_long (a ∷ (b ∷ (c ∷ (d ∷ xs)))) l h =
    ap (λ t. long_enough t (two_bytes a b) (two_bytes c d) xs) (le-leb (two_bytes a b) (length xs) h)

pub front_whole :
    (xs : List ℕ) (n kind : ℕ) (body rest : List ℕ) → 4 ≤ length xs → n ≤ length xs - 4 →
    n ≡ two_bytes (get_or xs 0 0) (get_or xs 1 0) → kind ≡ two_bytes (get_or xs 2 0) (get_or xs 3 0) →
    body ≡ take n (take (length xs - 4) (drop 4 xs)) → rest ≡ drop n (take (length xs - 4) (drop 4 xs)) →
    front xs ≡ whole kind body rest
front_whole xs n kind body rest l s en ek eb er =
    let h : n ≤ length (drop 4 xs) = simp length-drop s in
    let b = eb ∙ ap (take n) (take_rest xs 4) in
    let r = er ∙ ap (drop n) (take_rest xs 4) in
    let f = front_long xs l (subst (λ k. k ≤ length (drop 4 xs)) en h) in
    cc
