-- The lowest two ways, found point by point, are those of the definition.
use Rattle.std.proofs.Common.{◌≡◌, ℕ, ◌+◌, ◌*◌, ◌/◌, ◌%◌, ◌<◌, ◌≤◌, Bool, true, false, Some, None, MatchOption, sym, refl, ap, ◌∙◌, subst, inl, inr, div-add-mod', arith}
use Rattle.std.proofs.Common as std
use mathlib.Core.Option.{Option, none, some}
use native.Mathlib.Nat.{div-div-eq-div-mul}
use lib.Arith.{digits_lt}
use Rattle.std.proofs.lemmas.Nat.{mod_below, div_below}
use Rattle.std.proofs.lemmas.Bool.{cases_lt, cases_order, both_ways}
use Rattle.golog.specs.Programs.{Prog}
use Rattle.golog.specs.Search.{lowest}
use Rattle.golog.specs.Points.{points, two_ways_at, ways, ways_of}
use Rattle.golog.specs.Points.Ways.{one_way, two_ways}
use Rattle.golog.proofs.OneWays.{triple, triple_below, triple_outer, triple_middle, triple_inner}
use Rattle.golog.proofs.Searches.{none_of, lowest_none, lowest_some}
use Rattle.routine.specs.Found.{NoneBelow, FoundSecond}

pub lowest_is : (n : ℕ) (t : ℕ → Bool) (k : ℕ) → k < n → t k ≡ true → NoneBelow k t → lowest n t ≡ some k
lowest_is n t k h e none_lower = found (lowest n t) refl
  where
    found : (x : Option ℕ) → lowest n t ≡ x → x ≡ some k
    found none f = absurd (both_ways (t k) (lowest_none n t f k h) e)
    found (some i) f =
        let (_, a, b) = lowest_some n t i f in
        elim (cases_order i k) [
          | inl z ↦ ap some z
          | inr (inl z) ↦ absurd (both_ways (t i) (none_lower i z) a)
          | inr (inr z) ↦ absurd (both_ways (t k) (b k z) e)
        ]

-- what a search above q finds, of a test that passes nothing up to q
module _ (n q : ℕ) (b t : ℕ → Bool) (same : (r : ℕ) → q < r → r < n → b r ≡ t r) (low : (r : ℕ) → r ≤ q → t r ≡ false) where
  none_under : (m : ℕ) → m ≤ n → ((k : ℕ) → q + 1 ≤ k → k < m → b k ≡ false) → NoneBelow m t
  none_under m h fails k l = elim (cases_lt q k) [
    | inl g ↦ sym (same k g (omega arith)) ∙ fails k (omega arith) l
    | inr g ↦ low k (omega arith)
  ]

  pub found_above : (o : std.Option ℕ)
      → MatchOption o ((k : ℕ) → q + 1 ≤ k → k < n → b k ≡ false) (λ r. (q + 1 ≤ r) × (r < n) × (b r ≡ true) × ((k : ℕ) → q + 1 ≤ k → k < r → b k ≡ false))
      → FoundSecond n t o
  found_above None fails = none_under n (omega arith) fails
  found_above (Some r) h = (h.1, sym (same r (omega (arith, h.0)) h.1) ∙ h.2, none_under r (omega (arith, h.1)) h.3)

module _ (facts : ℕ) (δ : Prog) where
  n : ℕ
  n = points δ

  at : ℕ → Bool
  at k = two_ways_at facts δ (k / (n * n)) ((k / n) % n) (k % n)

  pub no_ways : ((p : ℕ) → p < points δ → (q : ℕ) → q < points δ → NoneBelow (points δ) (two_ways_at facts δ p q)) → ways facts δ ≡ one_way
  unfolding n at
  no_ways none_of_all =
      ap (ways_of (points δ))
      (none_of (lowest (points δ * points δ * points δ) at)
      (λ k e.
      let (h, a, _) = lowest_some (points δ * points δ * points δ) at k e in
      let z : 0 < points δ = omega arith in
      let p : k / (points δ * points δ) < points δ =
      ap_below k (points δ) z h in
      both_ways (at k)
      (none_of_all (k / (points δ * points δ)) p ((k / points δ) % points δ) (mod_below (k / points δ) (points δ) z) (k % points δ) (mod_below k (points δ) z)) a))
    where
      ap_below : (k m : ℕ) → 0 < m → k < m * m * m → k / (m * m) < m
      ap_below k m z h =
          subst (λ x. x < m) (div-div-eq-div-mul k m m) (div_below (k / m) m m z (div_below k m (m * m) z h))

  module _ (p q r : ℕ) (a : p < points δ) (b : q < points δ) (c : r < points δ)
      (lower : (k : ℕ) → k < p → (j : ℕ) → j < points δ → NoneBelow (points δ) (two_ways_at facts δ k j))
      (first : (k : ℕ) → k < q → NoneBelow (points δ) (two_ways_at facts δ p k))
      (second : NoneBelow r (two_ways_at facts δ p q)) where
    none_before : (k j i : ℕ) → j < points δ → i < points δ → (k * points δ + j) * points δ + i < (p * points δ + q) * points δ + r → two_ways_at facts δ k j i ≡ false
    none_before k j i d e h =
        elim (cases_order k p) [
          | inr (inl x) ↦ lower k x j d i e
          | inr (inr x) ↦
              let f : p * points δ + q < k * points δ = digits_lt x b in
              let l : p * points δ + q < k * points δ + j = omega arith in
              let g : (p * points δ + q) * points δ + r < (k * points δ + j) * points δ = digits_lt l c in
              absurd (omega arith)
          | inl x ↦
              let y : k * points δ ≡ p * points δ = ap (λ m. m * points δ) x in
              elim (cases_order j q) [
                | inr (inl z) ↦ subst (λ m. two_ways_at facts δ m j i ≡ false) (sym x) (first j z i e)
                | inr (inr z) ↦
                    let l : p * points δ + q < k * points δ + j = omega arith in
                    let g : (p * points δ + q) * points δ + r < (k * points δ + j) * points δ = digits_lt l c in
                    absurd (omega arith)
                | inl z ↦
                    let w : (k * points δ + j) * points δ ≡ (p * points δ + q) * points δ = ap (λ m. m * points δ) (omega arith) in
                    subst (λ m. two_ways_at facts δ m j i ≡ false) (sym x) (subst (λ m. two_ways_at facts δ p m i ≡ false) (sym z) (second i (omega arith)))
              ]
        ]

    whole : (k : ℕ) → k ≡ ((k / (points δ * points δ)) * points δ + (k / points δ) % points δ) * points δ + k % points δ
    whole k =
        let e : k / points δ ≡ (k / (points δ * points δ)) * points δ + (k / points δ) % points δ =
        sym (div-add-mod' (k / points δ) (points δ)) ∙ ap (λ x. x * points δ + (k / points δ) % points δ) (div-div-eq-div-mul k (points δ) (points δ)) in
        sym (div-add-mod' k (points δ)) ∙ ap (λ x. x * points δ + k % points δ) e

    pub lowest_ways : two_ways_at facts δ p q r ≡ true → ways facts δ ≡ two_ways p q r
    unfolding n at triple
    lowest_ways e =
        let m : ℕ = points δ in
        let z : 0 < m = omega arith in
        let k : ℕ = triple m p q r b c in
        let here : at k ≡ true =
        ap (λ i. two_ways_at facts δ i ((k / m) % m) (k % m)) (triple_outer m p q r b c)
        ∙ (ap (λ i. two_ways_at facts δ p i (k % m)) (triple_middle m p q r b c) ∙ (ap (λ i. two_ways_at facts δ p q i) (triple_inner m p q r b c) ∙ e)) in
        let found : lowest (m * m * m) at ≡ some k =
        lowest_is (m * m * m) at k (triple_below m p q r b c a) here
        (λ i h.
        none_before (i / (m * m)) ((i / m) % m) (i % m) (mod_below (i / m) m z) (mod_below i m z)
        (subst (λ x. x < (p * m + q) * m + r) (whole i) h)) in
        ap (ways_of m) found
        ∙ (ap (λ i. two_ways i ((k / m) % m) (k % m)) (triple_outer m p q r b c)
        ∙ (ap (λ i. two_ways p i (k % m)) (triple_middle m p q r b c) ∙ ap (λ i. two_ways p q i) (triple_inner m p q r b c)))
