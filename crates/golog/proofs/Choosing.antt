-- Coming to stop surely, by positions, is having a way of choosing that ends.
use Rattle.std.proofs.Common.{◌≡◌, ℕ, zero, suc, ◌<◌, Bool, true, false, ◌&&◌, eqb, [], ◌∷◌, ◌++◌, sym, refl, ap, ◌∙◌, subst, inl, inr, append_assoc, append-nil, mod-eq_of_lt}
use mathlib.Core.Option.{Option, none, some}
use native.Mathlib.Nat.{div-eq_of_lt}
use lib.Arith.{digits_div, digits_mod}
use Rattle.std.proofs.lemmas.Bool.{cases_order, and_parts, and_from, or_left, or_right, eqb-true, eq-eqb, both_ways}
use Rattle.locks.specs.Meaning.{Meaning, Lawful, Live, reactions, any_below}
use Rattle.golog.specs.Search.{lowest}
use Rattle.golog.specs.Programs.{Valuation, Prog, Final, Step}
use Rattle.golog.specs.Points.{points, word, rem, next, goes_on, OneWay}
use Rattle.golog.specs.Positions.{position, point_of, state_of, first_position, facts_at, rem_at, next_by, usable, lead_to, lead}
use Rattle.golog.specs.Positions.Lead.{to}
use Rattle.golog.specs.Standings.{History, Choice, Way, Ends}
use Rattle.golog.specs.Standings.Choice.{stop, go}
use Rattle.golog.specs.Sheets.{Within}
use Rattle.golog.specs.Sureness.{WithinIsEnding}
use Rattle.golog.proofs.Bridge.{bridge, next_in, rem_zero}
use Rattle.golog.proofs.Searches.{any_found, any_from, lowest_none, lowest_some}
use Rattle.golog.proofs.Numbers.{lead_found}

-- two next points of one act that both go on under one valuation have one remainder
pub one_remainder :
    (δ : Prog) → OneWay δ → (v w : Valuation) (p q r : ℕ) → next δ v p q ≡ true → next δ v p r ≡ true → word δ q ≡ word δ r →
    goes_on δ w q ≡ true → goes_on δ w r ≡ true → rem δ q ≡ rem δ r
one_remainder δ one v w p q r a b e g h =
    elim (cases_order q r) [
      | inl x ↦ ap (rem δ) x
      | inr (inl x) ↦ absurd (one p q r x (v, a, b, e) (w, g, h))
      | inr (inr x) ↦ absurd (one p r q x (v, b, a, sym e) (w, h, g))
    ]

-- the point and the state of a position
module _ (m : Meaning) (k s : ℕ) (h : s < m.states) where
  pub point_position : point_of m (position m k s) ≡ k
  point_position = digits_div k h

  pub state_position : state_of m (position m k s) ≡ s
  state_position = digits_mod k h

-- a program that has a step, or may stop, goes on
pub step_goes_on : (δ : Prog) (v : Valuation) (q a : ℕ) (δ' : Prog) → Step v a (rem δ q) δ' → goes_on δ v q ≡ true
step_goes_on δ v q a δ' s =
    let (k, n, _, _) = (bridge δ v q a δ').0 s in
    or_right (Final (rem δ q) v) (any_below (points δ) (next δ v q)) (any_from (points δ) (next δ v q) k (next_in δ v q k n) n)

ends_goes_on : (m : Meaning) (f : Way) (n : ℕ) (h : History) (δ : Prog) (q s : ℕ) → Ends m f n h (rem δ q) s → goes_on δ (m.holds s) q ≡ true
ends_goes_on m f zero h δ q s (_, x) = or_left (Final (rem δ q) (m.holds s)) (any_below (points δ) (next δ (m.holds s) q)) x
ends_goes_on m f (suc n) h δ q s (inl (_, x)) = or_left (Final (rem δ q) (m.holds s)) (any_below (points δ) (next δ (m.holds s) q)) x
ends_goes_on m f (suc n) h δ q s (inr (a, _, (e, δ', s', (t, _, _)), _)) = step_goes_on δ (m.holds s) q a δ' t

-- a reaction leads where a next point of the act goes on
pub lead_goes :
    (m : Meaning) (δ : Prog) (p a e q : ℕ) → next_by m δ p a q ≡ true → goes_on δ (m.holds (m.after (state_of m p) a e)) q ≡ true → q < points δ →
    (k : ℕ) × (lead m δ p a e ≡ to (position m k (m.after (state_of m p) a e))) × (next_by m δ p a k ≡ true)
    × (goes_on δ (m.holds (m.after (state_of m p) a e)) k ≡ true)
lead_goes m δ p a e q n g l =
    let s : ℕ = m.after (state_of m p) a e in
    let t : ℕ → Bool = λ k. next_by m δ p a k && goes_on δ (m.holds s) k in
    found (lowest (points δ) t) refl
  where
    found : (x : Option ℕ) → lowest (points δ) (λ k. next_by m δ p a k && goes_on δ (m.holds (m.after (state_of m p) a e)) k) ≡ x →
        (k : ℕ) × (lead m δ p a e ≡ to (position m k (m.after (state_of m p) a e))) × (next_by m δ p a k ≡ true)
        × (goes_on δ (m.holds (m.after (state_of m p) a e)) k ≡ true)
    found none x =
        absurd (both_ways _ (lowest_none (points δ) (λ k. next_by m δ p a k && goes_on δ (m.holds (m.after (state_of m p) a e)) k) x q l)
        (and_from (next_by m δ p a q) (goes_on δ (m.holds (m.after (state_of m p) a e)) q) n g))
    found (some k) x =
        let (_, y, _) = lowest_some (points δ) (λ k. next_by m δ p a k && goes_on δ (m.holds (m.after (state_of m p) a e)) k) k x in
        let (z, u) = and_parts (next_by m δ p a k) (goes_on δ (m.holds (m.after (state_of m p) a e)) k) y in
        (k, ap (lead_to m (m.after (state_of m p) a e)) x, z, u)

-- a way that ends gives a number
ends_within :
    (m : Meaning) → Lawful m → (δ : Prog) → OneWay δ → (f : Way) (n : ℕ) (h : History) (p : ℕ) → Ends m f n h (rem_at m δ p) (state_of m p) → Within m δ n p
ends_within m law δ one f zero h p (_, x) = x
ends_within m law δ one f (suc n) h p (inl (_, x)) = inl x
ends_within m law δ one f (suc n) h p (inr (a, _, (e₀, δ₀, s₀, (t₀, x₀, _)), all)) =
    let v : Valuation = facts_at m p in
    let (q₀, n₀, w₀, _) = (bridge δ v (point_of m p) a δ₀).0 t₀ in
    let u : usable m δ p a ≡ true =
    and_from (m.allowed (state_of m p) a) (any_below (points δ) (next_by m δ p a)) (law.possible_allowed (state_of m p) a e₀ x₀)
    (any_from (points δ) (next_by m δ p a) q₀ (next_in δ v (point_of m p) q₀ n₀)
    (and_from (next δ v (point_of m p) q₀) (eqb (word δ q₀) a) n₀ (eq-eqb (word δ q₀) a w₀))) in
    inr (
      a,
      u,
      λ e x.
          let (δ', s', (t, _, es), ends) = all e x in
          let s : ℕ = m.after (state_of m p) a e in
          let (q, nq, wq, rq) = (bridge δ v (point_of m p) a δ').0 t in
          let bq : next_by m δ p a q ≡ true = and_from (next δ v (point_of m p) q) (eqb (word δ q) a) nq (eq-eqb (word δ q) a wq) in
          let ends₁ : Ends m f n (h ++ (a, e) ∷ []) (rem δ q) s =
          subst (λ r. Ends m f n (h ++ (a, e) ∷ []) r s) (sym rq) (subst (Ends m f n (h ++ (a, e) ∷ []) δ') es ends) in
          let gq = ends_goes_on m f n (h ++ (a, e) ∷ []) δ q s ends₁ in
          let (k, l, bk, gk) = lead_goes m δ p a e q bq gq (next_in δ v (point_of m p) q nq) in
          let (nk, wk) = and_parts (next δ v (point_of m p) k) (eqb (word δ k) a) bk in
          let r = one_remainder δ one v (m.holds s) (point_of m p) q k nq nk (wq ∙ sym (eqb-true (word δ k) a wk)) gq gk in
          let b = law.after_below (state_of m p) a e x in
          let ends₂ : Ends m f n (h ++ (a, e) ∷ []) (rem_at m δ (position m k s)) (state_of m (position m k s)) =
          subst (λ j. Ends m f n (h ++ (a, e) ∷ []) (rem_at m δ (position m k s)) j) (sym (state_position m k s b))
          (subst (λ j. Ends m f n (h ++ (a, e) ∷ []) (rem δ j) s) (sym (point_position m k s b))
          (subst (λ j. Ends m f n (h ++ (a, e) ∷ []) j s) r ends₁)) in
          (position m k s, l, ends_within m law δ one f n (h ++ (a, e) ∷ []) (position m k s) ends₂),
    )

-- The way that a number gives: its act, and after a possible reaction the way of the position that it leads to.
follow : (b : Bool) → (b ≡ true → Choice) → Choice
follow true c = c refl
follow false c = stop

way_of : (m : Meaning) (δ : Prog) (n p : ℕ) → Within m δ n p → History → Choice
way_of m δ zero p w h = stop
way_of m δ (suc n) p (inl x) h = stop
way_of m δ (suc n) p (inr (a, u, k)) [] = go a
way_of m δ (suc n) p (inr (a, u, k)) (x ∷ h) =
    follow (m.possible (state_of m p) a x.1) (λ y. way_of m δ n (k x.1 y).0 (k x.1 y).2 h)

followed : (b : Bool) → b ≡ true → (y : b ≡ true) × ((c : b ≡ true → Choice) → follow b c ≡ c y)
unfolding follow
followed true x = (refl, λ c. refl)
followed false x = absurd (both_ways false refl x)

-- ending within n asks a way only about what comes after the history
ends_shift :
    (m : Meaning) (f g : Way) (n : ℕ) (h k : History) (δ : Prog) (s : ℕ) → ((j : History) → f (h ++ j) ≡ g (k ++ j)) → Ends m g n k δ s → Ends m f n h δ s
ends_shift m f g zero h k δ s same (x, y) = (here ∙ x, y)
  where
    here : f h ≡ g k
    here = ap f (sym (append-nil h)) ∙ (same [] ∙ ap g (append-nil k))
ends_shift m f g (suc n) h k δ s same (inl (x, y)) = inl (here ∙ x, y)
  where
    here : f h ≡ g k
    here = ap f (sym (append-nil h)) ∙ (same [] ∙ ap g (append-nil k))
ends_shift m f g (suc n) h k δ s same (inr (a, x, t, all)) =
    inr (
      a,
      here ∙ x,
      t,
      λ e y.
          let (δ', s', u, ends) = all e y in (
            δ',
            s',
            u,
            ends_shift m f g n (h ++ (a, e) ∷ []) (k ++ (a, e) ∷ []) δ' s'
                (λ j. ap f (append_assoc h ((a, e) ∷ []) j) ∙ (same ((a, e) ∷ j) ∙ ap g (sym (append_assoc k ((a, e) ∷ []) j)))) ends,
          ),
    )
  where
    here : f h ≡ g k
    here = ap f (sym (append-nil h)) ∙ (same [] ∙ ap g (append-nil k))

-- a next point by an act is had by a step
pub next_by_step : (m : Meaning) (δ : Prog) (p a k : ℕ) → next_by m δ p a k ≡ true → Step (facts_at m p) a (rem_at m δ p) (rem δ k)
next_by_step m δ p a k h =
    let (n, w) = and_parts (next δ (facts_at m p) (point_of m p) k) (eqb (word δ k) a) h in
    (bridge δ (facts_at m p) (point_of m p) a (rem δ k)).1 k n (eqb-true (word δ k) a w) refl

within_ends : (m : Meaning) → Lawful m → Live m → (δ : Prog) (n p : ℕ) (w : Within m δ n p) → Ends m (way_of m δ n p w) n [] (rem_at m δ p) (state_of m p)
unfolding way_of
within_ends m law live δ zero p w = (refl, w)
within_ends m law live δ (suc n) p (inl x) = inl (refl, x)
within_ends m law live δ (suc n) p (inr (a, u, k)) =
    let (al, so) = and_parts (m.allowed (state_of m p) a) (any_below (points δ) (next_by m δ p a)) u in
    let (e₀, _, x₀) = any_found reactions (m.possible (state_of m p) a) (live (state_of m p) a al) in
    let (q₀, _, b₀) = any_found (points δ) (next_by m δ p a) so in
    inr (
      a,
      refl,
      (e₀, rem δ q₀, m.after (state_of m p) a e₀, (next_by_step m δ p a q₀ b₀, x₀, refl)),
      λ e x.
          let (y, same) = followed (m.possible (state_of m p) a e) x in
          let s : ℕ = m.after (state_of m p) a e in
          let t : ℕ → Bool = λ k. next_by m δ p a k && goes_on δ (m.holds s) k in
          let q : ℕ = (k e y).0 in
          let v : Within m δ n q = (k e y).2 in
          let (j, lo, po) = lead_found m s (lowest (points δ) t) q (k e y).1 in
          let (_, z, _) = lowest_some (points δ) t j lo in
          let (b, _) = and_parts (next_by m δ p a j) (goes_on δ (m.holds s) j) z in
          let below = law.after_below (state_of m p) a e y in
          let ends : Ends m (way_of m δ n q v) n [] (rem δ j) s =
          subst (λ i. Ends m (way_of m δ n q v) n [] (rem δ j) i) (ap (state_of m) (sym po) ∙ state_position m j s below)
          (subst (λ i. Ends m (way_of m δ n q v) n [] (rem δ i) (state_of m q)) (ap (point_of m) (sym po) ∙ point_position m j s below)
          (within_ends m law live δ n q v)) in (
            rem δ j,
            s,
            (next_by_step m δ p a j b, y, refl),
            ends_shift m (way_of m δ (suc n) p (inr (a, u, k))) (way_of m δ n q v) n ((a, e) ∷ []) [] (rem δ j) s
                (λ i. same (λ y. way_of m δ n (k e y).0 (k e y).2 i)) ends,
          ),
    )

-- the first standing
pub first_standing : (m : Meaning) → Lawful m → (δ : Prog) → (rem_at m δ (first_position m) ≡ δ) × (state_of m (first_position m) ≡ m.first)
first_standing m law δ =
    (ap (rem δ) (div-eq_of_lt law.first_below) ∙ rem_zero δ, mod-eq_of_lt law.first_below)

pub within_is_ending : WithinIsEnding
within_is_ending m law live δ one n =
    let (r, s) = first_standing m law δ in (
      λ w. (
        way_of m δ n (first_position m) w,
        subst (λ i. Ends m (way_of m δ n (first_position m) w) n [] δ i) s
            (subst (λ i. Ends m (way_of m δ n (first_position m) w) n [] i (state_of m (first_position m))) r
            (within_ends m law live δ n (first_position m) w)),
      ),
      λ f ends.
          ends_within m law δ one f n [] (first_position m)
          (subst (λ i. Ends m f n [] i (state_of m (first_position m))) (sym r) (subst (λ i. Ends m f n [] δ i) (sym s) ends)),
    )
