-- Which points go on.
use Rattle.std.proofs.Common.{◌≡◌, ℕ, zero, suc, ◌+◌, ◌/◌, ◌%◌, ◌^◌, ◌<◌, ◌≤◌, Bool, true, false, not, ◌&&◌, ◌||◌, eqb, ltb, sym, ap, ◌∙◌, ap₂, inl, inr, pow-suc, arith}
use native.Mathlib.Nat.{div-eq_of_lt-le}
use Rattle.std.proofs.lemmas.Nat.{pow_pos}
use Rattle.std.proofs.Math.Bool.{and-true, and-false, or-false}
use Rattle.std.proofs.lemmas.Bool.{false_from_ne_true, cases_lt, cases_order, eq-eqb, ne_eqb, lt-ltb, le-ltb, or_cases, both_ways}
use Rattle.std.proofs.lemmas.Bool.Decides.{same_from_decides}
use Rattle.locks.specs.Meaning.{any_below}
use Rattle.golog.specs.Programs.{Prog, Valuation, Final}
use Rattle.golog.specs.Points.{points, rem, next, goes_on, valuation}
use Rattle.golog.proofs.Bridge.{next_in}
use Rattle.golog.proofs.Searches.{any_found, any_from}
use Rattle.golog.proofs.OneWays.{Dead, dead_past, next_from}
use Rattle.routine.specs.Sets.{room, has, some_in}
use Rattle.routine.specs.Rows.{IsRow}
use Rattle.routine.specs.declared.row.Row.{Row}
use Rattle.routine.specs.declared.set.PointSet.{PointSet}
use Rattle.routine.proofs.Masks.{has_past}

pub same_tests : (a b : Bool) → (a ≡ true → b ≡ true) → (b ≡ true → a ≡ true) → a ≡ b
same_tests a b f g = same_from_decides a b (f, g) (λ e. e, λ e. e)

-- a number has a bit unless it is 0
top_bit : (k n : ℕ) → 2 ^ k ≤ n → n < 2 ^ suc k → valuation n k ≡ true
top_bit k n h l =
    let e = pow-suc 2 k in
    let d : n / 2 ^ k ≡ 1 = div-eq_of_lt-le {k = 1} (2 ^ k) (omega arith) (omega arith) in
    ap (λ x. eqb (x % 2) 1) d

some_bit : (k n : ℕ) → n < 2 ^ k → not (eqb n 0) ≡ any_below k (valuation n)
some_bit zero n h = let e : n ≡ 0 = omega arith in ap (λ x. not (eqb x 0)) e
some_bit (suc k) n h =
    elim (cases_lt n (2 ^ k)) [
      | inl l ↦ some_bit k n l ∙ sym (ap (λ b. b || any_below k (valuation n)) (has_past n k k l (omega arith)))
      | inr l ↦
          let p = pow_pos k in
          ap not (ne_eqb n 0 (λ e. omega arith)) ∙ sym (ap (λ b. b || any_below k (valuation n)) (top_bit k n l h))
    ]

pub some_in_is : (s : PointSet) → s.bits < 2 ^ 64 → not (eqb s.bits 0) ≡ some_in s
unfolding some_in
some_in_is s h = some_bit 64 s.bits h

-- a row says whether its point goes on
pub row_goes_on :
    (δ : Prog) (v : Valuation) (k : ℕ) (r : Row) → points δ ≤ room → IsRow δ v k r → (r.stop || some_in r.next) ≡ goes_on δ v k
unfolding some_in
row_goes_on δ v k r few (s, n) =
    ap₂ ◌||◌ s
    (same_tests (any_below room (has r.next)) (any_below (points δ) (next δ v k))
    (λ e.
    let (q, h, x) = any_found room (has r.next) e in
    let y : next δ v k q ≡ true = sym (n q h) ∙ x in
    any_from (points δ) (next δ v k) q (next_in δ v k q y) y)
    (λ e.
    let (q, h, x) = any_found (points δ) (next δ v k) e in
    let l : q < room = omega arith in
    any_from room (has r.next) q l (n q l ∙ x)))

-- past the last point nothing goes on
final_past : (δ : Prog) (v : Valuation) (k : ℕ) → points δ ≤ k → Final (rem δ k) v ≡ false
unfolding Dead
final_past δ v zero h = absurd (omega arith)
final_past δ v (suc k) h = (dead_past v 0 δ k (omega arith)).1

pub next_past : (δ : Prog) (v : Valuation) (k q : ℕ) → points δ ≤ k → next δ v k q ≡ false
next_past δ v k q h = false_from_ne_true (next δ v k q) (λ e. let l = next_from δ v k q e in omega arith)

pub row_past : (δ : Prog) (v : Valuation) (k : ℕ) → points δ ≤ k → (false ≡ Final (rem δ k) v) × ((q : ℕ) → false ≡ next δ v k q)
row_past δ v k h = (sym (final_past δ v k h), λ q. sym (next_past δ v k q h))

pub goes_on_past : (δ : Prog) (v : Valuation) (k : ℕ) → points δ ≤ k → goes_on δ v k ≡ false
goes_on_past δ v k h =
    false_from_ne_true (goes_on δ v k)
    (λ e.
    elim (or_cases (Final (rem δ k) v) (any_below (points δ) (next δ v k)) e) [
      | inl x ↦ both_ways (Final (rem δ k) v) (final_past δ v k h) x
      | inr x ↦ let (q, _, y) = any_found (points δ) (next δ v k) x in both_ways (next δ v k q) (next_past δ v k q h) y
    ])

-- the numbers below a bound that pass a test, one more
one_more : (t : ℕ → Bool) (p j : ℕ) (b : Bool) → t p ≡ b → ((ltb j p && t j) || (b && eqb j p)) ≡ (ltb j (p + 1) && t j)
one_more t p j b e =
    elim (cases_order j p) [
      | inl x ↦
          ap₂ ◌||◌ (ap (λ c. c && t j) (le-ltb j p (omega arith))) (ap₂ ◌&&◌ (sym e ∙ ap t (sym x)) (eq-eqb j p x))
          ∙ (and-true (t j) ∙ sym (ap (λ c. c && t j) (lt-ltb j (p + 1) (omega arith))))
      | inr (inl x) ↦
          ap₂ ◌||◌ (ap (λ c. c && t j) (lt-ltb j p x)) (ap (λ c. b && c) (ne_eqb j p (λ z. omega arith)) ∙ and-false b)
          ∙ (or-false (t j) ∙ sym (ap (λ c. c && t j) (lt-ltb j (p + 1) (omega arith))))
      | inr (inr x) ↦
          ap₂ ◌||◌ (ap (λ c. c && t j) (le-ltb j p (omega arith))) (ap (λ c. b && c) (ne_eqb j p (λ z. omega arith)) ∙ and-false b)
          ∙ sym (ap (λ c. c && t j) (le-ltb j (p + 1) (omega arith)))
    ]

module _ (t : ℕ → Bool) (p j : ℕ) (x : Bool) (old : x ≡ (ltb j p && t j)) where
  pub taken_in : (y : Bool) → t p ≡ true → y ≡ eqb j p → (x || y) ≡ (ltb j (p + 1) && t j)
  taken_in y e f = ap₂ ◌||◌ old f ∙ one_more t p j true e

  pub passed_over : t p ≡ false → x ≡ (ltb j (p + 1) && t j)
  passed_over e = old ∙ (sym (or-false (ltb j p && t j)) ∙ one_more t p j false e)

pub all_below_room : (t : ℕ → Bool) (n j : ℕ) → (n ≤ j → t j ≡ false) → (ltb j n && t j) ≡ t j
all_below_room t n j h =
    elim (cases_lt j n) [
      | inl l ↦ ap (λ c. c && t j) (lt-ltb j n l)
      | inr l ↦ ap (λ c. c && t j) (le-ltb j n l) ∙ sym (h l)
    ]
