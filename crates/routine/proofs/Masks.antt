-- Bits of sums of sets, of moved sets, and of what is left of a number.
use Rattle.std.proofs.Common.{◌≡◌, ℕ, zero, suc, ◌+◌, ◌-◌, ◌*◌, ◌/◌, ◌%◌, ◌^◌, ◌<◌, ◌≤◌, false, ◌&&◌, ◌||◌, eqb, sym, refl, ap, ◌∙◌, inl, inr, mul_assoc, arith}
use native.Mathlib.Nat.{zero-div, div-eq_of_lt}
use lib.Bits.{bit_and, bit_or, and_shr, and_mod, or_shr, or_mod, shifted_even}
use Rattle.std.proofs.lemmas.Nat.{pow-add, shl-shr, shr-shr, mod-pow-add, field_of, mod_below, mod-mul-add}
use Rattle.std.proofs.lemmas.Bool.{cases_lt, cases_eq, le-leb, lt-leb, eq-eqb, ne_eqb}
use Rattle.golog.specs.Points.{valuation as has}
use Rattle.routine.specs.Sets.{moved}

-- a bit is 0 or 1
or_bit : (x y : ℕ) → x < 2 → y < 2 → eqb (bit_or x y) 1 ≡ (eqb x 1 || eqb y 1)
or_bit zero zero h k = refl
or_bit zero (suc zero) h k = refl
or_bit (suc zero) zero h k = refl
or_bit (suc zero) (suc zero) h k = refl
or_bit (suc (suc x)) y h k = absurd (omega arith)
or_bit zero (suc (suc y)) h k = absurd (omega arith)
or_bit (suc zero) (suc (suc y)) h k = absurd (omega arith)

and_bit : (x y : ℕ) → x < 2 → y < 2 → eqb (bit_and x y) 1 ≡ (eqb x 1 && eqb y 1)
and_bit zero zero h k = refl
and_bit zero (suc zero) h k = refl
and_bit (suc zero) zero h k = refl
and_bit (suc zero) (suc zero) h k = refl
and_bit (suc (suc x)) y h k = absurd (omega arith)
and_bit zero (suc (suc y)) h k = absurd (omega arith)
and_bit (suc zero) (suc (suc y)) h k = absurd (omega arith)

pub has_or : (a b j : ℕ) → has (bit_or a b) j ≡ (has a j || has b j)
has_or a b j =
    ap (λ x. eqb (x % 2) 1) (or_shr a b j)
    ∙ (ap (λ x. eqb x 1) (or_mod (a / (2 ^ j)) (b / (2 ^ j)) 1)
    ∙ or_bit ((a / (2 ^ j)) % 2) ((b / (2 ^ j)) % 2) (mod_below (a / (2 ^ j)) 2 (omega arith)) (mod_below (b / (2 ^ j)) 2 (omega arith)))

pub has_and : (a b j : ℕ) → has (bit_and a b) j ≡ (has a j && has b j)
has_and a b j =
    ap (λ x. eqb (x % 2) 1) (and_shr a b j)
    ∙ (ap (λ x. eqb x 1) (and_mod (a / (2 ^ j)) (b / (2 ^ j)) 1)
    ∙ and_bit ((a / (2 ^ j)) % 2) ((b / (2 ^ j)) % 2) (mod_below (a / (2 ^ j)) 2 (omega arith)) (mod_below (b / (2 ^ j)) 2 (omega arith)))

pub has_none : (j : ℕ) → has 0 j ≡ false
has_none j = ap (λ x. eqb (x % 2) 1) (zero-div (2 ^ j))

pub has_past : (n k j : ℕ) → n < 2 ^ k → k ≤ j → has n j ≡ false
has_past n k j h l =
    let e : 2 ^ j ≡ 2 ^ k * 2 ^ (j - k) = ap (λ i. 2 ^ i) (omega arith) ∙ pow-add 2 k (j - k) in
    ap (λ x. eqb (x % 2) 1) (ap (λ i. n / 2 ^ i) (omega arith) ∙ (sym (shr-shr n k (j - k)) ∙ (ap (λ x. x / 2 ^ (j - k)) (div-eq_of_lt h) ∙ zero-div (2 ^ (j - k)))))

-- the low bits of a number stay
low_bit : (x d : ℕ) → (x % 2 ^ (d + 1)) % 2 ≡ x % 2
low_bit x d =
    ap (λ y. y % 2) (mod-pow-add x d 1) ∙ mod-mul-add ((x / 2) % 2 ^ d) 2 (x % 2) (mod_below x 2 (omega arith))

pub has_low : (n k j : ℕ) → j < k → has (n % 2 ^ k) j ≡ has n j
has_low n k j h =
    let d : ℕ = k - j - 1 in
    ap (λ x. eqb (x % 2) 1) (ap (λ i. (n % 2 ^ i) / 2 ^ j) (omega arith) ∙ field_of n (d + 1) j)
    ∙ ap (λ x. eqb x 1) (low_bit (n / 2 ^ j) d)

-- a set moved up
moved_far : (a s j : ℕ) → s ≤ j → has (a * 2 ^ s) j ≡ has a (j - s)
moved_far a s j h =
    ap (λ x. eqb (x % 2) 1)
    (ap (λ i. a * 2 ^ s / 2 ^ i) (omega arith) ∙ (sym (shr-shr (a * 2 ^ s) s (j - s)) ∙ ap (λ x. x / 2 ^ (j - s)) (shl-shr a s)))

moved_near : (a s j : ℕ) → j < s → has (a * 2 ^ s) j ≡ false
moved_near a s j h =
    let d : ℕ = s - j - 1 in
    let e : a * 2 ^ s ≡ a * 2 ^ suc d * 2 ^ j =
    ap (λ i. a * 2 ^ i) (omega arith) ∙ (ap (λ x. a * x) (pow-add 2 (suc d) j) ∙ sym (mul_assoc a (2 ^ suc d) (2 ^ j))) in
    ap (λ x. eqb (x % 2) 1) (ap (λ x. x / 2 ^ j) e ∙ shl-shr (a * 2 ^ suc d) j) ∙ ap (λ x. eqb x 1) (shifted_even a d)

pub has_moved : (a s j : ℕ) → has (a * 2 ^ s) j ≡ moved s (has a) j
has_moved a s j =
    elim (cases_lt j s) [
      | inl h ↦ moved_near a s j h ∙ sym (ap (λ b. b && has a (j - s)) (lt-leb s j h))
      | inr h ↦ moved_far a s j h ∙ sym (ap (λ b. b && has a (j - s)) (le-leb s j h))
    ]

pub moved_holds : (a s j : ℕ) → j < 64 → has ((a * 2 ^ s) % 2 ^ 64) j ≡ moved s (has a) j
moved_holds a s j h = has_low (a * 2 ^ s) 64 j h ∙ has_moved a s j

-- the set of one point
has_unit : (j : ℕ) → has 1 j ≡ eqb j 0
has_unit zero = refl
has_unit (suc j) = has_past 1 1 (suc j) (omega arith) (omega arith) ∙ sym (ne_eqb (suc j) 0 (λ e. omega arith))

pub has_single : (k j : ℕ) → has (1 * 2 ^ k) j ≡ eqb j k
has_single k j =
    has_moved 1 k j
    ∙ elim (cases_lt j k) [
      | inl h ↦ ap (λ b. b && has 1 (j - k)) (lt-leb k j h) ∙ sym (ne_eqb j k (λ e. omega arith))
      | inr h ↦
          ap (λ b. b && has 1 (j - k)) (le-leb k j h)
          ∙ (has_unit (j - k)
          ∙ elim (cases_eq j k) [
            | inl e ↦ eq-eqb (j - k) 0 (omega arith) ∙ sym (eq-eqb j k e)
            | inr e ↦ ne_eqb (j - k) 0 (λ z. e (omega arith)) ∙ sym (ne_eqb j k e)
          ])
    ]
