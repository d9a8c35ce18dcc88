-- Sets joined over one valuation after another.
use Rattle.std.proofs.Common.{◌≡◌, ℕ, ◌+◌, ◌^◌, Bool, true, false, ◌&&◌, ◌||◌, eqb, ltb, sym, refl, ap, ◌∙◌, ap₂, add-one}
use Rattle.std.proofs.lemmas.Bool.{lt-ltb, and_parts}
use Rattle.locks.specs.Meaning.{any_below}
use Rattle.golog.specs.Programs.{Prog}
use Rattle.golog.specs.Points.{points, word, next, valuation, together, go_on_together, two_ways_at}
use Rattle.golog.proofs.Bridge.{next_in}
use Rattle.golog.proofs.Searches.{any_found}
use Rattle.std.proofs.Math.Bool.{or-false, or_comm}

any_with : (t : ℕ → Bool) (n : ℕ) (x y : Bool) → x ≡ any_below n t → y ≡ t n → (x || y) ≡ any_below (n + 1) t
any_with t n x y e f = ap₂ ◌||◌ e f ∙ (or_comm (any_below n t) (t n) ∙ sym (ap (λ k. any_below k t) (add-one n)))

-- a set that is joined, or is not, since the first test holds, or fails
module _ (a b : ℕ → Bool) (n : ℕ) (x : Bool) (old : x ≡ any_below n (λ k. a k && b k)) where
  pub joined_more : (y : Bool) → a n ≡ true → y ≡ b n → (x || y) ≡ any_below (n + 1) (λ k. a k && b k)
  joined_more y e f = any_with (λ k. a k && b k) n x y old (f ∙ sym (ap (λ c. c && b n) e))

  pub left_out : a n ≡ false → x ≡ any_below (n + 1) (λ k. a k && b k)
  left_out e = sym (or-false x) ∙ any_with (λ k. a k && b k) n x false old (sym (ap (λ c. c && b n) e))

and_moved : (a l e : Bool) → (a ≡ true → l ≡ true) → (a && (l && e)) ≡ (e && a)
and_moved true true true h = refl
and_moved true true false h = refl
and_moved true false e h = absurd_of (h refl) e
  where
    absurd_of : false ≡ true → (e : Bool) → false ≡ (e && true)
    absurd_of z true = z
    absurd_of z false = refl
and_moved false l true h = refl
and_moved false l false h = refl

-- those that come next together, among those with one act word
pub together_is :
    (δ : Prog) (facts p q j : ℕ) (x y : Bool) → x ≡ any_below (2 ^ facts) (λ n. next δ (valuation n) p q && next δ (valuation n) p j) →
    y ≡ (ltb j (points δ) && eqb (word δ q) (word δ j)) → (x && y) ≡ together facts δ p q j
together_is δ facts p q j x y e f =
    ap₂ ◌&&◌ e f
    ∙ and_moved (any_below (2 ^ facts) (λ n. next δ (valuation n) p q && next δ (valuation n) p j)) (ltb j (points δ)) (eqb (word δ q) (word δ j))
    (λ h.
    let (n, _, z) = any_found (2 ^ facts) (λ n. next δ (valuation n) p q && next δ (valuation n) p j) h in
    let (_, w) = and_parts (next δ (valuation n) p q) (next δ (valuation n) p j) z in
    lt-ltb j (points δ) (next_in δ (valuation n) p j w))

-- a second way, from the two sets
pub two_ways_from : (δ : Prog) (facts p q r : ℕ) (x y : Bool) → x ≡ together facts δ p q r → y ≡ go_on_together facts δ q r →
    (ltb q r && (x && y)) ≡ two_ways_at facts δ p q r
two_ways_from δ facts p q r x y f g = ap (λ b. ltb q r && b) (ap₂ ◌&&◌ f g)
