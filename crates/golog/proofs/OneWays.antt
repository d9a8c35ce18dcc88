-- The check over so many facts decides whether a program has one way.
use Rattle.std.proofs.Common.{◌≡◌, ℕ, zero, suc, ◌+◌, ◌-◌, ◌*◌, ◌/◌, ◌%◌, ◌^◌, ◌<◌, ◌≤◌, Bool, true, false, cond, not, ◌&&◌, ◌||◌, eqb, ltb, sym, refl, ap, ◌∙◌, subst, ap₂, inl, inr, pow-suc, div-add-mod', div-one, arith, length-append}
use mathlib.Core.Option.{Option, none, some}
use native.Mathlib.Nat.{pow-succ', div-div-eq-div-mul}
use lib.Arith.{digits_lt, digits_div, digits_mod}
use Rattle.std.proofs.lemmas.Bool.{cases_lt, cases_order, and_parts, and_from, and_left, or_from, eqb-true, eq-eqb, ltb-true, lt-ltb, both_ways}
use Rattle.locks.specs.Meaning.{any_below}
use Rattle.golog.specs.Search.{lowest}
use Rattle.golog.specs.Programs.{Valuation, Cond, Prog, eval, cond_names_below, names_below, Final}
use Rattle.golog.specs.Programs.Cond.{always, never, fact, negated, both, any}
use Rattle.golog.specs.Programs.Prog.{act, test, seq, alt, star}
use Rattle.golog.specs.Points.{act_words, words, points, word, rem, numbered_from, numbered, takes, next, goes_on, valuation, Together, GoOnTogether, together, go_on_together, two_ways_at, ways_of, ways_place, WaysIsOneWay}
use Rattle.golog.specs.Points.Ways.{one_way, two_ways}
use Rattle.golog.proofs.Bridge.{next_in, words_numbered, rem_in_second, rem_in_right}
use Rattle.golog.proofs.Searches.{none_of, any_found, any_from, lowest_none, lowest_some}

-- two valuations of so many facts that agree on them
abbrev pub Agree : ℕ → Valuation → Valuation → Type 0
Agree n v w = (i : ℕ) → i < n → v i ≡ w i

module _ (n : ℕ) (v w : Valuation) (h : Agree n v w) where
  eval_agree : (c : Cond) → cond_names_below n c ≡ true → eval c v ≡ eval c w
  eval_agree always k = refl
  eval_agree never k = refl
  eval_agree (fact i) k = h i (ltb-true i n k)
  eval_agree (negated c) k = ap not (eval_agree c k)
  eval_agree (both c d) k =
      let (a, b) = and_parts (cond_names_below n c) (cond_names_below n d) k in ap₂ ◌&&◌ (eval_agree c a) (eval_agree d b)
  eval_agree (any c d) k =
      let (a, b) = and_parts (cond_names_below n c) (cond_names_below n d) k in ap₂ ◌||◌ (eval_agree c a) (eval_agree d b)

  pub final_agree : (p : Prog) → names_below n p ≡ true → Final p v ≡ Final p w
  final_agree (act a) k = refl
  final_agree (test c) k = eval_agree c k
  final_agree (seq p q) k =
      let (a, b) = and_parts (names_below n p) (names_below n q) k in ap₂ ◌&&◌ (final_agree p a) (final_agree q b)
  final_agree (alt p q) k =
      let (a, b) = and_parts (names_below n p) (names_below n q) k in ap₂ ◌||◌ (final_agree p a) (final_agree q b)
  final_agree (star p) k = refl

  takes_agree : (p : Prog) (a : ℕ) → names_below n p ≡ true → takes p v a ≡ takes p w a
  takes_agree (act b) a k = refl
  takes_agree (test c) a k = refl
  takes_agree (seq p q) a k =
      let (x, y) = and_parts (names_below n p) (names_below n q) k in
      ap₂ ◌||◌ (takes_agree p a x) (ap₂ ◌&&◌ (final_agree p x) (takes_agree q a y))
  takes_agree (alt p q) a k =
      let (x, y) = and_parts (names_below n p) (names_below n q) k in ap₂ ◌||◌ (takes_agree p a x) (takes_agree q a y)
  takes_agree (star p) a k = takes_agree p a k

names_numbered : (n k : ℕ) (p : Prog) → names_below n (numbered_from k p) ≡ names_below n p
names_numbered n k (act a) = refl
names_numbered n k (test c) = refl
names_numbered n k (seq p q) = ap₂ ◌&&◌ (names_numbered n k p) (names_numbered n (k + words p) q)
names_numbered n k (alt p q) = ap₂ ◌&&◌ (names_numbered n k p) (names_numbered n (k + words p) q)
names_numbered n k (star p) = names_numbered n k p

names_cond : (n : ℕ) (b : Bool) (p q : Prog) → names_below n p ≡ true → names_below n q ≡ true → names_below n (cond b p q) ≡ true
names_cond n true p q x y = x
names_cond n false p q x y = y

pub names_rem : (n : ℕ) (p : Prog) (k : ℕ) → names_below n p ≡ true → names_below n (rem p k) ≡ true
names_rem n (act a) zero h = refl
names_rem n (act a) (suc zero) h = refl
names_rem n (act a) (suc (suc k)) h = refl
names_rem n (test c) zero h = h
names_rem n (test c) (suc k) h = refl
names_rem n (seq p q) zero h = h
names_rem n (seq p q) (suc k) h =
    let (x, y) = and_parts (names_below n p) (names_below n q) h in
    names_cond n (ltb k (words p)) (seq (rem p (suc k)) q) (rem q (suc (k - words p)))
    (and_from (names_below n (rem p (suc k))) (names_below n q) (names_rem n p (suc k) x) y) (names_rem n q (suc (k - words p)) y)
names_rem n (alt p q) zero h = h
names_rem n (alt p q) (suc k) h =
    let (x, y) = and_parts (names_below n p) (names_below n q) h in
    names_cond n (ltb k (words p)) (rem p (suc k)) (rem q (suc (k - words p))) (names_rem n p (suc k) x) (names_rem n q (suc (k - words p)) y)
names_rem n (star p) zero h = h
names_rem n (star p) (suc k) h = and_from (names_below n (rem p (suc k))) (names_below n p) (names_rem n p (suc k) h) h

any_agree : (n : ℕ) (t u : ℕ → Bool) → ((k : ℕ) → t k ≡ u k) → any_below n t ≡ any_below n u
any_agree zero t u h = refl
any_agree (suc n) t u h = ap₂ ◌||◌ (h n) (any_agree n t u h)

module _ (n : ℕ) (v w : Valuation) (h : Agree n v w) (δ : Prog) (k : names_below n δ ≡ true) where
  pub next_agree : (p q : ℕ) → next δ v p q ≡ next δ w p q
  next_agree p q = takes_agree n v w h (rem (numbered δ) p) q (names_rem n (numbered δ) p (names_numbered n 0 δ ∙ k))

  pub goes_on_agree : (p : ℕ) → goes_on δ v p ≡ goes_on δ w p
  goes_on_agree p =
      ap₂ ◌||◌ (final_agree n v w h (rem δ p) (names_rem n δ p k)) (any_agree (points δ) (next δ v p) (next δ w p) (next_agree p))

-- every valuation of so many facts is one of the numbered ones
bit : Bool → ℕ
bit b = cond b 1 0

code : Valuation → ℕ → ℕ
code v zero = 0
code v (suc n) = code (λ i. v (suc i)) n * 2 + bit (v 0)

bit_below : (b : Bool) → bit b < 2
unfolding bit
bit_below true = omega arith
bit_below false = omega arith

code_below : (v : Valuation) (n : ℕ) → code v n < 2 ^ n
unfolding code
code_below v zero = omega arith
code_below v (suc n) = let h = code_below (λ i. v (suc i)) n in let b = bit_below (v 0) in let e = pow-suc 2 n in omega arith

bit_is : (b : Bool) → eqb (bit b) 1 ≡ b
unfolding bit
bit_is true = refl
bit_is false = refl

valuation_low : (x b : ℕ) → b < 2 → valuation (x * 2 + b) 0 ≡ eqb b 1
valuation_low x b h = ap (λ y. eqb (y % 2) 1) (div-one (x * 2 + b)) ∙ ap (λ y. eqb y 1) (digits_mod x h)

valuation_high : (x b i : ℕ) → b < 2 → valuation (x * 2 + b) (suc i) ≡ valuation x i
valuation_high x b i h =
    let e : (x * 2 + b) / (2 ^ suc i) ≡ x / (2 ^ i) =
    ap (λ y. (x * 2 + b) / y) (pow-succ' 2 i) ∙ (sym (div-div-eq-div-mul (x * 2 + b) 2 (2 ^ i)) ∙ ap (λ y. y / (2 ^ i)) (digits_div x h)) in
    ap (λ y. eqb (y % 2) 1) e

code_is : (n : ℕ) (v : Valuation) → Agree n (valuation (code v n)) v
unfolding code
code_is zero v i h = absurd (omega arith)
code_is (suc n) v zero h = valuation_low (code (λ i. v (suc i)) n) (bit (v 0)) (bit_below (v 0)) ∙ bit_is (v 0)
code_is (suc n) v (suc i) h = valuation_high (code (λ i. v (suc i)) n) (bit (v 0)) i (bit_below (v 0)) ∙ code_is n (λ i. v (suc i)) i (omega arith)

-- the two parts of two ways, tried and meant
module _ (facts : ℕ) (δ : Prog) (k : names_below facts δ ≡ true) where
  together_means : (p q r : ℕ) → together facts δ p q r ≡ true → Together δ p q r
  together_means p q r h =
      let (e, a) = and_parts (eqb (word δ q) (word δ r)) (any_below (2 ^ facts) (λ n. next δ (valuation n) p q && next δ (valuation n) p r)) h in
      let (n, _, b) = any_found (2 ^ facts) (λ n. next δ (valuation n) p q && next δ (valuation n) p r) a in
      let (x, y) = and_parts (next δ (valuation n) p q) (next δ (valuation n) p r) b in
      (valuation n, x, y, eqb-true (word δ q) (word δ r) e)

  together_tried : (p q r : ℕ) → Together δ p q r → together facts δ p q r ≡ true
  together_tried p q r (v, x, y, e) =
      let n : ℕ = code v facts in
      let g : Agree facts (valuation n) v = code_is facts v in
      and_from (eqb (word δ q) (word δ r)) (any_below (2 ^ facts) (λ n. next δ (valuation n) p q && next δ (valuation n) p r))
      (eq-eqb (word δ q) (word δ r) e)
      (any_from (2 ^ facts) (λ n. next δ (valuation n) p q && next δ (valuation n) p r) n (code_below v facts)
      (and_from (next δ (valuation n) p q) (next δ (valuation n) p r) (next_agree facts (valuation n) v g δ k p q ∙ x)
      (next_agree facts (valuation n) v g δ k p r ∙ y)))

  go_on_means : (q r : ℕ) → go_on_together facts δ q r ≡ true → GoOnTogether δ q r
  go_on_means q r h =
      let (n, _, b) = any_found (2 ^ facts) (λ n. goes_on δ (valuation n) q && goes_on δ (valuation n) r) h in
      let (x, y) = and_parts (goes_on δ (valuation n) q) (goes_on δ (valuation n) r) b in
      (valuation n, x, y)

  go_on_tried : (q r : ℕ) → GoOnTogether δ q r → go_on_together facts δ q r ≡ true
  go_on_tried q r (v, x, y) =
      let n : ℕ = code v facts in
      let g : Agree facts (valuation n) v = code_is facts v in
      any_from (2 ^ facts) (λ n. goes_on δ (valuation n) q && goes_on δ (valuation n) r) n (code_below v facts)
      (and_from (goes_on δ (valuation n) q) (goes_on δ (valuation n) r) (goes_on_agree facts (valuation n) v g δ k q ∙ x)
      (goes_on_agree facts (valuation n) v g δ k r ∙ y))

  two_ways_means : (p q r : ℕ) → two_ways_at facts δ p q r ≡ true → (q < r) × Together δ p q r × GoOnTogether δ q r
  two_ways_means p q r h =
      let (a, b) = and_parts (ltb q r) (together facts δ p q r && go_on_together facts δ q r) h in
      let (c, d) = and_parts (together facts δ p q r) (go_on_together facts δ q r) b in
      (ltb-true q r a, together_means p q r c, go_on_means q r d)

  two_ways_tried : (p q r : ℕ) → q < r → Together δ p q r → GoOnTogether δ q r → two_ways_at facts δ p q r ≡ true
  two_ways_tried p q r h x y =
      and_from (ltb q r) (together facts δ p q r && go_on_together facts δ q r) (lt-ltb q r h)
      (and_from (together facts δ p q r) (go_on_together facts δ q r) (together_tried p q r x) (go_on_tried q r y))

-- past the last point nothing is taken
unfoldable pub Dead : Valuation → ℕ → Prog → Type 0
Dead v a p = (takes p v a ≡ false) × (Final p v ≡ false)

pub dead_past : (v : Valuation) (a : ℕ) (p : Prog) (k : ℕ) → words p ≤ k → Dead v a (rem p (suc k))
unfolding Dead
dead_past v a (act b) zero h = absurd (omega arith)
dead_past v a (act b) (suc k) h = (refl, refl)
dead_past v a (test c) k h = (refl, refl)
dead_past v a (seq p q) k h =
    let l = length-append (act_words p) (act_words q) in
    subst (Dead v a) (sym (rem_in_second p q (k - words p) k (omega arith))) (dead_past v a q (k - words p) (omega arith))
dead_past v a (alt p q) k h =
    let l = length-append (act_words p) (act_words q) in
    subst (Dead v a) (sym (rem_in_right p q (k - words p) k (omega arith))) (dead_past v a q (k - words p) (omega arith))
dead_past v a (star p) k h =
    let (x, y) = dead_past v a p k h in (
      or_from (takes (rem p (suc k)) v a) (Final (rem p (suc k)) v && takes p v a) x (and_left (Final (rem p (suc k)) v) (takes p v a) y),
      and_left (Final (rem p (suc k)) v) true y,
    )

pub next_from : (δ : Prog) (v : Valuation) (p q : ℕ) → next δ v p q ≡ true → p < points δ
unfolding Dead
next_from δ v zero q n = omega arith
next_from δ v (suc p) q n =
    elim (cases_lt p (words δ)) [
      | inl h ↦ omega arith
      | inr h ↦
          let w = words_numbered 0 δ in
          absurd (both_ways (next δ v (suc p) q) (dead_past v q (numbered δ) p (omega arith)).0 n)
    ]

-- triples of numbers below n, in rising order, as numbers
module _ (n p q r : ℕ) (a : q < n) (b : r < n) where
  unfoldable pub triple : ℕ
  triple = (p * n + q) * n + r

  pub triple_below : p < n → triple < n * n * n
  unfolding triple
  triple_below h = digits_lt (digits_lt h a) b

  pub triple_outer : triple / (n * n) ≡ p
  unfolding triple
  triple_outer = sym (div-div-eq-div-mul ((p * n + q) * n + r) n n) ∙ (ap (λ x. x / n) (digits_div (p * n + q) b) ∙ digits_div p a)

  pub triple_middle : (triple / n) % n ≡ q
  unfolding triple
  triple_middle = ap (λ x. x % n) (digits_div (p * n + q) b) ∙ digits_mod p a

  pub triple_inner : triple % n ≡ r
  unfolding triple
  triple_inner = digits_mod (p * n + q) b

-- the lowest triple has the lowest place
place_lowest :
    (n p q r p' q' r' : ℕ) → n ≤ 64 → q < n → r < n → q' < n → r' < n → (p * n + q) * n + r ≤ (p' * n + q') * n + r' →
    ways_place p q r ≤ ways_place p' q' r'
place_lowest n p q r p' q' r' few a b c d h =
    elim (cases_order p p') [
      | inr (inl x) ↦ omega arith
      | inr (inr x) ↦
          let e : p' * n + q' < p * n = digits_lt x c in
          let f : p' * n + q' < p * n + q = omega arith in
          let g : (p' * n + q') * n + r' < (p * n + q) * n = digits_lt f d in
          absurd (omega arith)
      | inl x ↦
          let y : p * n ≡ p' * n = ap (λ i. i * n) x in
          elim (cases_order q q') [
            | inr (inl z) ↦ omega arith
            | inr (inr z) ↦
                let f : p' * n + q' < p * n + q = omega arith in
                let g : (p' * n + q') * n + r' < (p * n + q) * n = digits_lt f d in
                absurd (omega arith)
            | inl z ↦
                let w : (p * n + q) * n ≡ (p' * n + q') * n = ap (λ i. i * n) (omega arith) in
                omega arith
          ]
    ]

ways_none : (n : ℕ) (x : Option ℕ) → ways_of n x ≡ one_way → x ≡ none
ways_none n none e = refl
ways_none n (some k) e = let z : ◌≡◌ {A = ℕ} 0 1 = cc in absurd (omega arith)

ways_some : (n : ℕ) (x : Option ℕ) (p q r : ℕ) → ways_of n x ≡ two_ways p q r →
    (k : ℕ) × (x ≡ some k) × (k / (n * n) ≡ p) × ((k / n) % n ≡ q) × (k % n ≡ r)
ways_some n none p q r e = let z : ◌≡◌ {A = ℕ} 0 1 = cc in absurd (omega arith)
ways_some n (some k) p q r e = (k, refl, cc, cc, cc)

pub ways_is_one_way : WaysIsOneWay
unfolding triple
ways_is_one_way facts δ k = (
  λ e p q r h x y.
      let f = lowest_none (n * n * n) t (ways_none n (lowest (n * n * n) t) e) in
      let a : p < n = next_from δ x.0 p q x.1 in
      let b : q < n = next_in δ x.0 p q x.1 in
      let c : r < n = next_in δ x.0 p r x.2 in
      both_ways (t (triple n p q r b c)) (f (triple n p q r b c) (triple_below n p q r b c a)) (at_triple p q r b c ∙ two_ways_tried facts δ k p q r h x y),
  λ one.
      ap (ways_of n)
      (none_of (lowest (n * n * n) t)
      (λ j e.
      let (_, f, _) = lowest_some (n * n * n) t j e in
      let (h, x, y) = two_ways_means facts δ k (j / (n * n)) ((j / n) % n) (j % n) f in
      one (j / (n * n)) ((j / n) % n) (j % n) h x y)),
  λ p q r e.
      let (j, f, dp, dq, dr) = ways_some n (lowest (n * n * n) t) p q r e in
      let (_, g, least) = lowest_some (n * n * n) t j f in
      let s : two_ways_at facts δ p q r ≡ true =
      subst (λ i. two_ways_at facts δ p q i ≡ true) dr
      (subst (λ i. two_ways_at facts δ p i (j % n) ≡ true) dq (subst (λ i. two_ways_at facts δ i ((j / n) % n) (j % n) ≡ true) dp g)) in
      let (h, x, y) = two_ways_means facts δ k p q r s in (
        h,
        x,
        y,
        λ few p' q' r' h' x' y'.
            let a : p' < n = next_from δ x'.0 p' q' x'.1 in
            let b : q' < n = next_in δ x'.0 p' q' x'.1 in
            let c : r' < n = next_in δ x'.0 p' r' x'.2 in
            let u : j ≤ triple n p' q' r' b c =
            elim (cases_lt (triple n p' q' r' b c) j) [
              | inr l ↦ l
              | inl l ↦ absurd (both_ways (t (triple n p' q' r' b c)) (least (triple n p' q' r' b c) l) (at_triple p' q' r' b c ∙ two_ways_tried facts δ k p' q' r' h' x' y'))
            ] in
            place_lowest n p q r p' q' r' (omega arith) (next_in δ x.0 p q x.1) (next_in δ x.0 p r x.2) b c
            (subst (λ i. i ≤ triple n p' q' r' b c) (again p q r j dp dq dr) u),
      ),
)
  where
    n : ℕ
    n = points δ

    t : ℕ → Bool
    t j = two_ways_at facts δ (j / (n * n)) ((j / n) % n) (j % n)

    at_triple : (p q r : ℕ) (b : q < n) (c : r < n) → t (triple n p q r b c) ≡ two_ways_at facts δ p q r
    at_triple p q r b c =
        ap (λ i. two_ways_at facts δ i ((triple n p q r b c / n) % n) (triple n p q r b c % n)) (triple_outer n p q r b c)
        ∙ (ap (λ i. two_ways_at facts δ p i (triple n p q r b c % n)) (triple_middle n p q r b c)
        ∙ ap (λ i. two_ways_at facts δ p q i) (triple_inner n p q r b c))

    again : (p q r j : ℕ) → j / (n * n) ≡ p → (j / n) % n ≡ q → j % n ≡ r → j ≡ (p * n + q) * n + r
    again p q r j dp dq dr =
        let a : j / n ≡ p * n + q =
        sym (div-add-mod' (j / n) n) ∙ (ap (λ x. x * n + (j / n) % n) (div-div-eq-div-mul j n n ∙ dp) ∙ ap (λ x. p * n + x) dq) in
        sym (div-add-mod' j n) ∙ (ap (λ x. x * n + j % n) a ∙ ap (λ x. (p * n + q) * n + x) dr)
