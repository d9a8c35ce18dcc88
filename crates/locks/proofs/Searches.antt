-- What `any`, `find` and the first answer of a `filter_map` over 0..n say of the numbers below n.
use Rattle.std.proofs.Common.{◌≡◌, ℕ, zero, suc, ◌+◌, ◌<◌, ◌≤◌, Bool, true, false, ◌||◌, List, [], ◌∷◌, ◌++◌, length, get_or, inl, inr, Some, None, Option, MatchOption, refl, sym, ap, ap₂, ◌∙◌, add-one, subst, arith}
use denote.Param.Members.{Mut}
use denote.Ref.{Bor}
use mathlib.Core.List.{map-id}
use Rattle.std.specs.Fn.{Called, CalledAt}
use Rattle.std.specs.List.{FoldsTo, AllWithin, HoldsAt, list_any, range_with_len}
use Rattle.std.specs.Option.{IsSome}
use Rattle.std.specs.declared.iter.FilterMap.{FilterMap}
use Rattle.std.specs.Iterator.Adapters.{filter_map_steps, filter_map_source, filter_map_callee}
use Rattle.std.specs.Iterator.{Yields, AlwaysYields, ChecksAny, FindsItem}
use Rattle.std.proofs.lemmas.Bool.{cases_eq, false≢true}
use Rattle.std.proofs.Math.Bool.{or_comm, or-false}
use Rattle.std.proofs.lemmas.Iterator.{YieldsList, first_from_find}
use Rattle.std.proofs.lemmas.Iterator.Search.{any_from_yields_List}
use Rattle.std.proofs.lemmas.List.Folds.{list_any-append}
use Rattle.std.proofs.lemmas.List.FromFn.{map-range_with_len_more, length-range_with_len, get_or-range_with_len}
use Rattle.locks.specs.Meaning.{any_below}

-- the numbers below n, and then n
pub one_more : (n : ℕ) → range_with_len 0 (suc n) ≡ range_with_len 0 n ++ n ∷ []
one_more n =
    ap (range_with_len 0) (sym (add-one n)) ∙ (sym (map-id _) ∙ (map-range_with_len_more (λ (x : ℕ). x) 0 n n (omega arith)
    ∙ ap (λ (xs : List ℕ). xs ++ n ∷ []) (map-id _)))

-- `any` over the list of the numbers below n is `any_below`
pub list_below : (n : ℕ) (test : ℕ → Bool) → list_any test (range_with_len 0 n) ≡ any_below n test
list_below zero test = refl
list_below (suc n) test =
    ap (list_any test) (one_more n) ∙ (list_any-append test (range_with_len 0 n) (n ∷ [])
    ∙ (or_comm (list_any test (range_with_len 0 n)) (test n || false) ∙ ap₂ ◌||◌ (or-false (test n)) (list_below n test)))

-- `any` over 0..n, where the closure computes the test
pub any_over : {S F : Type 0} {steps : S → Option ℕ → S → Type 0} {g : Mut F (ℕ × Unit {0}) Bool} {s : S} (n : ℕ) (test : ℕ → Bool) (u : S) (f : F) (r : Bool)
    → ChecksAny steps g s f r u → YieldsList steps (λ (x : ℕ). x) s (range_with_len 0 n)
    → ((x : ℕ) (b : Bool) (q : F) → Called g f (x, tt) b q → (q ≡ f) × (b ≡ test x)) → r ≡ any_below n test
any_over n test u f r ran given asks = any_from_yields_List test u f r ran given asks ∙ list_below n test

nth : (n k : ℕ) → k < n → get_or (range_with_len 0 n) k 0 ≡ k
nth n k h = omega (arith, get_or-range_with_len 0 n k 0 h)

among : (n m : ℕ) (test : ℕ → Bool) → m ≤ n → AllWithin (λ x. test x ≡ false) (range_with_len 0 n) 0 m → (k : ℕ) → k < m → test k ≡ false
among n m test l h k i = subst (λ (x : ℕ). test x ≡ false) (nth n k (omega arith)) (h k 0 (omega arith) i)

-- `find` over 0..n: what follows where no number passes, and what where one does and none below it
module _ {S F : Type 0} {steps : S → Option ℕ → S → Type 0} {g : Mut F (Bor ℕ × Unit {0}) Bool} {s : S} (n : ℕ) (test : ℕ → Bool) (u : S) (f : F) where
  pub find_over : (r : Option ℕ) {Nowhere : Type 0} {Found : ℕ → Type 0} → FindsItem steps g s f r u → YieldsList steps (λ (x : ℕ). x) s (range_with_len 0 n)
      → ((x : ℕ) (b : Bool) (q : F) → CalledAt g f x b q → (q ≡ f) × (b ≡ test x))
      → (((k : ℕ) → k < n → test k ≡ false) → Nowhere)
      → ((x : ℕ) → x < n → test x ≡ true → ((k : ℕ) → k < x → test k ≡ false) → Found x)
      → MatchOption r Nowhere Found
  find_over r {Nowhere} {Found} ran given asks none found =
      cases r (first_from_find u f r (λ x. test x ≡ true) (λ x. test x ≡ false) ran given
      (λ x q c. sym (asks x true q c).1) (λ x q c. ((asks x false q c).0, sym (asks x false q c).1)))
    where
      all : List ℕ
      all = range_with_len 0 n

      long : length all ≡ n
      long = length-range_with_len 0 n

      cases : (o : Option ℕ) → MatchOption o (AllWithin (λ x. test x ≡ false) all 0 (length all)) (λ x. (test x ≡ true) × (i : ℕ) × (i < length all) × HoldsAt (λ y. y ≡ x) all i × AllWithin (λ y. test y ≡ false) all 0 i)
          → MatchOption o Nowhere Found
      cases None h = none (λ k i. among n (length all) test (omega (arith, long)) h k (omega (arith, long)))
      cases (Some x) h =
          let i : h.1 < n = omega (arith, h.2, long) in
          let at : x ≡ h.1 = sym (h.3 0) ∙ nth n h.1 i in
          found x (omega arith) h.0 (λ k l. among n h.1 test (omega arith) h.4 k (omega arith))

-- what a search that found nothing yet has asked: the numbers from a on, and No of each
module _ {S B F : Type 0} (steps : S → Option ℕ → S → Type 0) (g : Mut F (ℕ × Unit {0}) (Option B)) (f : F) (No : ℕ → Type 0)
    (passes : (x : ℕ) (q : F) → Called g f (x, tt) None q → (q ≡ f) × No x)
  where
    each : (a x m : ℕ) → x ≡ a → No x → ((k : ℕ) → a + 1 ≤ k → k < a + 1 + m → No k) → (k : ℕ) → a ≤ k → k < a + suc m → No k
    each a x m q here more k l h = elim (cases_eq k a) [
      | inl e ↦ subst No (q ∙ sym e) here
      | inr e ↦ more k (omega (arith, e)) (omega arith)
    ]

    last : (a m n : ℕ) (o : Option ℕ) → MatchOption o (m ≡ n) (λ z. (z ≡ a + 1 + m) × (m < n)) → MatchOption o (suc m ≡ suc n) (λ z. (z ≡ a + suc m) × (suc m < suc n))
    last a m n None h = ap suc h
    last a m n (Some z) h = (omega (arith, h.0), omega (arith, h.1))

    passed : (xs : List ℕ) (a n : ℕ) (s t u : S) (j : F) (o : Option ℕ) → AlwaysYields steps (λ (x : ℕ). x) s (range_with_len a n)
        → Yields steps s xs t → FoldsTo (λ p x q. Called g p (x, tt) None q) f xs j → steps t o u
        → (j ≡ f) × ((k : ℕ) → a ≤ k → k < a + length xs → No k) × MatchOption o (length xs ≡ n) (λ x. (x ≡ a + length xs) × (length xs < n))
    passed [] a zero s t u j None e y c p = (sym c, λ k l h. absurd (omega arith), refl)
    passed [] a zero s t u j (Some x) e y c p = absurd (e x u (subst (λ (k : S). steps k (Some x) u) (sym y) p))
    passed [] a (suc n) s t u j None e y c p = absurd (e.0 u (subst (λ (k : S). steps k None u) (sym y) p))
    passed [] a (suc n) s t u j (Some x) e y c p =
        let w : x ≡ a = (e.1 x u (subst (λ (k : S). steps k (Some x) u) (sym y) p)).0 in
        (sym c, λ k l h. absurd (omega arith), (omega arith, omega arith))
    passed (x ∷ xs) a zero s t u j o e y c p = absurd (e x y.0 y.1)
    passed (x ∷ xs) a (suc n) s t u j o e y c p =
        let here = e.1 x y.0 y.1 in
        let asked = passes x c.0 c.1 in
        let rest = passed xs (a + 1) n y.0 t u j o here.1 y.2 (subst (λ (k : F). FoldsTo (λ p x q. Called g p (x, tt) None q) k xs j) asked.0 c.2) p in
        (rest.0, each a x (length xs) here.0 asked.1 rest.1, last a (length xs) n o rest.2)

-- the first answer of a `filter_map` over 0..n: what follows where none of the numbers has one, and what where one has and none below it
module _ {S B F : Type 0} {steps : S → Option ℕ → S → Type 0} {g : Mut F (ℕ × Unit {0}) (Option B)} (n : ℕ) (No : ℕ → Type 0) (Yes : ℕ → B → Type 0) (s t : FilterMap S F) (f : F) where
  pub first_over : (r : Option B) {Nowhere : Type 0} {Found : B → Type 0} → filter_map_steps steps g s r t → YieldsList steps (λ (x : ℕ). x) (filter_map_source s) (range_with_len 0 n)
      → filter_map_callee s ≡ f
      → ((x : ℕ) (q : F) → Called g f (x, tt) None q → (q ≡ f) × No x)
      → ((x : ℕ) (y : B) (q : F) → Called g f (x, tt) (Some y) q → Yes x y)
      → (((k : ℕ) → k < n → No k) → Nowhere)
      → ((x : ℕ) (y : B) → x < n → Yes x y → ((k : ℕ) → k < x → No k) → Found y)
      → MatchOption r Nowhere Found
  first_over r {Nowhere} {Found} d given same misses hits none found =
      cases r d.1 d.5 (passed steps g f No misses d.0 0 n (filter_map_source s) d.3.0 (filter_map_source t) d.2 d.1 given.runs d.3.1
      (subst (λ (k : F). FoldsTo (λ p x q. Called g p (x, tt) None q) k d.0 d.2) same d.4) d.3.2)
    where
      cases : (r : Option B) (o : Option ℕ) → MatchOption o ((r ≡ None) × (filter_map_callee t ≡ d.2)) (λ x. Called g d.2 (x, tt) r (filter_map_callee t) × IsSome r)
          → (d.2 ≡ f) × ((k : ℕ) → 0 ≤ k → k < 0 + length d.0 → No k) × MatchOption o (length d.0 ≡ n) (λ x. (x ≡ 0 + length d.0) × (length d.0 < n))
          → MatchOption r Nowhere Found
      cases r None a b = subst (λ (o : Option B). MatchOption o Nowhere Found) (sym a.0) (none (λ k i. b.1 k (omega arith) (omega (arith, b.2))))
      cases None (Some x) a b = absurd (false≢true a.1)
      cases (Some y) (Some x) a b =
          found x y (omega (arith, b.2)) (hits x y _ (subst (λ (k : F). Called g k (x, tt) (Some y) (filter_map_callee t)) b.0 a.0))
          (λ k i. b.1 k (omega arith) (omega (arith, b.2)))
