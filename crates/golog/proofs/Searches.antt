-- What the searches over the numbers below a bound find.
use Rattle.std.proofs.Common.{◌≡◌, ℕ, zero, suc, ◌+◌, ◌<◌, ◌≤◌, Bool, true, false, ◌∷◌, length, get_or, sym, refl, ap, ◌∙◌, subst, ap₂, inl, inr, add-zero, zero-add, arith}
use mathlib.Core.Bool.{false≢true}
use mathlib.Core.Option.{Option, none, some}
use Rattle.std.proofs.lemmas.Bool.{cases_eq, or_cases, or_left, or_right, and_parts, and_from}
use Rattle.locks.specs.Meaning.{any_below}
use Rattle.golog.specs.Search.{all_below, lowest_from, lowest, table_from, table}

pub any_found : (n : ℕ) (t : ℕ → Bool) → any_below n t ≡ true → (k : ℕ) × (k < n) × (t k ≡ true)
any_found zero t e = absurd (false≢true e)
any_found (suc n) t e =
    elim (or_cases (t n) (any_below n t) e) [
      | inl x ↦ (n, omega arith, x)
      | inr x ↦ let (k, h, y) = any_found n t x in (k, omega arith, y)
    ]

pub any_from : (n : ℕ) (t : ℕ → Bool) (k : ℕ) → k < n → t k ≡ true → any_below n t ≡ true
any_from zero t k h e = absurd (omega arith)
any_from (suc n) t k h e =
    elim (cases_eq k n) [
      | inl x ↦ or_left (t n) (any_below n t) (subst (λ j. t j ≡ true) x e)
      | inr x ↦ or_right (t n) (any_below n t) (any_from n t k (omega arith) e)
    ]

pub all_found : (n : ℕ) (t : ℕ → Bool) (k : ℕ) → k < n → all_below n t ≡ true → t k ≡ true
all_found zero t k h e = absurd (omega arith)
all_found (suc n) t k h e =
    let (x, y) = and_parts (t n) (all_below n t) e in
    elim (cases_eq k n) [ inl z ↦ subst (λ j. t j ≡ true) (sym z) x | inr z ↦ all_found n t k (omega arith) y ]

pub all_from : (n : ℕ) (t : ℕ → Bool) → ((k : ℕ) → k < n → t k ≡ true) → all_below n t ≡ true
all_from zero t h = refl
all_from (suc n) t h = and_from (t n) (all_below n t) (h n (omega arith)) (all_from n t (λ k l. h k (omega arith)))

-- what a search for the lowest says
abbrev Lowest : ℕ → ℕ → (ℕ → Bool) → Option ℕ → Type 0
Lowest k n t none = (j : ℕ) → k ≤ j → j < k + n → t j ≡ false
Lowest k n t (some i) = (k ≤ i) × (i < k + n) × (t i ≡ true) × ((j : ℕ) → k ≤ j → j < i → t j ≡ false)

later_lowest : (k n : ℕ) (t : ℕ → Bool) (x : Option ℕ) → t k ≡ false → Lowest (suc k) n t x → Lowest k (suc n) t x
later_lowest k n t none e h =
    λ j a b. elim (cases_eq j k) [ inl x ↦ subst (λ i. t i ≡ false) (sym x) e | inr x ↦ h j (omega arith) (omega arith) ]
later_lowest k n t (some i) e (a, b, c, d) = (
  omega arith,
  omega arith,
  c,
  λ j p q. elim (cases_eq j k) [ inl x ↦ subst (λ l. t l ≡ false) (sym x) e | inr x ↦ d j (omega arith) q ],
)

choose_lowest : (k n : ℕ) (t : ℕ → Bool) (b : Bool) → t k ≡ b → Lowest (suc k) n t (lowest_from (suc k) n t) →
    Lowest k (suc n) t (elim b [ true ↦ some k | false ↦ lowest_from (suc k) n t ])
choose_lowest k n t true e h = (omega arith, omega arith, e, λ j a b. absurd (omega arith))
choose_lowest k n t false e h = later_lowest k n t (lowest_from (suc k) n t) e h

lowest_from_is : (k n : ℕ) (t : ℕ → Bool) → Lowest k n t (lowest_from k n t)
lowest_from_is k zero t = λ j a b. absurd (omega arith)
lowest_from_is k (suc n) t = choose_lowest k n t (t k) refl (lowest_from_is (suc k) n t)

pub none_of : (x : Option ℕ) → ((k : ℕ) → x ≡ some k → ⊥) → x ≡ none
none_of none h = refl
none_of (some k) h = absurd (h k refl)

pub lowest_none : (n : ℕ) (t : ℕ → Bool) → lowest n t ≡ none → (j : ℕ) → j < n → t j ≡ false
lowest_none n t e j h = subst (Lowest 0 n t) e (lowest_from_is 0 n t) j (omega arith) (omega arith)

pub lowest_some :
    (n : ℕ) (t : ℕ → Bool) (i : ℕ) → lowest n t ≡ some i → (i < n) × (t i ≡ true) × ((j : ℕ) → j < i → t j ≡ false)
lowest_some n t i e =
    let (a, b, c, d) = subst (Lowest 0 n t) e (lowest_from_is 0 n t) in
    (omega arith, c, λ j h. d j (omega arith) h)

-- tables
getD_table_from {ℓ} : {A : Type ℓ} (k n : ℕ) (f : ℕ → A) (p : ℕ) (d : A) → p < n → get_or (table_from k n f) p d ≡ f (k + p)
getD_table_from k zero f p d h = absurd (omega arith)
getD_table_from k (suc n) f zero d h = ap f (sym (add-zero k))
getD_table_from k (suc n) f (suc p) d h =
    getD_table_from (suc k) n f p d (omega arith) ∙ ap f (omega arith)

pub getD_table {ℓ} : {A : Type ℓ} (n : ℕ) (f : ℕ → A) (p : ℕ) (d : A) → p < n → get_or (table n f) p d ≡ f p
getD_table n f p d h = getD_table_from 0 n f p d h ∙ ap f (zero-add p)

length_table_from {ℓ} : {A : Type ℓ} (k n : ℕ) (f : ℕ → A) → length (table_from k n f) ≡ n
length_table_from k zero f = refl
length_table_from k (suc n) f = ap suc (length_table_from (suc k) n f)

pub length_table {ℓ} : {A : Type ℓ} (n : ℕ) (f : ℕ → A) → length (table n f) ≡ n
length_table n f = length_table_from 0 n f

pub table_from_same {ℓ} :
    {A : Type ℓ} (k n : ℕ) (f g : ℕ → A) → ((p : ℕ) → k ≤ p → p < k + n → f p ≡ g p) → table_from k n f ≡ table_from k n g
table_from_same k zero f g h = refl
table_from_same k (suc n) f g h =
    ap₂ ◌∷◌ (h k (omega arith) (omega arith)) (table_from_same (suc k) n f g (λ p a b. h p (omega arith) (omega arith)))
