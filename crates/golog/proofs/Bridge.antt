-- The points that come next are the steps of the remainder.
use Rattle.std.proofs.Common.{◌≡◌, ℕ, zero, suc, ◌+◌, ◌-◌, ◌<◌, Bool, true, false, cond, ◌&&◌, ◌||◌, ltb, ◌⊎◌, ◌++◌, length, get_or, sym, refl, ap, ◌∙◌, subst, ap₂, inl, inr, add-zero, add_assoc, zero-add, arith, length-append}
use mathlib.Core.Bool.{false≢true}
use Rattle.std.proofs.lemmas.Bool.{eqb-true, eq-eqb, lt-ltb, le-ltb, cases_lt, or_cases, and_parts, or_left, or_right, cond-true, cond-false}
use Rattle.std.proofs.lemmas.List.{get_or_append_left, get_or-append-add}
use Rattle.golog.specs.Programs.{Valuation, Prog, nil, Final, Step}
use Rattle.golog.specs.Programs.Prog.{act, test, seq, alt, star}
use Rattle.golog.specs.Programs.Step.{by_act, in_first, in_second, in_left, in_right, in_star}
use Rattle.golog.specs.Points.{act_words, words, points, word, rem, numbered_from, numbered, takes, next, NextIsTrans}

-- a program with its acts renamed
abbrev pub renamed : (ℕ → ℕ) → Prog → Prog
renamed f (act a) = act (f a)
renamed f (test c) = test c
renamed f (seq p q) = seq (renamed f p) (renamed f q)
renamed f (alt p q) = alt (renamed f p) (renamed f q)
renamed f (star p) = star (renamed f p)

words_renamed : (f : ℕ → ℕ) (ρ : Prog) → words (renamed f ρ) ≡ words ρ
words_renamed f (act a) = refl
words_renamed f (test c) = refl
words_renamed f (seq p q) = simp (length-append, words_renamed f p, words_renamed f q)
words_renamed f (alt p q) = simp (length-append, words_renamed f p, words_renamed f q)
words_renamed f (star p) = words_renamed f p

pub final_renamed : (f : ℕ → ℕ) (ρ : Prog) (v : Valuation) → Final (renamed f ρ) v ≡ Final ρ v
final_renamed f (act a) v = refl
final_renamed f (test c) v = refl
final_renamed f (seq p q) v = ap₂ ◌&&◌ (final_renamed f p v) (final_renamed f q v)
final_renamed f (alt p q) v = ap₂ ◌||◌ (final_renamed f p v) (final_renamed f q v)
final_renamed f (star p) v = refl

step_renamed : (f : ℕ → ℕ) (v : Valuation) (b : ℕ) (ρ ρ' : Prog) → Step v b ρ ρ' → Step v (f b) (renamed f ρ) (renamed f ρ')
step_renamed f v b _ _ by_act = by_act
step_renamed f v b _ _ (in_first s) = in_first (step_renamed f v b _ _ s)
step_renamed f v b _ _ (in_second {p = p} e s) = in_second (final_renamed f p v ∙ e) (step_renamed f v b _ _ s)
step_renamed f v b _ _ (in_left s) = in_left (step_renamed f v b _ _ s)
step_renamed f v b _ _ (in_right s) = in_right (step_renamed f v b _ _ s)
step_renamed f v b _ _ (in_star s) = in_star (step_renamed f v b _ _ s)

-- what a step is, by the form of the program: the equations of Trans
abbrev pub StepBy : Valuation → ℕ → Prog → Prog → Type 0
StepBy v a (act b) δ' = (b ≡ a) × (δ' ≡ nil)
StepBy v a (test c) δ' = ⊥
StepBy v a (seq p q) δ' = ((p' : Prog) × Step v a p p' × (seq p' q ≡ δ')) ⊎ ((Final p v ≡ true) × Step v a q δ')
StepBy v a (alt p q) δ' = Step v a p δ' ⊎ Step v a q δ'
StepBy v a (star p) δ' = (p' : Prog) × Step v a p p' × (seq p' (star p) ≡ δ')

pub step_by : {v : Valuation} {a : ℕ} {δ δ' : Prog} → Step v a δ δ' → StepBy v a δ δ'
step_by by_act = (refl, refl)
step_by (in_first s) = inl (_, s, refl)
step_by (in_second e s) = inr (e, s)
step_by (in_left s) = inl s
step_by (in_right s) = inr s
step_by (in_star s) = (_, s, refl)

-- a step of a renamed program comes from a step of the program
abbrev Origin : (ℕ → ℕ) → Valuation → ℕ → Prog → Prog → Type 0
Origin f v a ρ δ' = (b : ℕ) × (ρ' : Prog) × Step v b ρ ρ' × (f b ≡ a) × (renamed f ρ' ≡ δ')

step_origin : (f : ℕ → ℕ) (v : Valuation) (a : ℕ) (ρ δ' : Prog) → Step v a (renamed f ρ) δ' → Origin f v a ρ δ'
step_origin f v a (act b) δ' s = (b, nil, by_act, (step_by s).0, sym (step_by s).1)
step_origin f v a (test c) δ' s = absurd (step_by s)
step_origin f v a (seq p q) δ' s =
    elim (step_by s) [
      | inl x ↦
          let o = step_origin f v a p x.0 x.1 in
          (o.0, seq o.1 q, in_first o.2, o.3, ap (λ r. seq r (renamed f q)) o.4 ∙ x.2)
      | inr x ↦
          let o = step_origin f v a q δ' x.1 in
          (o.0, o.1, in_second (sym (final_renamed f p v) ∙ x.0) o.2, o.3, o.4)
    ]
step_origin f v a (alt p q) δ' s =
    elim (step_by s) [
      | inl x ↦ let o = step_origin f v a p δ' x in (o.0, o.1, in_left o.2, o.3, o.4)
      | inr x ↦ let o = step_origin f v a q δ' x in (o.0, o.1, in_right o.2, o.3, o.4)
    ]
step_origin f v a (star p) δ' s =
    let x = step_by s in
    let o = step_origin f v a p x.0 x.1 in
    (o.0, seq o.1 (star p), in_star o.2, o.3, ap (λ r. seq r (star (renamed f p))) o.4 ∙ x.2)

cond_renamed : (f : ℕ → ℕ) (b : Bool) (x y : Prog) → cond b (renamed f x) (renamed f y) ≡ renamed f (cond b x y)
cond_renamed f true x y = refl
cond_renamed f false x y = refl

pub rem_renamed : (f : ℕ → ℕ) (ρ : Prog) (k : ℕ) → rem (renamed f ρ) k ≡ renamed f (rem ρ k)
rem_renamed f (act a) zero = refl
rem_renamed f (act a) (suc zero) = refl
rem_renamed f (act a) (suc (suc k)) = refl
rem_renamed f (test c) zero = refl
rem_renamed f (test c) (suc k) = refl
rem_renamed f (seq p q) zero = refl
rem_renamed f (seq p q) (suc k) =
    rw (words_renamed f p, rem_renamed f p (suc k), rem_renamed f q (suc (k - words p)))
    (cond_renamed f (ltb k (words p)) (seq (rem p (suc k)) q) (rem q (suc (k - words p))))
rem_renamed f (alt p q) zero = refl
rem_renamed f (alt p q) (suc k) =
    rw (words_renamed f p, rem_renamed f p (suc k), rem_renamed f q (suc (k - words p)))
    (cond_renamed f (ltb k (words p)) (rem p (suc k)) (rem q (suc (k - words p))))
rem_renamed f (star p) zero = refl
rem_renamed f (star p) (suc k) = ap (λ r. seq r (star (renamed f p))) (rem_renamed f p (suc k))

-- the test of a step
pub takes_step : (ρ : Prog) (v : Valuation) (a : ℕ) → takes ρ v a ≡ true → (ρ' : Prog) × Step v a ρ ρ'
takes_step (act b) v a t = (nil, subst (λ x. Step v a (act x) nil) (eqb-true a b t) by_act)
takes_step (test c) v a t = absurd (false≢true t)
takes_step (seq p q) v a t =
    elim (or_cases (takes p v a) (Final p v && takes q v a) t) [
      | inl x ↦ let o = takes_step p v a x in (seq o.0 q, in_first o.1)
      | inr x ↦
          let y = and_parts (Final p v) (takes q v a) x in
          let o = takes_step q v a y.1 in
          (o.0, in_second y.0 o.1)
    ]
takes_step (alt p q) v a t =
    elim (or_cases (takes p v a) (takes q v a) t) [
      | inl x ↦ let o = takes_step p v a x in (o.0, in_left o.1)
      | inr x ↦ let o = takes_step q v a x in (o.0, in_right o.1)
    ]
takes_step (star p) v a t = let o = takes_step p v a t in (seq o.0 (star p), in_star o.1)

pub step_takes : {v : Valuation} {a : ℕ} {ρ ρ' : Prog} → Step v a ρ ρ' → takes ρ v a ≡ true
step_takes {a = a} by_act = eq-eqb a a refl
step_takes (in_first {p = p} {q = q} s) = or_left _ _ (step_takes s)
step_takes {v = v} {a = a} (in_second {p = p} e s) = or_right (takes p v a) _ (rw e (step_takes s))
step_takes (in_left s) = or_left _ _ (step_takes s)
step_takes {v = v} {a = a} (in_right {p = p} s) = or_right (takes p v a) _ (step_takes s)
step_takes (in_star s) = step_takes s

pub words_numbered : (n : ℕ) (δ : Prog) → words (numbered_from n δ) ≡ words δ
words_numbered n (act a) = refl
words_numbered n (test c) = refl
words_numbered n (seq p q) = simp (length-append, words_numbered n p, words_numbered (n + words p) q)
words_numbered n (alt p q) = simp (length-append, words_numbered n p, words_numbered (n + words p) q)
words_numbered n (star p) = words_numbered n p

-- what remains after a word, by the part in which the word stands
pub rem_zero : (δ : Prog) → rem δ 0 ≡ δ
rem_zero (act a) = refl
rem_zero (test c) = refl
rem_zero (seq p q) = refl
rem_zero (alt p q) = refl
rem_zero (star p) = refl

pub rem_in_first : (p q : Prog) (i : ℕ) → i < words p → rem (seq p q) (suc i) ≡ seq (rem p (suc i)) q
rem_in_first p q i h = cond-true (ltb i (words p)) (seq (rem p (suc i)) q) (rem q (suc (i - words p))) (lt-ltb i (words p) h)

pub rem_in_second : (p q : Prog) (i k : ℕ) → k ≡ words p + i → rem (seq p q) (suc k) ≡ rem q (suc i)
rem_in_second p q i k e =
    let d : k - words p ≡ i = omega arith in
    cond-false (ltb k (words p)) (seq (rem p (suc k)) q) (rem q (suc (k - words p))) (le-ltb k (words p) (omega arith)) ∙ ap (λ j. rem q (suc j)) d

pub rem_in_left : (p q : Prog) (i : ℕ) → i < words p → rem (alt p q) (suc i) ≡ rem p (suc i)
rem_in_left p q i h = cond-true (ltb i (words p)) (rem p (suc i)) (rem q (suc (i - words p))) (lt-ltb i (words p) h)

pub rem_in_right : (p q : Prog) (i k : ℕ) → k ≡ words p + i → rem (alt p q) (suc k) ≡ rem q (suc i)
rem_in_right p q i k e =
    let d : k - words p ≡ i = omega arith in
    cond-false (ltb k (words p)) (rem p (suc k)) (rem q (suc (k - words p))) (le-ltb k (words p) (omega arith)) ∙ ap (λ j. rem q (suc j)) d

-- the word that a step of a numbered program takes is one of its own, and what remains is what remains after that word
abbrev At : ℕ → Prog → ℕ → Prog → Type 0
At n δ q ρ' = (i : ℕ) × (q ≡ suc (n + i)) × (i < words δ) × (ρ' ≡ rem (numbered_from n δ) (suc i))

longer : (p q : Prog) {i : ℕ} → i < words p → i < length (act_words p ++ act_words q)
longer p q {i} h = omega (arith, length-append (act_words p) (act_words q))

shifted : (p q : Prog) {i : ℕ} → i < words q → words p + i < length (act_words p ++ act_words q)
shifted p q {i} h = omega (arith, length-append (act_words p) (act_words q))

module _ (n : ℕ) (p₁ p₂ : Prog) (q : ℕ) (ρ' : Prog) where
  at_first : At n p₁ q ρ' → At n (seq p₁ p₂) q (seq ρ' (numbered_from (n + words p₁) p₂))
  at_first (i, e, h, r) =
      let k : i < words (numbered_from n p₁) = omega (arith, words_numbered n p₁) in
      (i, e, longer p₁ p₂ h, ap (λ ρ. seq ρ (numbered_from (n + words p₁) p₂)) r ∙ sym (rem_in_first (numbered_from n p₁) (numbered_from (n + words p₁) p₂) i k))

  at_second : At (n + words p₁) p₂ q ρ' → At n (seq p₁ p₂) q ρ'
  at_second (i, e, h, r) =
      let k : words p₁ + i ≡ words (numbered_from n p₁) + i = omega (arith, words_numbered n p₁) in
      (words p₁ + i, omega arith, shifted p₁ p₂ h, r ∙ sym (rem_in_second (numbered_from n p₁) (numbered_from (n + words p₁) p₂) i (words p₁ + i) k))

  at_left : At n p₁ q ρ' → At n (alt p₁ p₂) q ρ'
  at_left (i, e, h, r) =
      let k : i < words (numbered_from n p₁) = omega (arith, words_numbered n p₁) in
      (i, e, longer p₁ p₂ h, r ∙ sym (rem_in_left (numbered_from n p₁) (numbered_from (n + words p₁) p₂) i k))

  at_right : At (n + words p₁) p₂ q ρ' → At n (alt p₁ p₂) q ρ'
  at_right (i, e, h, r) =
      let k : words p₁ + i ≡ words (numbered_from n p₁) + i = omega (arith, words_numbered n p₁) in
      (words p₁ + i, omega arith, shifted p₁ p₂ h, r ∙ sym (rem_in_right (numbered_from n p₁) (numbered_from (n + words p₁) p₂) i (words p₁ + i) k))

-- a step of what remains in the first part and then the second
seq_point :
    (n : ℕ) (p₁ p₂ : Prog) (v : Valuation) (ρ : Prog) (q : ℕ) (ρ' : Prog) →
    ((r : Prog) → Step v q ρ r → At n p₁ q r) →
    ((r : Prog) → Step v q (numbered_from (n + words p₁) p₂) r → At (n + words p₁) p₂ q r) →
    Step v q (seq ρ (numbered_from (n + words p₁) p₂)) ρ' → At n (seq p₁ p₂) q ρ'
seq_point n p₁ p₂ v ρ q ρ' first second s =
    elim (step_by s) [
      | inl x ↦ subst (At n (seq p₁ p₂) q) x.2 (at_first n p₁ p₂ q x.0 (first x.0 x.1))
      | inr x ↦ at_second n p₁ p₂ q ρ' (second ρ' x.1)
    ]

at_point : (δ : Prog) (n : ℕ) (v : Valuation) (p q : ℕ) (ρ' : Prog) → Step v q (rem (numbered_from n δ) p) ρ' → At n δ q ρ'
at_point (act a) n v zero q ρ' s = (0, sym (step_by s).0 ∙ omega arith, omega arith, (step_by s).1)
at_point (act a) n v (suc zero) q ρ' s = absurd (step_by s)
at_point (act a) n v (suc (suc p)) q ρ' s = absurd (step_by s)
at_point (test c) n v zero q ρ' s = absurd (step_by s)
at_point (test c) n v (suc p) q ρ' s = absurd (step_by s)
at_point (seq p₁ p₂) n v zero q ρ' s =
    seq_point n p₁ p₂ v (numbered_from n p₁) q ρ' (λ r t. at_point p₁ n v 0 q r (rw (rem_zero (numbered_from n p₁)) t))
    (λ r t. at_point p₂ (n + words p₁) v 0 q r (rw (rem_zero (numbered_from (n + words p₁) p₂)) t)) s
at_point (seq p₁ p₂) n v (suc p) q ρ' s =
    elim (cases_lt p (words (numbered_from n p₁))) [
      | inl h ↦
          seq_point n p₁ p₂ v (rem (numbered_from n p₁) (suc p)) q ρ' (λ r t. at_point p₁ n v (suc p) q r t)
          (λ r t. at_point p₂ (n + words p₁) v 0 q r (rw (rem_zero (numbered_from (n + words p₁) p₂)) t))
          (subst (λ r. Step v q r ρ') (rem_in_first (numbered_from n p₁) (numbered_from (n + words p₁) p₂) p h) s)
      | inr h ↦
          at_second n p₁ p₂ q ρ'
          (at_point p₂ (n + words p₁) v (suc (p - words (numbered_from n p₁))) q ρ'
          (subst (λ r. Step v q r ρ')
          (rem_in_second (numbered_from n p₁) (numbered_from (n + words p₁) p₂) (p - words (numbered_from n p₁)) p (omega arith)) s))
    ]
at_point (alt p₁ p₂) n v zero q ρ' s =
    elim (step_by s) [
      | inl x ↦ at_left n p₁ p₂ q ρ' (at_point p₁ n v 0 q ρ' (rw (rem_zero (numbered_from n p₁)) x))
      | inr x ↦ at_right n p₁ p₂ q ρ' (at_point p₂ (n + words p₁) v 0 q ρ' (rw (rem_zero (numbered_from (n + words p₁) p₂)) x))
    ]
at_point (alt p₁ p₂) n v (suc p) q ρ' s =
    elim (cases_lt p (words (numbered_from n p₁))) [
      | inl h ↦
          at_left n p₁ p₂ q ρ'
          (at_point p₁ n v (suc p) q ρ'
          (subst (λ r. Step v q r ρ') (rem_in_left (numbered_from n p₁) (numbered_from (n + words p₁) p₂) p h) s))
      | inr h ↦
          at_right n p₁ p₂ q ρ'
          (at_point p₂ (n + words p₁) v (suc (p - words (numbered_from n p₁))) q ρ'
          (subst (λ r. Step v q r ρ')
          (rem_in_right (numbered_from n p₁) (numbered_from (n + words p₁) p₂) (p - words (numbered_from n p₁)) p (omega arith)) s))
    ]
at_point (star p₁) n v zero q ρ' s =
    let x = step_by s in
    let (i, e, h, r) = at_point p₁ n v 0 q x.0 (rw (rem_zero (numbered_from n p₁)) x.1) in
    (i, e, h, sym x.2 ∙ ap (λ ρ. seq ρ (star (numbered_from n p₁))) r)
at_point (star p₁) n v (suc p) q ρ' s =
    elim (step_by s) [
      | inl x ↦
          let (i, e, h, r) = at_point p₁ n v (suc p) q x.0 x.1 in
          (i, e, h, sym x.2 ∙ ap (λ ρ. seq ρ (star (numbered_from n p₁))) r)
      | inr x ↦
          let y = step_by x.1 in
          let (i, e, h, r) = at_point p₁ n v 0 q y.0 (rw (rem_zero (numbered_from n p₁)) y.1) in
          (i, e, h, sym y.2 ∙ ap (λ ρ. seq ρ (star (numbered_from n p₁))) r)
    ]

-- naming the numbered words again gives the program back
renamed_numbered :
    (f : ℕ → ℕ) (δ : Prog) (n : ℕ) → ((i : ℕ) → i < words δ → f (suc (n + i)) ≡ get_or (act_words δ) i 255) → renamed f (numbered_from n δ) ≡ δ
renamed_numbered f (act a) n h = ap act (ap (λ k. f (suc k)) (sym (add-zero n)) ∙ h 0 (omega arith))
renamed_numbered f (test c) n h = refl
renamed_numbered f (seq p q) n h =
    ap₂ seq
    (renamed_numbered f p n (λ i k. h i (longer p q k) ∙ get_or_append_left (act_words p) (act_words q) 255 i k))
    (renamed_numbered f q (n + words p)
    (λ i k. ap (λ j. f (suc j)) (add_assoc n (words p) i) ∙ (h (words p + i) (shifted p q k) ∙ get_or-append-add (act_words p) (act_words q) i 255)))
renamed_numbered f (alt p q) n h =
    ap₂ alt
    (renamed_numbered f p n (λ i k. h i (longer p q k) ∙ get_or_append_left (act_words p) (act_words q) 255 i k))
    (renamed_numbered f q (n + words p)
    (λ i k. ap (λ j. f (suc j)) (add_assoc n (words p) i) ∙ (h (words p + i) (shifted p q k) ∙ get_or-append-add (act_words p) (act_words q) i 255)))
renamed_numbered f (star p) n h = ap star (renamed_numbered f p n h)

named : (δ : Prog) → renamed (word δ) (numbered δ) ≡ δ
named δ = renamed_numbered (word δ) δ 0 (λ i k. ap (λ j. word δ (suc j)) (zero-add i))

-- what remains is what remains of the numbered program, with the words named again
pub named_rem : (δ : Prog) (p : ℕ) → renamed (word δ) (rem (numbered δ) p) ≡ rem δ p
named_rem δ p = sym (rem_renamed (word δ) (numbered δ) p) ∙ ap (λ r. rem r p) (named δ)

-- a step of the numbered program leads to the point that it names
next_step : (δ : Prog) (v : Valuation) (p q : ℕ) (ρ' : Prog) → Step v q (rem (numbered δ) p) ρ' → ρ' ≡ rem (numbered δ) q
next_step δ v p q ρ' s =
    let (i, e, h, r) = at_point δ 0 v p q ρ' s in
    r ∙ ap (rem (numbered δ)) (sym (e ∙ ap suc (zero-add i)))

pub bridge : NextIsTrans
bridge δ v p a δ' = (
  λ s.
      let (b, ρ', t, e, r) = step_origin (word δ) v a (rem (numbered δ) p) δ' (subst (λ x. Step v a x δ') (sym (named_rem δ p)) s) in
      (b, step_takes t, e, sym (named_rem δ b) ∙ (ap (renamed (word δ)) (sym (next_step δ v p b ρ' t)) ∙ r)),
  λ q n e r.
      let (ρ', t) = takes_step (rem (numbered δ) p) v q n in
      let u = step_renamed (word δ) v q _ _ t in
      let w = ap (renamed (word δ)) (next_step δ v p q ρ' t) ∙ (named_rem δ q ∙ r) in
      subst (λ x. Step v a x δ') (named_rem δ p) (subst (λ x. Step v a (renamed (word δ) (rem (numbered δ) p)) x) w
      (subst (λ x. Step v x (renamed (word δ) (rem (numbered δ) p)) (renamed (word δ) ρ')) e u)),
)

-- a next point is a point
pub next_in : (δ : Prog) (v : Valuation) (p q : ℕ) → next δ v p q ≡ true → q < points δ
next_in δ v p q n =
    let (ρ', t) = takes_step (rem (numbered δ) p) v q n in
    let (i, e, h, _) = at_point δ 0 v p q ρ' t in
    omega arith
