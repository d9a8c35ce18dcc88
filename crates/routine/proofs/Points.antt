-- Which points come next, from the parts of a program.
use Rattle.std.proofs.Common.{◌≡◌, ℕ, suc, ◌+◌, ◌-◌, ◌<◌, ◌≤◌, false, ◌&&◌, ◌||◌, eqb, sym, refl, ap, ◌∙◌, ap₂, inl, inr, arith}
use Rattle.std.proofs.lemmas.Bool.{cases_lt, cases_eq, le-leb, lt-leb, eq-eqb, ne_eqb, and_right}
use Rattle.golog.specs.Programs.{Prog, Valuation, Final}
use Rattle.golog.specs.Programs.Prog.{act, test, seq, alt, star}
use Rattle.golog.specs.Points.{words, word, rem, numbered_from, numbered, takes, next}
use Rattle.golog.proofs.Bridge.{renamed, final_renamed, rem_renamed, named_rem, words_numbered, rem_zero, rem_in_first, rem_in_second, rem_in_left, rem_in_right}
use Rattle.routine.specs.Sets.{moved}

-- numbering from further on gives larger numbers
numbered_more : (n m : ℕ) (δ : Prog) → numbered_from (n + m) δ ≡ renamed (λ x. x + m) (numbered_from n δ)
numbered_more n m (act a) = ap act (omega arith)
numbered_more n m (test c) = refl
numbered_more n m (seq p q) =
    ap₂ seq (numbered_more n m p) (ap (λ k. numbered_from k q) (omega arith) ∙ numbered_more (n + words p) m q)
numbered_more n m (alt p q) =
    ap₂ alt (numbered_more n m p) (ap (λ k. numbered_from k q) (omega arith) ∙ numbered_more (n + words p) m q)
numbered_more n m (star p) = ap star (numbered_more n m p)

act_far : (m j a : ℕ) → m ≤ j → eqb j (a + m) ≡ eqb (j - m) a
act_far m j a h =
    elim (cases_eq j (a + m)) [
      | inl e ↦ eq-eqb j (a + m) e ∙ sym (eq-eqb (j - m) a (omega arith))
      | inr e ↦ ne_eqb j (a + m) e ∙ sym (ne_eqb (j - m) a (λ z. e (omega arith)))
    ]

module _ (m : ℕ) (v : Valuation) (j : ℕ) where
  takes_far : m ≤ j → (ρ : Prog) → takes (renamed (λ x. x + m) ρ) v j ≡ takes ρ v (j - m)
  takes_far h (act a) = act_far m j a h
  takes_far h (test c) = refl
  takes_far h (seq p q) = ap₂ ◌||◌ (takes_far h p) (ap₂ ◌&&◌ (final_renamed (λ x. x + m) p v) (takes_far h q))
  takes_far h (alt p q) = ap₂ ◌||◌ (takes_far h p) (takes_far h q)
  takes_far h (star p) = takes_far h p

  takes_near : j < m → (ρ : Prog) → takes (renamed (λ x. x + m) ρ) v j ≡ false
  takes_near h (act a) = ne_eqb j (a + m) (λ e. omega arith)
  takes_near h (test c) = refl
  takes_near h (seq p q) =
      ap₂ ◌||◌ (takes_near h p) (and_right (Final (renamed (λ x. x + m) p) v) (takes (renamed (λ x. x + m) q) v j) (takes_near h q))
  takes_near h (alt p q) = ap₂ ◌||◌ (takes_near h p) (takes_near h q)
  takes_near h (star p) = takes_near h p

  takes_moved : (ρ : Prog) → takes (renamed (λ x. x + m) ρ) v j ≡ moved m (takes ρ v) j
  takes_moved ρ =
      elim (cases_lt j m) [
        | inl h ↦ takes_near h ρ ∙ sym (ap (λ b. b && takes ρ v (j - m)) (lt-leb m j h))
        | inr h ↦ takes_far h ρ ∙ sym (ap (λ b. b && takes ρ v (j - m)) (le-leb m j h))
      ]

  pub next_moved : (δ : Prog) (k : ℕ) → takes (rem (numbered_from (0 + m) δ) k) v j ≡ moved m (next δ v k) j
  next_moved δ k =
      ap (λ ρ. takes (rem ρ k) v j) (numbered_more 0 m δ)
      ∙ (ap (λ ρ. takes ρ v j) (rem_renamed (λ x. x + m) (numbered δ) k) ∙ takes_moved (rem (numbered δ) k))

final_numbered : (δ : Prog) (v : Valuation) (k : ℕ) → Final (rem (numbered δ) k) v ≡ Final (rem δ k) v
final_numbered δ v k = sym (final_renamed (word δ) (rem (numbered δ) k) v) ∙ ap (λ ρ. Final ρ v) (named_rem δ k)

pub next_zero : (δ : Prog) (v : Valuation) (j : ℕ) → next δ v 0 j ≡ takes (numbered δ) v j
next_zero δ v j = ap (λ ρ. takes ρ v j) (rem_zero (numbered δ))

pub final_zero : (δ : Prog) (v : Valuation) → Final (rem δ 0) v ≡ Final δ v
final_zero δ v = ap (λ ρ. Final ρ v) (rem_zero δ)

-- what remains in the first of two, and then the second
module _ (p q : Prog) (v : Valuation) (j : ℕ) where
  second_moved : takes (numbered_from (0 + words p) q) v j ≡ moved (words p) (next q v 0) j
  second_moved = ap (λ ρ. takes ρ v j) (sym (rem_zero (numbered_from (0 + words p) q))) ∙ next_moved (words p) v j q 0

  then_next :
      (k : ℕ) → takes (seq (rem (numbered p) k) (numbered_from (0 + words p) q)) v j ≡ (next p v k j || (Final (rem p k) v && moved (words p) (next q v 0) j))
  then_next k = ap (λ b. next p v k j || b) (ap₂ ◌&&◌ (final_numbered p v k) second_moved)

  pub seq_next : next (seq p q) v 0 j ≡ (next p v 0 j || (Final (rem p 0) v && moved (words p) (next q v 0) j))
  seq_next = ap (λ ρ. takes (seq ρ (numbered_from (0 + words p) q)) v j) (sym (rem_zero (numbered p))) ∙ then_next 0

  pub seq_next_first :
      (i : ℕ) → i < words p → next (seq p q) v (suc i) j ≡ (next p v (suc i) j || (Final (rem p (suc i)) v && moved (words p) (next q v 0) j))
  seq_next_first i h =
      let w = words_numbered 0 p in
      ap (λ ρ. takes ρ v j) (rem_in_first (numbered p) (numbered_from (0 + words p) q) i (omega arith)) ∙ then_next (suc i)

  pub seq_next_second : (i : ℕ) → words p ≤ i → next (seq p q) v (suc i) j ≡ moved (words p) (next q v (suc (i - words p))) j
  seq_next_second i h =
      let w = words_numbered 0 p in
      ap (λ ρ. takes ρ v j) (rem_in_second (numbered p) (numbered_from (0 + words p) q) (i - words p) i (omega arith))
      ∙ next_moved (words p) v j q (suc (i - words p))

  pub alt_next : next (alt p q) v 0 j ≡ (next p v 0 j || moved (words p) (next q v 0) j)
  alt_next = ap₂ ◌||◌ (sym (next_zero p v j)) second_moved

  pub alt_next_left : (i : ℕ) → i < words p → next (alt p q) v (suc i) j ≡ next p v (suc i) j
  alt_next_left i h =
      let w = words_numbered 0 p in ap (λ ρ. takes ρ v j) (rem_in_left (numbered p) (numbered_from (0 + words p) q) i (omega arith))

  pub alt_next_right : (i : ℕ) → words p ≤ i → next (alt p q) v (suc i) j ≡ moved (words p) (next q v (suc (i - words p))) j
  alt_next_right i h =
      let w = words_numbered 0 p in
      ap (λ ρ. takes ρ v j) (rem_in_right (numbered p) (numbered_from (0 + words p) q) (i - words p) i (omega arith))
      ∙ next_moved (words p) v j q (suc (i - words p))

pub star_next : (p : Prog) (v : Valuation) (j : ℕ) → next (star p) v 0 j ≡ next p v 0 j
star_next p v j = sym (next_zero p v j)

pub star_next_after :
    (p : Prog) (v : Valuation) (j i : ℕ) → next (star p) v (suc i) j ≡ (next p v (suc i) j || (Final (rem p (suc i)) v && next (star p) v 0 j))
star_next_after p v j i = ap (λ b. next p v (suc i) j || (b && next (star p) v 0 j)) (final_numbered p v (suc i))
