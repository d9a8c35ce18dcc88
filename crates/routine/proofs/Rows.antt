-- Rows of a program, from rows of its parts.
use Rattle.std.proofs.Common.{◌≡◌, ℕ, zero, suc, ◌+◌, ◌-◌, ◌<◌, ◌≤◌, min, Bool, true, false, ◌&&◌, ◌||◌, eqb, leb, sym, refl, ap, ◌∙◌, ap₂, inl, inr, arith, length-append}
use Rattle.std.proofs.lemmas.Bool.{cases_lt, le-leb, lt-leb, ne_eqb}
use Rattle.golog.specs.Programs.{Cond, Prog, Valuation, eval, Final}
use Rattle.golog.specs.Programs.Prog.{act, test, seq, alt, star}
use Rattle.golog.specs.Points.{act_words, words, rem, next}
use Rattle.golog.proofs.Bridge.{rem_in_first, rem_in_second, rem_in_left, rem_in_right}
use Rattle.routine.specs.Sets.{room, has, Holds, moved, no_points}
use Rattle.routine.specs.Rows.{IsRow, IsStart, counted}
use Rattle.routine.specs.declared.row.Row.{Row}
use Rattle.routine.specs.declared.row.Start.{Start}
use Rattle.routine.specs.declared.set.PointSet.{PointSet}
use Rattle.routine.proofs.Masks.{has_none}
use Rattle.routine.proofs.Points.{final_zero, seq_next, seq_next_first, seq_next_second, alt_next, alt_next_left, alt_next_right, star_next, star_next_after}

-- a count that ends at 64 moves as the whole count
moved_counted : (δ : Prog) (t : ℕ → Bool) (j : ℕ) → j < room → moved (counted δ) t j ≡ moved (words δ) t j
moved_counted δ t j h =
    elim (cases_lt (words δ) room) [
      | inl l ↦ ap (λ n. moved n t j) (omega arith)
      | inr l ↦
          ap (λ b. b && t (j - counted δ)) (lt-leb (counted δ) j (omega arith)) ∙ sym (ap (λ b. b && t (j - words δ)) (lt-leb (words δ) j (omega arith)))
    ]

moved_same : (δ : Prog) (n : ℕ) (set : PointSet) (t : ℕ → Bool) → n ≡ counted δ → Holds set t → (j : ℕ) → j < room →
    moved n (has set) j ≡ moved (words δ) t j
moved_same δ n set t e h j l =
    ap (λ k. moved k (has set) j) e ∙ (moved_counted δ (has set) j l ∙ ap (λ b. leb (words δ) j && b) (h (j - words δ) (omega arith)))

pub moved_none : (t : ℕ → Bool) (j : ℕ) → moved 0 t j ≡ t j
moved_none t j = ap (λ b. b && t (j - 0)) (le-leb 0 j (omega arith)) ∙ ap t (omega arith)

sum_counted : (p q : Prog) (a b : ℕ) → a ≡ counted p → b ≡ counted q → min 64 (a + b) ≡ min room (words p + words q)
sum_counted p q a b e f = omega arith

-- the beginnings
pub start_act : (a : ℕ) (v : Valuation) (s : PointSet) → Holds s (λ j. eqb j 1) → IsStart (act a) v (record { words = 1; row = record { stop = false; next = s } })
start_act a v s one = (refl, (refl, one))

pub start_test : (c : Cond) (v : Valuation) (b : Bool) → b ≡ eval c v → IsStart (test c) v (record { words = 0; row = record { stop = b; next = no_points } })
start_test c v b e = (refl, (e, λ j h. has_none j))

pub start_star :
    (p : Prog) (v : Valuation) (s : Start) → IsStart p v s → IsStart (star p) v (record { words = s.words; row = record { stop = true; next = s.row.next } })
start_star p v s (w, (f, n)) = (w, (refl, λ j h. n j h ∙ sym (star_next p v j)))

module _ (p q : Prog) (v : Valuation) (a b : Start) (first : IsStart p v a) (second : IsStart q v b) (n : ℕ) (r : Row) (total : n ≡ min 64 (a.words + b.words)) where
  pub start_seq :
      r.stop ≡ (a.row.stop && b.row.stop) → Holds r.next (λ j. has a.row.next j || (a.row.stop && moved a.words (has b.row.next) j)) →
      IsStart (seq p q) v (record { words = n; row = r })
  start_seq e h =
      let l = length-append (act_words p) (act_words q) in (
        total ∙ (sum_counted p q a.words b.words first.0 second.0 ∙ ap (min room) (sym l)),
        (
          e ∙ ap₂ ◌&&◌ (first.1.0 ∙ final_zero p v) (second.1.0 ∙ final_zero q v),
          λ j k.
              h j k
              ∙ (ap₂ ◌||◌ (first.1.1 j k) (ap₂ ◌&&◌ first.1.0 (moved_same p a.words b.row.next (next q v 0) first.0 second.1.1 j k))
              ∙ sym (seq_next p q v j)),
        ),
      )

  pub start_alt :
      r.stop ≡ (a.row.stop || b.row.stop) → Holds r.next (λ j. has a.row.next j || moved a.words (has b.row.next) j) →
      IsStart (alt p q) v (record { words = n; row = r })
  start_alt e h =
      let l = length-append (act_words p) (act_words q) in (
        total ∙ (sum_counted p q a.words b.words first.0 second.0 ∙ ap (min room) (sym l)),
        (
          e ∙ ap₂ ◌||◌ (first.1.0 ∙ final_zero p v) (second.1.0 ∙ final_zero q v),
          λ j k.
              h j k
              ∙ (ap₂ ◌||◌ (first.1.1 j k) (moved_same p a.words b.row.next (next q v 0) first.0 second.1.1 j k)
              ∙ sym (alt_next p q v j)),
        ),
      )

-- the rows after an act word
pub after_act : (a : ℕ) (v : Valuation) (i : ℕ) (b : Bool) → b ≡ eqb i 0 → IsRow (act a) v (suc i) (record { stop = b; next = no_points })
after_act a v zero b e = (e, λ j h. has_none j)
after_act a v (suc i) b e = (e ∙ ne_eqb (suc i) 0 (λ z. omega arith), λ j h. has_none j)

pub after_test : (c : Cond) (v : Valuation) (i : ℕ) → IsRow (test c) v (suc i) (record { stop = false; next = no_points })
after_test c v i = (refl, λ j h. has_none j)

pub after_star :
    (p : Prog) (v : Valuation) (i : ℕ) (a b r : Row) → IsRow p v (suc i) a → IsRow (star p) v 0 b → r.stop ≡ (a.stop && b.stop) →
    Holds r.next (λ j. has a.next j || (a.stop && moved 0 (has b.next) j)) → IsRow (star p) v (suc i) r
after_star p v i a b r (s, n) (t, m) e h = (
  e ∙ ap₂ ◌&&◌ s t,
  λ j k. h j k ∙ (ap₂ ◌||◌ (n j k) (ap₂ ◌&&◌ s (moved_none (has b.next) j ∙ m j k)) ∙ sym (star_next_after p v j i)),
)

module _ (p q : Prog) (v : Valuation) (i n : ℕ) (low : i < room) (count : n ≡ counted p) where
  pub after_first :
      (a b r : Row) → i < n → IsRow p v (suc i) a → IsRow q v 0 b → r.stop ≡ (a.stop && b.stop) →
      Holds r.next (λ j. has a.next j || (a.stop && moved n (has b.next) j)) → IsRow (seq p q) v (suc i) r
  after_first a b r l (s, x) (t, y) e h =
      let k : i < words p = omega arith in (
        e ∙ (ap₂ ◌&&◌ s (t ∙ final_zero q v) ∙ ap (λ ρ. Final ρ v) (sym (rem_in_first p q i k))),
        λ j m. h j m ∙ (ap₂ ◌||◌ (x j m) (ap₂ ◌&&◌ s (moved_same p n b.next (next q v 0) count y j m)) ∙ sym (seq_next_first p q v j i k)),
      )

  pub after_second :
      (a r : Row) → n ≤ i → IsRow q v (suc (i - n)) a → r.stop ≡ a.stop → Holds r.next (moved n (has a.next)) → IsRow (seq p q) v (suc i) r
  after_second a r l (s, x) e h =
      let k : words p ≤ i = omega arith in
      let d : i - n ≡ i - words p = omega arith in (
        e ∙ (s ∙ (ap (λ m. Final (rem q (suc m)) v) d ∙ ap (λ ρ. Final ρ v) (sym (rem_in_second p q (i - words p) i (omega arith))))),
        λ j m.
            h j m
            ∙ (moved_same p n a.next (next q v (suc (i - n))) count x j m
            ∙ (ap (λ z. moved (words p) (next q v (suc z)) j) d ∙ sym (seq_next_second p q v j i k))),
      )

  pub after_left : (a : Row) → i < n → IsRow p v (suc i) a → IsRow (alt p q) v (suc i) a
  after_left a l (s, x) =
      let k : i < words p = omega arith in
      (s ∙ ap (λ ρ. Final ρ v) (sym (rem_in_left p q i k)), λ j m. x j m ∙ sym (alt_next_left p q v j i k))

  pub after_right :
      (a r : Row) → n ≤ i → IsRow q v (suc (i - n)) a → r.stop ≡ a.stop → Holds r.next (moved n (has a.next)) → IsRow (alt p q) v (suc i) r
  after_right a r l (s, x) e h =
      let k : words p ≤ i = omega arith in
      let d : i - n ≡ i - words p = omega arith in (
        e ∙ (s ∙ (ap (λ m. Final (rem q (suc m)) v) d ∙ ap (λ ρ. Final ρ v) (sym (rem_in_right p q (i - words p) i (omega arith))))),
        λ j m.
            h j m
            ∙ (moved_same p n a.next (next q v (suc (i - n))) count x j m
            ∙ (ap (λ z. moved (words p) (next q v (suc z)) j) d ∙ sym (alt_next_right p q v j i k))),
      )
