-- The tables of a lowest lock, as they are filled.
use Rattle.std.proofs.Common.{◌≡◌, ℕ, zero, suc, ◌+◌, ◌*◌, ◌/◌, ◌%◌, ◌<◌, Bool, true, false, cond, ◌&&◌, ◌||◌, eqb, ltb, ◌≢◌, List, ◌∷◌, length, get_or, set, replicate, Some, None, Option, sym, refl, ap, ◌∙◌, ap₂, inl, inr, mul_comm, arith}
use Rattle.std.proofs.lemmas.Nat.{div-mul-add, mod-mul-add, mul-add-lt}
use Rattle.std.proofs.lemmas.List.{get_or-set_same, get_or-set_other}
use Rattle.std.proofs.lemmas.Bool.{cases_Bool, cond-true, cond-false, and_from, and_left, and_right, or_left}
use Rattle.std.proofs.lemmas.Bool.Decides.{nat_tests}
use Rattle.locks.specs.Allowed.{markable, marked_in}
use Rattle.lowest.specs.Facts.{change_in}
use Rattle.lowest.specs.Listed.{move_place, move_in}
use Rattle.model.specs.Contents.{move_of, marked_of}

-- a table of nothing has nothing anywhere
pub nothing_at : {X : Type 0} (n i : ℕ) → get_or (replicate {A = Option X} n None) i None ≡ None
nothing_at zero i = refl
nothing_at (suc n) zero = refl
nothing_at (suc n) (suc i) = nothing_at n i

pub no_change_at : (n a e : ℕ) → change_in (replicate n None) a e ≡ None
no_change_at n a e =
    elim (cases_Bool (ltb e 8)) [
      | inl hit ↦ cond-true _ _ _ hit ∙ nothing_at n (a * 8 + e)
      | inr miss ↦ cond-false _ _ _ miss
    ]

pub no_move_at : (acts n s a e : ℕ) → move_in acts (replicate n None) s a e ≡ None
no_move_at acts n s a e =
    elim (cases_Bool (ltb a acts && ltb e 8)) [
      | inl hit ↦ cond-true _ _ _ hit ∙ nothing_at n (move_place acts s a e)
      | inr miss ↦ cond-false _ _ _ miss
    ]

pub place_within : (acts states s a e : ℕ) → s < states → a < acts → e < 8 → move_place acts s a e < states * acts * 8
place_within acts states s a e hs ha he =
    let row = mul-add-lt s acts a states hs ha in
    omega (arith, row, mul_comm states acts)

-- a place tells its row and its column
row_and_column : (w r b s a : ℕ) → b < w → a < w → s * w + a ≡ r * w + b → (s ≡ r) × (a ≡ b)
row_and_column w r b s a hb ha e =
    let rows : (s * w + a) / w ≡ (r * w + b) / w = ap (λ n. n / w) e in
    let columns : (s * w + a) % w ≡ (r * w + b) % w = ap (λ n. n % w) e in
    (sym (div-mul-add s w a ha) ∙ (rows ∙ div-mul-add r w b hb), sym (mod-mul-add s w a ha) ∙ (columns ∙ mod-mul-add r w b hb))

module _ (acts : ℕ) (ms : List (Option ℕ)) (old : List (ℕ × ℕ × ℕ × ℕ)) (r b d t : ℕ) (hb : b < acts) (hd : d < 8) where
  same_move : (s a e : ℕ) → a < acts → e < 8 → move_place acts s a e ≡ move_place acts r b d → (s ≡ r) × (a ≡ b) × (e ≡ d)
  same_move s a e ha he q =
      let outer = row_and_column 8 (r * acts + b) d (s * acts + a) e hd he q in
      let inner = row_and_column acts r b s a hb ha outer.0 in
      (inner.0, inner.1, outer.1)

  pub move_more :
      move_place acts r b d < length ms → ((s a e : ℕ) → move_in acts ms s a e ≡ move_of old s a e) →
      (s a e : ℕ) → move_in acts (set ms (move_place acts r b d) (Some t)) s a e ≡ move_of ((r, b, d, t) ∷ old) s a e
  move_more within so_far s a e =
      elim (cases_Bool (eqb r s && (eqb b a && eqb d e))) [
        | inl hit ↦
            let rs : r ≡ s = grind (arith, nat_tests) in
            let ba : b ≡ a = grind (arith, nat_tests) in
            let de : d ≡ e = grind (arith, nat_tests) in
            let g : (ltb a acts && ltb e 8) ≡ true = grind (arith, nat_tests) in
            let q : move_place acts s a e ≡ move_place acts r b d = cc in
            cond-true _ _ _ g
            ∙ (ap (λ p. get_or (set ms (move_place acts r b d) (Some t)) p None) q
            ∙ (get_or-set_same ms (move_place acts r b d) (Some t) None within ∙ sym (cond-true _ _ _ hit)))
        | inr miss ↦ missed s a e miss ∙ (so_far s a e ∙ sym (cond-false _ _ _ miss))
      ]
    where
      missed : (s a e : ℕ) → (eqb r s && (eqb b a && eqb d e)) ≡ false →
          move_in acts (set ms (move_place acts r b d) (Some t)) s a e ≡ move_in acts ms s a e
      missed s a e miss =
          elim (cases_Bool (ltb a acts && ltb e 8)) [
            | inl g ↦
                let ha : a < acts = grind (arith, nat_tests) in
                let he : e < 8 = grind (arith, nat_tests) in
                let apart : move_place acts s a e ≢ move_place acts r b d = λ q.
                let m = same_move s a e ha he q in
                let x : r ≡ s = sym m.0 in
                let y : b ≡ a = sym m.1 in
                let z : d ≡ e = sym m.2 in
                grind (arith, nat_tests) in
                ap (λ v. cond (ltb a acts && ltb e 8) v None) (get_or-set_other ms (move_place acts r b d) (move_place acts s a e) (Some t) None apart)
            | inr g ↦ cond-false _ _ _ g ∙ sym (cond-false _ _ _ g)
          ]

all_false : (n i : ℕ) → get_or (replicate n false) i false ≡ false
all_false zero i = refl
all_false (suc n) zero = refl
all_false (suc n) (suc i) = all_false n i

pub unmarked : (n a e : ℕ) → marked_in (replicate n false) a e ≡ false
unmarked n a e = and_right _ _ (all_false n (a * 8 + e))

-- one mark more
module _ (xs : List Bool) (old : List (ℕ × ℕ)) (b d : ℕ) (hb : b < 31) (hd : d < 8) (within : b * 8 + d < length xs) where
  pub mark_more : ((a e : ℕ) → marked_in xs a e ≡ marked_of old a e) → (a e : ℕ) → marked_in (set xs (b * 8 + d) true) a e ≡ marked_of ((b, d) ∷ old) a e
  mark_more so_far a e =
      elim (cases_Bool (eqb b a && eqb d e)) [
        | inl hit ↦
            let ba : b ≡ a = grind (arith, nat_tests) in
            let de : d ≡ e = grind (arith, nat_tests) in
            let g : markable a e ≡ true = grind (arith, nat_tests) in
            and_from _ _ g (ap₂ (λ x y. get_or (set xs (b * 8 + d) true) (x * 8 + y) false) (sym ba) (sym de) ∙ get_or-set_same xs (b * 8 + d) true false within)
            ∙ sym (or_left _ _ hit)
        | inr miss ↦ missed a e miss ∙ (so_far a e ∙ sym (ap (λ t. t || marked_of old a e) miss))
      ]
    where
      missed : (a e : ℕ) → (eqb b a && eqb d e) ≡ false → marked_in (set xs (b * 8 + d) true) a e ≡ marked_in xs a e
      missed a e miss =
          elim (cases_Bool (markable a e)) [
            | inl g ↦
                let he : e < 8 = grind (arith, nat_tests) in
                let apart : a * 8 + e ≢ b * 8 + d = λ q.
                let x : b ≡ a = omega arith in
                let y : d ≡ e = omega arith in
                grind (arith, nat_tests) in
                ap (λ v. markable a e && v) (get_or-set_other xs (b * 8 + d) (a * 8 + e) true false apart)
            | inr g ↦ and_left _ _ g ∙ sym (and_left _ _ g)
          ]
