-- Pass accepts exactly the sheets that are to be accepted.
use Rattle.std.proofs.Common.{◌≡◌, ℕ, ◌<◌, Bool, true, false, not, ◌&&◌, eqb, List, length, sym, refl, ap, ◌∙◌, subst, inl, inr, suc-mul, arith}
use mathlib.Core.Option.{Option, none, some}
use Rattle.std.proofs.lemmas.Bool.{cases_Bool, or_parts, or_from, and_cases, not-false, not_from_true, eq-eqb, eqb-true, and_left, and_right, both_ways}
use Rattle.locks.specs.Meaning.{Meaning, Lawful}
use Rattle.golog.specs.Search.{lowest}
use Rattle.golog.specs.Programs.{Prog}
use Rattle.golog.specs.Points.{words}
use Rattle.golog.specs.Positions.{positions, first_position}
use Rattle.golog.specs.Sheets.{Passed, row, sound_row, has_row, fits, Accepts, spoils_sheet, passed_by, pass, PassIsAccepts}
use Rattle.golog.specs.Sheets.Passed.{accepted, too_large, false_row}
use Rattle.golog.proofs.Searches.{none_of, lowest_none, lowest_some}

-- the first position is one
pub first_in : (m : Meaning) → Lawful m → (δ : Prog) → first_position m < positions m δ
first_in m law δ = omega (arith, suc-mul (words δ) m.states, law.first_below)

pass_fits : (m : Meaning) (δ : Prog) (N A : List ℕ) (b : Bool) → fits m δ (length N) (length A) ≡ b →
    pass m δ N A ≡ elim b [ true ↦ passed_by (lowest (positions m δ) (spoils_sheet m δ N A)) | false ↦ too_large (positions m δ) ]
pass_fits m δ N A b e =
    let g : Bool → Passed = λ b. elim b [ true ↦ passed_by (lowest (positions m δ) (spoils_sheet m δ N A)) | false ↦ too_large (positions m δ) ] in
    ap g e

not_spoiled : (m : Meaning) (δ : Prog) (N A : List ℕ) (p : ℕ) → spoils_sheet m δ N A p ≡ false →
    (sound_row m δ N p (row m δ N A p) ≡ true) × (p ≡ first_position m → has_row (row m δ N A p) ≡ true)
not_spoiled m δ N A p e =
    let (x, y) = or_parts (not (sound_row m δ N p (row m δ N A p))) (eqb p (first_position m) && not (has_row (row m δ N A p))) e in (
      not-false (sound_row m δ N p (row m δ N A p)) x,
      λ f.
          elim (and_cases (eqb p (first_position m)) (not (has_row (row m δ N A p))) y) [
            | inl z ↦ absurd (both_ways (eqb p (first_position m)) z (eq-eqb p (first_position m) f))
            | inr z ↦ not-false (has_row (row m δ N A p)) z
          ],
    )

accepted_spoils_none : (m : Meaning) (δ : Prog) (N A : List ℕ) → Accepts m δ N A → (p : ℕ) → p < positions m δ → spoils_sheet m δ N A p ≡ false
accepted_spoils_none m δ N A (f, r, s) p h =
    or_from (not (sound_row m δ N p (row m δ N A p))) (eqb p (first_position m) && not (has_row (row m δ N A p)))
    (not_from_true (sound_row m δ N p (row m δ N A p)) (s p h))
    (elim (cases_Bool (eqb p (first_position m))) [
      | inl x ↦
          and_right (eqb p (first_position m)) (not (has_row (row m δ N A p)))
          (not_from_true (has_row (row m δ N A p)) (subst (λ q. has_row (row m δ N A q) ≡ true) (sym (eqb-true p (first_position m) x)) r))
      | inr x ↦ and_left (eqb p (first_position m)) (not (has_row (row m δ N A p))) x
    ])

accepted_by : (x : Option ℕ) → passed_by x ≡ accepted → x ≡ none
accepted_by none e = refl
accepted_by (some p) e = let z : ◌≡◌ {A = ℕ} 0 1 = cc in absurd (omega arith)

false_by : (x : Option ℕ) (p : ℕ) → passed_by x ≡ false_row p → x ≡ some p
false_by none p e = let z : ◌≡◌ {A = ℕ} 0 1 = cc in absurd (omega arith)
false_by (some q) p e = cc

too_large_by : (x : Option ℕ) (n : ℕ) → passed_by x ≡ too_large n → ⊥
too_large_by none n e = let z : ◌≡◌ {A = ℕ} 0 1 = cc in omega arith
too_large_by (some q) n e = let z : ◌≡◌ {A = ℕ} 0 1 = cc in omega arith

pub pass_is_accepts : PassIsAccepts
pass_is_accepts m law δ N A = go (fits m δ (length N) (length A)) refl
  where
    t : ℕ → Bool
    t = spoils_sheet m δ N A

    go : (b : Bool) → fits m δ (length N) (length A) ≡ b →
        (pass m δ N A ≡ accepted → Accepts m δ N A)
        × (Accepts m δ N A → pass m δ N A ≡ accepted)
        × ((n : ℕ) → pass m δ N A ≡ too_large n → (fits m δ (length N) (length A) ≡ false) × (n ≡ positions m δ))
        × ((p : ℕ) → pass m δ N A ≡ false_row p →
        (p < positions m δ) × (spoils_sheet m δ N A p ≡ true) × ((q : ℕ) → q < p → spoils_sheet m δ N A q ≡ false))
    go true e = (
      λ x.
          let h = lowest_none (positions m δ) t (accepted_by (lowest (positions m δ) t) (sym (pass_fits m δ N A true e) ∙ x)) in (
            e,
            (not_spoiled m δ N A (first_position m) (h (first_position m) (first_in m law δ))).1 refl,
            λ p k. (not_spoiled m δ N A p (h p k)).0,
          ),
      λ x.
          let l : lowest (positions m δ) t ≡ none =
          none_of (lowest (positions m δ) t)
          (λ p f.
          let (k, y, z) = lowest_some (positions m δ) t p f in
          both_ways (t p) (accepted_spoils_none m δ N A x p k) y) in
          pass_fits m δ N A true e ∙ ap passed_by l,
      λ n x. absurd (too_large_by (lowest (positions m δ) t) n (sym (pass_fits m δ N A true e) ∙ x)),
      λ p x. lowest_some (positions m δ) t p (false_by (lowest (positions m δ) t) p (sym (pass_fits m δ N A true e) ∙ x)),
    )
    go false e =
        let f = pass_fits m δ N A false e in (
          λ x. let g = sym f ∙ x in let z : ◌≡◌ {A = ℕ} 0 1 = cc in absurd (omega arith),
          λ x. absurd (both_ways (fits m δ (length N) (length A)) e x.0),
          λ n x. let g = sym f ∙ x in (e, cc),
          λ p x. let g = sym f ∙ x in let z : ◌≡◌ {A = ℕ} 0 1 = cc in absurd (omega arith),
        )
