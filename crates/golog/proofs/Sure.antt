-- Make is sure: its answer, by ways of choosing.
use Rattle.std.proofs.Common.{◌≡◌, ℕ, ◌<◌, ◌≤◌, Bool, true, false, ◌&&◌, eqb, leb, get_or, sym, ap, ◌∙◌, subst, inl, inr, arith}
use Rattle.std.proofs.lemmas.Bool.{and_parts, leb-true, eq-eqb, ne_eqb, cond-true, cond-false}
use Rattle.locks.specs.Meaning.{Meaning}
use Rattle.golog.specs.Programs.{Prog}
use Rattle.golog.specs.Positions.{positions, first_position}
use Rattle.golog.specs.Sheets.{most_positions, no_number, fits, Within, numbers, row_count, Made, made_from, make}
use Rattle.golog.specs.Sheets.Made.{made, no_sheet, oversize}
use Rattle.golog.specs.Sureness.{MakeIsSure}
use Rattle.golog.proofs.Passing.{first_in}
use Rattle.golog.proofs.Numbers.{numbers_are_least}
use Rattle.golog.proofs.Choosing.{within_is_ending}

pub fits_few : (m : Meaning) (δ : Prog) (n a : ℕ) → fits m δ n a ≡ true → positions m δ ≤ most_positions
fits_few m δ n a e =
    leb-true (positions m δ) most_positions (and_parts (leb (positions m δ) most_positions) (leb (positions m δ) n && leb (positions m δ) a) e).0

pub make_fits : (m : Meaning) (δ : Prog) (n a : ℕ) → fits m δ n a ≡ true → make m δ n a ≡ made_from m (numbers m δ)
make_fits m δ n a e =
    let g : Bool → Made = λ b. elim b [ true ↦ made_from m (numbers m δ) | false ↦ oversize (positions m δ) ] in
    ap g e

module _ (m : Meaning) (δ : Prog) where
  -- the first position's number
  abbrev pub first_number : ℕ
  first_number = get_or (numbers m δ) (first_position m) no_number

  pub made_some : (n a : ℕ) → fits m δ n a ≡ true → first_number < no_number → make m δ n a ≡ made first_number (row_count (numbers m δ))
  made_some n a e l =
      make_fits m δ n a e
      ∙ cond-false (eqb first_number no_number) (no_sheet (first_position m)) (made first_number (row_count (numbers m δ))) (ne_eqb first_number no_number (λ x. omega arith))

  pub made_none : (n a : ℕ) → fits m δ n a ≡ true → first_number ≡ no_number → make m δ n a ≡ no_sheet (first_position m)
  made_none n a e l =
      make_fits m δ n a e
      ∙ cond-true (eqb first_number no_number) (no_sheet (first_position m)) (made first_number (row_count (numbers m δ))) (eq-eqb first_number no_number l)

pub make_is_sure : MakeIsSure
make_is_sure m law live δ one n a e =
    elim (numbers_are_least m law δ (fits_few m δ n a e) (first_position m) (first_in m law δ)) [
      | inl (b, _, w, least) ↦
          let few = fits_few m δ n a e in
          let f = made_some m δ n a e (omega arith) in (
            λ p x. let g = sym f ∙ x in let z : ◌≡◌ {A = ℕ} 0 1 = cc in absurd (omega arith),
            λ none. let (way, ends) = (within_is_ending m law live δ one (first_number m δ)).0 w in absurd (none way (first_number m δ) ends),
            λ k r x.
                let g = sym f ∙ x in
                let y : first_number m δ ≡ k = cc in (
                  (within_is_ending m law live δ one k).0 (subst (λ j. Within m δ j (first_position m)) y w),
                  λ way j l ends.
                      let z = least j ((within_is_ending m law live δ one j).1 way ends) in
                      omega arith,
                ),
          )
      | inr (x, none) ↦
          let f = made_none m δ n a e x in (
            λ p _ way k ends. none k ((within_is_ending m law live δ one k).1 way ends),
            λ _. f,
            λ k r y. let g = sym f ∙ y in let z : ◌≡◌ {A = ℕ} 0 1 = cc in absurd (omega arith),
          )
    ]
