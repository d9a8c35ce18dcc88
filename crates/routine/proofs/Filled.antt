-- Tables one entry longer.
use Rattle.std.proofs.Common.{◌≡◌, ℕ, ◌+◌, ◌*◌, ◌/◌, ◌%◌, ◌<◌, ◌≤◌, List, [], ◌∷◌, ◌++◌, length, get_or, sym, ap, ◌∙◌, subst, subst₂, inl, inr, add-mul, one-mul, arith}
use Rattle.std.proofs.lemmas.Nat.{div-mul-add, mod-mul-add}
use Rattle.std.proofs.lemmas.List.{get_or_append_left, get_or_push, length_push}
use Rattle.std.proofs.lemmas.Bool.{cases_lt}
use Rattle.golog.specs.Programs.{Prog}
use Rattle.golog.specs.Points.{points, valuation}
use Rattle.routine.specs.Rows.{IsRow}
use Rattle.routine.specs.Tables.{no_row, RowsOf}
use Rattle.routine.specs.declared.row.Row.{Row}

-- an entry more, of a table whose entries are known by their places
module _ {X : Type 0} (P : ℕ → X → Type 0) (d : X) (xs : List X) (x : X) (known : (i : ℕ) → i < length xs → P i (get_or xs i d)) (last : P (length xs) x) where
  pub known_push : (i : ℕ) → i < length (xs ++ x ∷ []) → P i (get_or (xs ++ x ∷ []) i d)
  known_push i h =
      elim (cases_lt i (length xs)) [
        | inl l ↦ subst (P i) (sym (get_or_append_left xs (x ∷ []) d i l)) (known i l)
        | inr l ↦
            let e : length xs ≡ i = omega (arith, length_push xs x) in
            subst (P i) (sym (get_or_push xs x d i e)) (subst (λ k. P k x) e last)
      ]

pub rows_push :
    (δ : Prog) (rows : List Row) (r : Row) (v k : ℕ) → RowsOf δ rows → length rows ≡ v * points δ + k → k < points δ → IsRow δ (valuation v) k r →
    RowsOf δ (rows ++ r ∷ [])
rows_push δ rows r v k known e h new =
    known_push (λ i r. IsRow δ (valuation (i / points δ)) (i % points δ) r) no_row rows r known
    (subst₂ (λ w p. IsRow δ (valuation w) p r) (sym (ap (λ n. n / points δ) e ∙ div-mul-add v (points δ) k h))
    (sym (ap (λ n. n % points δ) e ∙ mod-mul-add v (points δ) k h)) new)

-- the row of a point under a valuation
pub row_of :
    (δ : Prog) (rows : List Row) (v n k : ℕ) → RowsOf δ rows → n ≡ points δ → k < n → (v + 1) * n ≤ length rows →
    IsRow δ (valuation v) k (get_or rows (v * n + k) no_row)
row_of δ rows v n k known e h l =
    let f : (v + 1) * n ≡ v * n + n = add-mul v 1 n ∙ ap (λ x. v * n + x) (one-mul n) in
    subst₂ (λ w p. IsRow δ (valuation w) p (get_or rows (v * n + k) no_row)) (ap (λ m. (v * n + k) / m) (sym e) ∙ div-mul-add v n k h)
    (ap (λ m. (v * n + k) % m) (sym e) ∙ mod-mul-add v n k h) (known (v * n + k) (omega arith))
