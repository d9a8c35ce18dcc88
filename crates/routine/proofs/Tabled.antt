-- What tables say of their program.
use Rattle.std.proofs.Common.{◌≡◌, ℕ, ◌+◌, ◌*◌, ◌%◌, ◌^◌, ◌<◌, ◌≤◌, true, length, get_or, vec_items, vec_len, sym, ap, ◌∙◌, subst, add-mul, one-mul, arith}
use Rattle.std.proofs.lemmas.Nat.{pow_pos, mod_below, mul-le}
use Rattle.std.proofs.lemmas.List.{get_or_read_under}
use Rattle.golog.specs.Programs.{Prog, Valuation, names_below}
use Rattle.golog.specs.Points.{no_act, points, word, rem, valuation}
use Rattle.golog.proofs.OneWays.{Agree, names_rem, final_agree, next_agree}
use Rattle.routine.specs.Sets.{room}
use Rattle.routine.specs.Rows.{IsRow}
use Rattle.routine.specs.Tables.{no_row, RowsOf}
use Rattle.routine.specs.Kept.{tables_prog}
use Rattle.routine.specs.declared.row.Row.{Row}
use Rattle.routine.specs.declared.tables.Tables.{Tables}
use Rattle.routine.proofs.Masks.{has_low, has_none}
use Rattle.routine.proofs.Filled.{row_of}
use Rattle.routine.proofs.Going.{row_past}

-- valuations that agree on the facts of a program give it the same rows
row_agree :
    (facts : ℕ) (v w : Valuation) (δ : Prog) (k : ℕ) (r : Row) → Agree facts v w → names_below facts δ ≡ true → IsRow δ v k r → IsRow δ w k r
row_agree facts v w δ k r same named (s, n) =
    (s ∙ final_agree facts v w same (rem δ k) (names_rem facts δ k named), λ j h. n j h ∙ next_agree facts v w same δ named k j)

pub row_none : (δ : Prog) (v : Valuation) (k : ℕ) → points δ ≤ k → IsRow δ v k no_row
row_none δ v k h = let (s, n) = row_past δ v k h in (s, λ j l. has_none j ∙ n j)

module _ (t : Tables) where
  pub acts_count : length (vec_items t.acts) ≡ points (tables_prog t)
  acts_count = ap length t.worded

  pub acts_len : vec_len t.acts ≡ points (tables_prog t)
  acts_len = t.acts.ok.0 ∙ acts_count

  pub few_points : points (tables_prog t) ≤ room
  few_points = omega (arith, t.program.few)

  pub tables_named : names_below t.facts (tables_prog t) ≡ true
  tables_named = subst (λ n. names_below n (tables_prog t) ≡ true) (sym t.every) t.program.of_facts

  pub table_rows : RowsOf (tables_prog t) (vec_items t.rows)
  table_rows i h = (t.stops i h, λ j l. t.nexts i j (h, l))

  pub word_is : (k : ℕ) → get_or (vec_items t.acts) k no_act ≡ word (tables_prog t) k
  word_is k = ap (λ l. get_or l k no_act) t.worded

  module _ (v k m n : ℕ) (all : m ≡ 2 ^ t.facts) (count : n ≡ points (tables_prog t)) (below : k < n) where
    block : (v % m + 1) * n ≤ length (vec_items t.rows)
    block =
        let p : 0 < m = omega (arith, pow_pos t.facts) in
        let h : (v % m + 1) * n ≤ m * n = mul-le (v % m + 1) n m n (omega (arith, mod_below v m p)) (omega arith) in
        let e : m * n ≡ 2 ^ t.facts * points (tables_prog t) = ap (λ x. x * n) all ∙ ap (λ x. 2 ^ t.facts * x) count in
        omega (arith, t.wide)

    pub row_place : (v % m) * n + k < vec_len t.rows
    row_place =
        let f : (v % m + 1) * n ≡ (v % m) * n + n = add-mul (v % m) 1 n ∙ ap (λ x. (v % m) * n + x) (one-mul n) in
        omega (arith, block, t.rows.ok.0)

    pub row_found : (r : Row) → r ≡ get_or (vec_items t.rows) ((v % m) * n + k) r → IsRow (tables_prog t) (valuation v) k r
    row_found r e =
        let f = get_or_read_under (vec_items t.rows) ((v % m) * n + k) (vec_len t.rows) r no_row e row_place t.rows.ok.0 in
        let same : Agree t.facts (valuation (v % m)) (valuation v) = λ i h. ap (λ x. valuation (v % x) i) all ∙ has_low v t.facts i h in
        row_agree t.facts (valuation (v % m)) (valuation v) (tables_prog t) k r same tables_named
        (subst (IsRow (tables_prog t) (valuation (v % m)) k) (sym f) (row_of (tables_prog t) (vec_items t.rows) (v % m) n k table_rows count below block))
