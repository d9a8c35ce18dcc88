-- Sheets: a number and an act for each position, or no row.
use Rattle.std.specs.Prelude.{◌≡◌, ℕ, zero, suc, ◌<◌, ◌≤◌, Bool, true, false, cond, not, ◌&&◌, ◌||◌, ◌⊎◌, List, [], ◌∷◌, ◌++◌, length, get_or, drop, ◌==◌, nat_le, nat_lt, slice_index_or}
use Rattle.std.proofs.Math.Option.{Option, none, some}
use Rattle.locks.specs.Meaning.{Meaning, Lawful, Live, reactions, any_below}
use Rattle.golog.specs.Search.{all_below, lowest, table}
use Rattle.golog.specs.Faults.{Fault, positions_layer, sheet_layer}
use Rattle.golog.specs.Programs.{Prog}
use Rattle.golog.specs.Points.{no_act}
use Rattle.golog.specs.Positions.{positions, state_of, first_position, may_stop, usable, Lead, lead}
use Rattle.golog.specs.Positions.Lead.{to, lost}

-- the most positions that a sheet may have
abbrev pub most_positions : ℕ
most_positions = 32768

-- the number that stands for no row
abbrev pub no_number : ℕ
no_number = 65535

-- the lowest number that no true row has, though it is a row's
abbrev pub number_bound : ℕ
number_bound = 32768

-- The number at a position, in a table of numbers; past the positions there is no row.
abbrev pub number_at : Meaning → Prog → List ℕ → ℕ → ℕ
number_at m δ N p = cond (nat_lt p (positions m δ)) (slice_index_or N p no_number) no_number

pub record Row : Type 0 where
  pub number : ℕ
  pub act : ℕ

-- A position has one row or none.
abbrev pub row : Meaning → Prog → List ℕ → List ℕ → ℕ → Option Row
row m δ N A p =
    cond (number_at m δ N p == no_number) none (some (record { number = number_at m δ N p; act = slice_index_or A p no_act }))

-- the lead is to a number below n; as 65,535 stands for no row, to a row
abbrev pub lead_below : Meaning → Prog → List ℕ → ℕ → Lead → Bool
lead_below m δ N n (to q) = nat_lt (number_at m δ N q) n
lead_below m δ N n lost = false

-- the act is usable at the position, and each possible reaction leads to a number below n
abbrev pub surely_below : Meaning → Prog → List ℕ → ℕ → ℕ → ℕ → Bool
surely_below m δ N n p a =
    usable m δ p a
    && all_below reactions (λ e. not (m.possible (state_of m p) a e) || lead_below m δ N n (lead m δ p a e))

-- A row is true if its number is 0, its act none and the position may stop;
-- or its act is usable and each possible reaction leads to a row with a lower number. A number of 32,768 or more makes a false row.
abbrev pub true_row : Meaning → Prog → List ℕ → ℕ → Row → Bool
true_row m δ N p r =
    nat_lt r.number number_bound
    && ((r.number == 0 && (r.act == no_act && may_stop m δ p)) || surely_below m δ N r.number p r.act)

-- no row at all, or a true one
abbrev pub sound_row : Meaning → Prog → List ℕ → ℕ → Option Row → Bool
sound_row m δ N p none = true
sound_row m δ N p (some r) = true_row m δ N p r

abbrev pub has_row : Option Row → Bool
has_row none = false
has_row (some r) = true

-- there are at most 32,768 positions, and the tables of so many entries have one for each
abbrev pub fits : Meaning → Prog → ℕ → ℕ → Bool
fits m δ n a = nat_le (positions m δ) most_positions && (nat_le (positions m δ) n && nat_le (positions m δ) a)

-- A sheet is accepted exactly when its first position has a row and every row is true.
abbrev pub Accepts : Meaning → Prog → List ℕ → List ℕ → Type 0
Accepts m δ N A =
    (fits m δ (length N) (length A) ≡ true)
    × (has_row (row m δ N A (first_position m)) ≡ true)
    × ((p : ℕ) → p < positions m δ → sound_row m δ N p (row m δ N A p) ≡ true)

-- What pass answers: accepted; too many positions or too short a table, with the count of positions;
-- or the lowest position whose row is false, or that is the first and has none.
pub data Passed : Type 0 where
  accepted : Passed
  too_large : ℕ → Passed
  false_row : ℕ → Passed

abbrev pub spoils_sheet : Meaning → Prog → List ℕ → List ℕ → ℕ → Bool
spoils_sheet m δ N A p =
    not (sound_row m δ N p (row m δ N A p)) || (p == first_position m && not (has_row (row m δ N A p)))

abbrev pub passed_by : Option ℕ → Passed
passed_by none = accepted
passed_by (some p) = false_row p

abbrev pub pass : Meaning → Prog → List ℕ → List ℕ → Passed
pass m δ N A =
    elim (fits m δ (length N) (length A)) [
      | true ↦ passed_by (lowest (positions m δ) (spoils_sheet m δ N A))
      | false ↦ too_large (positions m δ)
    ]

-- Pass accepts exactly the sheets that are to be accepted; it finds the size first, and then the lowest position that spoils the sheet.
abbrev pub PassIsAccepts : Type 0
PassIsAccepts =
    (m : Meaning) → Lawful m → (δ : Prog) (N A : List ℕ) →
    (pass m δ N A ≡ accepted → Accepts m δ N A)
    × (Accepts m δ N A → pass m δ N A ≡ accepted)
    × ((n : ℕ) → pass m δ N A ≡ too_large n → (fits m δ (length N) (length A) ≡ false) × (n ≡ positions m δ))
    × ((p : ℕ) → pass m δ N A ≡ false_row p →
    (p < positions m δ) × (spoils_sheet m δ N A p ≡ true) × ((q : ℕ) → q < p → spoils_sheet m δ N A q ≡ false))

-- faults 12, 13 and 14
abbrev pub size_fault : ℕ → Fault
size_fault n = record { number = 12; layer = positions_layer; place = n }

abbrev pub no_sheet_fault : ℕ → Fault
no_sheet_fault p = record { number = 13; layer = positions_layer; place = p }

abbrev pub false_row_fault : ℕ → Fault
false_row_fault p = record { number = 14; layer = sheet_layer; place = p }

abbrev pub pass_fault : Passed → Option Fault
pass_fault accepted = none
pass_fault (too_large n) = some (size_fault n)
pass_fault (false_row p) = some (false_row_fault p)

-- Within m δ n p: from the position p one can surely come to stop in at most n steps.
abbrev pub Within : Meaning → Prog → ℕ → ℕ → Type 0
Within m δ zero p = may_stop m δ p ≡ true
Within m δ (suc n) p =
    (may_stop m δ p ≡ true)
    ⊎ ((a : ℕ)
    × (usable m δ p a ≡ true)
    × ((e : ℕ) → m.possible (state_of m p) a e ≡ true → (q : ℕ) × (lead m δ p a e ≡ to q) × Within m δ n q))

-- The numbers up to n: 0 where the position may stop; otherwise the least n for which some usable act leads,
-- by each possible reaction, to a number below n; and no row where there is no such n yet.
abbrev pub numbered_by : Meaning → Prog → ℕ → List ℕ → ℕ → ℕ
numbered_by m δ n N p =
    let old = get_or N p no_number in
    elim (old == no_number) [
      | true ↦ cond (any_below m.acts (surely_below m δ N n p)) n no_number
      | false ↦ old
    ]

abbrev pub numbers_to : Meaning → Prog → ℕ → List ℕ
numbers_to m δ zero = table (positions m δ) (λ p. cond (may_stop m δ p) 0 no_number)
numbers_to m δ (suc n) = let N = numbers_to m δ n in table (positions m δ) (numbered_by m δ (suc n) N)

-- Make's numbers. Each round that adds no row is the last that could, so there are at most as many as positions.
abbrev pub numbers : Meaning → Prog → List ℕ
numbers m δ = numbers_to m δ (positions m δ)

-- Make's number is the least n within which one can surely come to stop, and no row where there is none.
-- It is at most the count of positions, and below it if each allowed act has a reaction.
abbrev pub NumbersAreLeast : Type 0
NumbersAreLeast =
    (m : Meaning) → Lawful m → (δ : Prog) → positions m δ ≤ most_positions → (p : ℕ) → p < positions m δ →
    ((slice_index_or (numbers m δ) p no_number ≤ positions m δ)
    × (Live m → slice_index_or (numbers m δ) p no_number < positions m δ)
    × Within m δ (slice_index_or (numbers m δ) p no_number) p
    × ((k : ℕ) → Within m δ k p → slice_index_or (numbers m δ) p no_number ≤ k))
    ⊎ ((slice_index_or (numbers m δ) p no_number ≡ no_number) × ((k : ℕ) → Within m δ k p → ⊥))

-- the first act, in rising number, that surely leads below n
abbrev pub act_or_none : Option ℕ → ℕ
act_or_none none = no_act
act_or_none (some a) = a

abbrev pub first_act : Meaning → Prog → List ℕ → ℕ → ℕ → ℕ
first_act m δ N p n = act_or_none (lowest m.acts (surely_below m δ N n p))

-- Make's acts: none at number 0 and at no row, else the first act that surely leads below the position's number.
abbrev pub acts_for : Meaning → Prog → List ℕ → List ℕ
acts_for m δ N =
    table (positions m δ)
    (λ p. let n = get_or N p no_number in elim (n == 0 || n == no_number) [ true ↦ no_act | false ↦ first_act m δ N p n ])

abbrev pub acts : Meaning → Prog → List ℕ
acts m δ = acts_for m δ (numbers m δ)

-- how many numbers of a table are rows
abbrev pub row_count : List ℕ → ℕ
row_count [] = 0
row_count (n ∷ N) = cond (n == no_number) (row_count N) (suc (row_count N))

-- What make answers: a sheet, with the first position's number and the count of rows; no sure sheet, at the first position;
-- or too many positions or too short a table, with the count of positions.
pub data Made : Type 0 where
  made : ℕ → ℕ → Made
  no_sheet : ℕ → Made
  oversize : ℕ → Made

abbrev pub made_from : Meaning → List ℕ → Made
made_from m N =
    let n = get_or N (first_position m) no_number in
    cond (n == no_number) (no_sheet (first_position m)) (made n (row_count N))

-- make, for tables of so many numbers and acts
abbrev pub make : Meaning → Prog → ℕ → ℕ → Made
make m δ n a = elim (fits m δ n a) [ true ↦ made_from m (numbers m δ) | false ↦ oversize (positions m δ) ]

-- The tables after make: filled up to the positions, whether or not there is a sure sheet, and untouched past them;
-- untouched altogether where they do not fit.
abbrev pub tables_after : Meaning → Prog → List ℕ → List ℕ → List ℕ × List ℕ
tables_after m δ N A =
    elim (fits m δ (length N) (length A)) [
      | true ↦ (numbers m δ ++ drop (positions m δ) N, acts m δ ++ drop (positions m δ) A)
      | false ↦ (N, A)
    ]

abbrev pub make_fault : Made → Option Fault
make_fault (made n r) = none
make_fault (no_sheet p) = some (no_sheet_fault p)
make_fault (oversize n) = some (size_fault n)
