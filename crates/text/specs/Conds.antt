-- What the readers of conditions do.
use Rattle.std.specs.Prelude.{◌≡◌, ℕ, suc, ◌+◌, ◌<◌, ◌≤◌, Bool, true, false, List, [], ◌∷◌, length, ◌≢◌}
use Rattle.std.proofs.Math.Option.{Option, none, some}
use Rattle.golog.specs.Programs.{Cond}
use Rattle.golog.specs.Words.{Token, Word}
use Rattle.golog.specs.Grammar.{Names, CondSort}
use Rattle.golog.specs.Grammar.CondSort.{disjunction, conjunction, literal}
use Rattle.golog.specs.Reading.{Sofar, CondSofar, Frame, Base, Nest, State, nothing_cond, operand, advance, depth, most_depth}
use Rattle.golog.specs.Reading.Advance.{goes}
use Rattle.golog.specs.Reading.Nest.{bracket, negation}
use Rattle.golog.specs.Reading.Base.{of_test, of_if, of_while}
use Rattle.golog.specs.Reading.State.{want_cond, have_cond}
use Rattle.tree.specs.Held.{clauses, cond_at}
use Rattle.text.specs.declared.word.Mark.{Mark}
use Rattle.text.specs.declared.word.Mark.TheVariants.{Close, CloseSquare, Then, Do, And, Or}
use Rattle.text.specs.declared.fault.TextFault.{TextFault}
use Rattle.text.specs.declared.reader.Level.{Level}
use Rattle.text.specs.declared.reader.Reader.{Reader}
use Rattle.text.specs.Said.{mark_word}
use Rattle.text.specs.Faults.{Tells}
use Rattle.text.specs.Rest.{rest, going, names_of, goes_on, next_mark}
use Rattle.text.specs.Built.{Grows}

-- what was read before a part of each sort
abbrev pub cond_before : CondSort → CondSofar → CondSofar
cond_before literal O = O
cond_before conjunction O = (O.0, none)
cond_before disjunction O = nothing_cond

-- no not waits for the part
abbrev pub no_negation : List Nest → Bool
no_negation [] = true
no_negation (bracket P ∷ L) = true
no_negation (negation P ∷ L) = false

abbrev pub Open : CondSort → List Nest → Type 0
Open literal L = Unit {0}
Open conjunction L = no_negation L ≡ true
Open disjunction L = no_negation L ≡ true

-- where the reading stands behind a part of each sort
abbrev pub cond_after : CondSort → List Frame → Sofar → Base → List Nest → CondSofar → Cond → State
cond_after literal K A B L O c = operand K A B L O c
cond_after conjunction K A B L O c = have_cond K A B L (O.0, none) c
cond_after disjunction K A B L O c = have_cond K A B L nothing_cond c

-- which marks are not next behind a part of each sort
abbrev pub CondStops : CondSort → List Token → Type 0
CondStops literal ts = Unit {0}
CondStops conjunction ts = next_mark ts ≡ some And → ⊥
CondStops disjunction ts = (next_mark ts ≢ some And) × (next_mark ts ≢ some Or)

-- a condition of the sort was read, and stands in the tree
pub record CondRead (k : CondSort) (v : Level) (s t : Reader) (i : ℕ) : Type 0 where
  pub fewer : length (rest t) < length (rest s)
  pub stops : CondStops k (rest t)
  pub grows : Grows s.tree t.tree
  pub there : i < length (clauses t.tree)
  pub on : (K : List Frame) (A : Sofar) (B : Base) (L : List Nest) (O : CondSofar) → Open k L → suc (length K + length L) ≡ v.depth →
      goes_on v s (want_cond K A B L (cond_before k O)) ≡ goes_on v t (cond_after k K A B L O (cond_at t.tree i))

-- a condition i that was read became a condition j of the sort k, behind parts of the sort l
pub record CondJoined (k l : CondSort) (v : Level) (s : Reader) (i : ℕ) (t : Reader) (j : ℕ) : Type 0 where
  pub fewer : length (rest t) ≤ length (rest s)
  pub stops : CondStops l (rest t)
  pub grows : Grows s.tree t.tree
  pub there : j < length (clauses t.tree)
  pub on : (K : List Frame) (A : Sofar) (B : Base) (L : List Nest) (O : CondSofar) → Open k L → suc (length K + length L) ≡ v.depth →
      goes_on v s (cond_after k K A B L O (cond_at s.tree i)) ≡ goes_on v t (cond_after k K A B L O (cond_at t.tree j))

abbrev pub CondRefused : CondSort → Level → Reader → TextFault → Type 0
CondRefused k v s f =
    (K : List Frame) (A : Sofar) (B : Base) (L : List Nest) (O : CondSofar) → Open k L → suc (length K + length L) ≡ v.depth →
    Tells f (goes_on v s (want_cond K A B L (cond_before k O)))

-- the mark that closes a condition
abbrev pub base_closer : Base → Mark
base_closer of_test = CloseSquare
base_closer of_if = Then
base_closer of_while = Do

abbrev pub cond_closer : Base → List Nest → Option Mark
cond_closer B [] = some (base_closer B)
cond_closer B (bracket P ∷ L) = some Close
cond_closer B (negation P ∷ L) = none

-- a condition, and the mark that closes it
pub record CondClosed (v : Level) (s t : Reader) (m : Mark) (i : ℕ) : Type 0 where
  pub fewer : length (rest t) < length (rest s)
  pub grows : Grows s.tree t.tree
  pub there : i < length (clauses t.tree)
  pub on : (K : List Frame) (A : Sofar) (B : Base) (L : List Nest) (U : State) → no_negation L ≡ true → suc (length K + length L) ≡ v.depth →
      advance (names_of v) (have_cond K A B L nothing_cond (cond_at t.tree i)) (mark_word m) ≡ goes U → depth U ≤ most_depth →
      goes_on v s (want_cond K A B L nothing_cond) ≡ goes_on v t U

abbrev pub CondUnclosed : Level → Reader → Mark → TextFault → Type 0
CondUnclosed v s m f =
    (K : List Frame) (A : Sofar) (B : Base) (L : List Nest) → no_negation L ≡ true → suc (length K + length L) ≡ v.depth → cond_closer B L ≡ some m →
    ((c : Cond) → (U : State) × (advance (names_of v) (have_cond K A B L nothing_cond c) (mark_word m) ≡ goes U)) →
    Tells f (goes_on v s (want_cond K A B L nothing_cond))

-- a word was taken that is a condition
pub record CondTaken (s t : Reader) (w : Word) (c : Cond) (i : ℕ) : Type 0 where
  pub fewer : length (rest t) < length (rest s)
  pub grows : Grows s.tree t.tree
  pub there : i < length (clauses t.tree)
  pub is : cond_at t.tree i ≡ c
  pub on : (N : Names) (len : ℕ) (S U : State) → advance N S w ≡ goes U → depth U ≤ most_depth → going N len s S ≡ going N len t U
