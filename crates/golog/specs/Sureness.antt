-- What make's answer says of ways of choosing, and what a sheet that is accepted says of the plain job on it.
use Rattle.std.specs.Prelude.{◌≡◌, ℕ, ◌+◌, ◌<◌, ◌≤◌, true, List, [], length}
use Rattle.locks.specs.Meaning.{Meaning, Lawful, Live}
use Rattle.golog.specs.Programs.{Prog}
use Rattle.golog.specs.Points.{OneWay}
use Rattle.golog.specs.Positions.{state_of, first_position, rem_at, may_stop}
use Rattle.golog.specs.Standings.{Way, Reaches, Ends}
use Rattle.golog.specs.Sheets.{number_at, fits, Accepts, Within, make, tables_after}
use Rattle.golog.specs.Sheets.Made.{made, no_sheet}
use Rattle.golog.specs.Jobs.{Call, plain_begin, plain_after, plain_told, Finishes}
use Rattle.golog.specs.Jobs.Phase.{finished}

-- The way ends the routine within n, from the beginning.
abbrev pub EndsWithin : Meaning → Prog → Way → ℕ → Type 0
EndsWithin m δ f n = Ends m f n [] δ m.first

-- The number of a position is that of ways of choosing: of a routine with one way, on a lock whose allowed acts each have a reaction,
-- one can surely come to stop within n from the first position exactly when some way of choosing ends within n.
abbrev pub WithinIsEnding : Type 0
WithinIsEnding =
    (m : Meaning) → Lawful m → Live m → (δ : Prog) → OneWay δ → (n : ℕ) →
    (Within m δ n (first_position m) → (f : Way) × EndsWithin m δ f n)
    × ((f : Way) → EndsWithin m δ f n → Within m δ n (first_position m))

-- Make answers that there is no sure sheet exactly when no way of choosing ends within any number.
-- Otherwise it answers a number within which some way ends, and none ends within fewer.
abbrev pub MakeIsSure : Type 0
MakeIsSure =
    (m : Meaning) → Lawful m → Live m → (δ : Prog) → OneWay δ → (n a : ℕ) → fits m δ n a ≡ true →
    ((p : ℕ) → make m δ n a ≡ no_sheet p → (f : Way) (k : ℕ) → EndsWithin m δ f k → ⊥)
    × (((f : Way) (k : ℕ) → EndsWithin m δ f k → ⊥) → make m δ n a ≡ no_sheet (first_position m))
    × ((k r : ℕ) → make m δ n a ≡ made k r →
    ((f : Way) × EndsWithin m δ f k) × ((f : Way) (j : ℕ) → j < k → EndsWithin m δ f j → ⊥))

-- Pass accepts the sheet that make makes, with make's number at the first position.
abbrev pub MadeIsAccepted : Type 0
MadeIsAccepted =
    (m : Meaning) → Lawful m → Live m → (δ : Prog) (N A : List ℕ) (n r : ℕ) → make m δ (length N) (length A) ≡ made n r →
    Accepts m δ (tables_after m δ N A).0 (tables_after m δ N A).1 × (number_at m δ (tables_after m δ N A).0 (first_position m) ≡ n)

-- The plain job on an accepted sheet finishes after at most as many tells as the first position's number says.
abbrev pub PlainFinishes : Type 0
PlainFinishes =
    (m : Meaning) → Lawful m → Live m → (δ : Prog) (N A : List ℕ) → Accepts m δ N A →
    Finishes m δ N A (number_at m δ N (first_position m)) (plain_begin m δ N)

-- The plain job on an accepted sheet after any list of calls: tells taken plus its number are at most the number that it began with,
-- Trans reaches its position by the acts and reactions of those tells, and it is finished only where Final holds.
pub record Tracks (m : Meaning) (δ : Prog) (N A : List ℕ) (cs : List Call) : Type 0 where
  pub counts : (plain_after m δ N A cs (plain_begin m δ N)).count ≡ length (plain_told m δ N A cs (plain_begin m δ N))
  pub falls : (plain_after m δ N A cs (plain_begin m δ N)).count + (plain_after m δ N A cs (plain_begin m δ N)).number ≤ number_at m δ N (first_position m)
  pub reached :
      Reaches m δ (plain_told m δ N A cs (plain_begin m δ N)) (rem_at m δ (plain_after m δ N A cs (plain_begin m δ N)).position)
      (state_of m (plain_after m δ N A cs (plain_begin m δ N)).position)
  pub final :
      (plain_after m δ N A cs (plain_begin m δ N)).phase ≡ finished →
      may_stop m δ (plain_after m δ N A cs (plain_begin m δ N)).position ≡ true

abbrev pub PlainTracks : Type 0
PlainTracks =
    (m : Meaning) → Lawful m → Live m → (δ : Prog) (N A : List ℕ) → Accepts m δ N A → (cs : List Call) → Tracks m δ N A cs
