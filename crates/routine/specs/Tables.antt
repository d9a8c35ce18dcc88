-- What the tables of a program hold.
use Rattle.std.specs.Prelude.{◌≡◌, ℕ, ◌/◌, ◌%◌, ◌<◌, false, List, ◌∷◌, length, get_or, slice_index_or}
use Rattle.golog.specs.Programs.{Prog, Final}
use Rattle.golog.specs.Points.{no_act, act_words, points, rem, next, goes_on, valuation}
use Rattle.routine.specs.Sets.{room, has, no_points}
use Rattle.routine.specs.Rows.{IsRow}
use Rattle.routine.specs.declared.row.Row.{Row}
use Rattle.routine.specs.declared.set.PointSet.{PointSet}

abbrev pub no_row : Row
no_row = record { stop = false; next = no_points }

-- the act words before the points
abbrev pub acts_before : Prog → List ℕ
acts_before δ = no_act ∷ act_words δ

-- the rows of all points under one valuation after another
abbrev pub RowsOf : Prog → List Row → Type 0
RowsOf δ rows = (i : ℕ) → i < length rows → IsRow δ (valuation (i / points δ)) (i % points δ) (slice_index_or rows i no_row)

-- the same in two parts, each a proposition by few binders
abbrev pub StopsOf : Prog → List Row → Type 0
StopsOf δ rows = (i : ℕ) → i < length rows → (get_or rows i no_row).stop ≡ Final (rem δ (i % points δ)) (valuation (i / points δ))

abbrev pub NextsOf : Prog → List Row → Type 0
NextsOf δ rows =
    (i j : ℕ) → (i < length rows) × (j < room) → has (get_or rows i no_row).next j ≡ next δ (valuation (i / points δ)) (i % points δ) j

-- the points that go on, under one valuation after another
abbrev pub GoingOf : Prog → List PointSet → Type 0
GoingOf δ sets = (n j : ℕ) → (n < length sets) × (j < room) → has (slice_index_or sets n no_points) j ≡ goes_on δ (valuation n) j
