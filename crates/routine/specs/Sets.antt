-- Sets of points: point j is in the set where bit j of its bits is set.
use Rattle.std.specs.Prelude.{◌≡◌, ℕ, ◌-◌, ◌<◌, Bool, ◌&&◌, nat_le}
use Rattle.locks.specs.Meaning.{any_below}
use Rattle.golog.specs.Points.{valuation}
use Rattle.routine.specs.declared.set.PointSet.{PointSet}

-- how many points a set has room for
abbrev pub room : ℕ
room = 64

abbrev pub has : PointSet → ℕ → Bool
has set j = valuation set.bits j

abbrev pub no_points : PointSet
no_points = record { bits = 0 }

-- whether any number is in the set
unfoldable pub some_in : PointSet → Bool
some_in set = any_below room (has set)

-- the set is that of the numbers that pass the test
abbrev pub Holds : PointSet → (ℕ → Bool) → Type 0
Holds set t = (j : ℕ) → j < room → has set j ≡ t j

-- the test of the numbers, each made larger
abbrev pub moved : ℕ → (ℕ → Bool) → ℕ → Bool
moved by t j = nat_le by j && t (j - by)
