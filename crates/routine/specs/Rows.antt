-- What holds at one point under one valuation, and at the beginning of each entry of a tree.
use Rattle.std.specs.Prelude.{◌≡◌, ℕ, ◌<◌, min, false, List, length, slice_index_or}
use Rattle.golog.specs.Programs.{Valuation, Prog, Final}
use Rattle.golog.specs.Points.{words, rem, next}
use Rattle.tree.specs.declared.tree.Tree.{Tree}
use Rattle.tree.specs.Held.{prog_at}
use Rattle.routine.specs.Sets.{room, Holds, no_points}
use Rattle.routine.specs.declared.row.Row.{Row}
use Rattle.routine.specs.declared.row.Start.{Start}

-- the row of a point: whether its remainder may stop, and which points come next
abbrev pub IsRow : Prog → Valuation → ℕ → Row → Type 0
IsRow δ v k r = (r.stop ≡ Final (rem δ k) v) × Holds r.next (next δ v k)

-- how many act words there are, as far as a set has room
abbrev pub counted : Prog → ℕ
counted δ = min room (words δ)

-- the beginning of a program
abbrev pub IsStart : Prog → Valuation → Start → Type 0
IsStart δ v s = (s.words ≡ counted δ) × IsRow δ v 0 s.row

abbrev pub no_start : Start
no_start = record { words = 0; row = record { stop = false; next = no_points } }

-- the beginnings of the entries of a tree
abbrev pub Starts : Tree → Valuation → List Start → Type 0
Starts t v ss = (i : ℕ) → i < length ss → IsStart (prog_at t i) v (slice_index_or ss i no_start)
