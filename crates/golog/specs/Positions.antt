-- Positions: a point of the program with a state of the lock.
use Rattle.std.specs.Prelude.{◌≡◌, ℕ, ◌+◌, ◌*◌, ◌/◌, ◌%◌, ◌<◌, Bool, true, ◌&&◌, ◌⊎◌, ◌==◌}
use Rattle.std.proofs.Math.Option.{Option, none, some}
use Rattle.locks.specs.Meaning.{Meaning, Lawful, any_below}
use Rattle.golog.specs.Search.{lowest}
use Rattle.golog.specs.Programs.{Valuation, Prog, Final, Trans, Stuck}
use Rattle.golog.specs.Points.{points, word, rem, next, goes_on, OneWay}

-- how many positions there are
abbrev pub positions : Meaning → Prog → ℕ
positions m δ = points δ * m.states

-- A position is point × states + state.
abbrev pub position : Meaning → ℕ → ℕ → ℕ
position m k s = k * m.states + s

abbrev pub point_of : Meaning → ℕ → ℕ
point_of m p = p / m.states

abbrev pub state_of : Meaning → ℕ → ℕ
state_of m p = p % m.states

-- the first position: point 0 with the first state
abbrev pub first_position : Meaning → ℕ
first_position m = m.first

-- the facts that hold at a position
abbrev pub facts_at : Meaning → ℕ → Valuation
facts_at m p = m.holds (state_of m p)

-- what remains at a position; with its state it is the position's standing
abbrev pub rem_at : Meaning → Prog → ℕ → Prog
rem_at m δ p = rem δ (point_of m p)

-- A position may stop where what remains is final.
abbrev pub may_stop : Meaning → Prog → ℕ → Bool
may_stop m δ p = Final (rem_at m δ p) (facts_at m p)

-- the point k comes next from the position by the act
abbrev pub next_by : Meaning → Prog → ℕ → ℕ → ℕ → Bool
next_by m δ p a k = next δ (facts_at m p) (point_of m p) k && word δ k == a

-- An act is usable at a position if it is allowed and some next point has it.
abbrev pub usable : Meaning → Prog → ℕ → ℕ → Bool
usable m δ p a = m.allowed (state_of m p) a && any_below (points δ) (next_by m δ p a)

-- where a reaction leads: to a position, or the position is lost
pub data Lead : Type 0 where
  to : ℕ → Lead
  lost : Lead

abbrev pub lead_to : Meaning → ℕ → Option ℕ → Lead
lead_to m s none = lost
lead_to m s (some k) = to (position m k s)

-- A possible reaction leads to the lowest next point of the act that goes on under the new valuation, with the state after it;
-- if none goes on, the position is lost.
abbrev pub lead : Meaning → Prog → ℕ → ℕ → ℕ → Lead
lead m δ p a e =
    let s = m.after (state_of m p) a e in
    lead_to m s (lowest (points δ) (λ k. next_by m δ p a k && goes_on δ (m.holds s) k))

-- Where a possible reaction leads, Trans leads. A Trans step that it does not follow goes to a remainder that is stuck under the new valuation.
abbrev pub LeadIsTrans : Type 0
LeadIsTrans =
    (m : Meaning) → Lawful m → (δ : Prog) → OneWay δ → (p a e : ℕ) → m.possible (state_of m p) a e ≡ true →
    ((q : ℕ) → lead m δ p a e ≡ to q →
    (q < positions m δ) × Trans m (rem_at m δ p) (state_of m p) a e (rem_at m δ q) (state_of m q) × (goes_on δ (facts_at m q) (point_of m q) ≡ true))
    × ((δ' : Prog) (s' : ℕ) → Trans m (rem_at m δ p) (state_of m p) a e δ' s' →
    ((q : ℕ) × (lead m δ p a e ≡ to q) × (rem_at m δ q ≡ δ') × (state_of m q ≡ s')) ⊎ Stuck δ' (m.holds s'))
