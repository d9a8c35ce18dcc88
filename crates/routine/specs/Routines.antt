-- The program of a routine, and what its questions are about.
use Rattle.std.specs.Prelude.{◌≡◌, ℕ, Bool, true, ◌&&◌, Ok, Err, Result, ◌==◌}
use Rattle.golog.specs.Programs.{Prog, Valuation, Step}
use Rattle.golog.specs.Points.{word, rem, next, goes_on, OneWay, ways}
use Rattle.golog.specs.Points.Ways.{one_way, two_ways}
use Rattle.routine.specs.Kept.{kept_prog}
use Rattle.routine.specs.declared.fault.RoutineFault.{RoutineFault}
use Rattle.routine.specs.declared.fault.RoutineFault.TheVariants.{TwoWays, Memory}
use Rattle.routine.specs.declared.routine.Routine.{Routine}

abbrev pub routine_prog : Routine → Prog
routine_prog r = kept_prog r.tables

-- the point k comes next from p by the act
abbrev pub next_by : Prog → Valuation → ℕ → ℕ → ℕ → Bool
next_by δ v p a k = next δ v p k && word δ k == a

-- and it goes on under another valuation
abbrev pub leads_to : Prog → Valuation → Valuation → ℕ → ℕ → ℕ → Bool
leads_to δ v w p a k = next_by δ v p a k && goes_on δ w k

-- the steps of what remains at a point are the points that come next
abbrev pub StepsAt : Prog → Valuation → ℕ → Type 0
StepsAt δ v p =
    (a : ℕ) (δ' : Prog) →
    (Step v a (rem δ p) δ' → (q : ℕ) × (next δ v p q ≡ true) × (word δ q ≡ a) × (rem δ q ≡ δ'))
    × ((q : ℕ) → next δ v p q ≡ true → word δ q ≡ a → rem δ q ≡ δ' → Step v a (rem δ p) δ')

-- what is made of a program that names no facts but so many
abbrev pub Built : ℕ → Prog → Result Routine RoutineFault → Type 0
Built facts δ (Ok r) = (routine_prog r ≡ δ) × (ways facts δ ≡ one_way) × OneWay δ
Built facts δ (Err (TwoWays p q r)) = ways facts δ ≡ two_ways p q r
Built facts δ (Err Memory) = Unit {0}
