-- What rows say of the program that is kept.
use Rattle.std.proofs.Common.{◌≡◌, ℕ, zero, suc, ◌≤◌, Bool, true, false, ◌||◌, ◌<◌, Some, None, MatchOption, Option, refl, sym, ap₂, arith}
use mathlib.Core.Option.{none}
use Rattle.std.proofs.lemmas.Bool.{both_ways, false_from_ne_true}
use Rattle.locks.specs.Meaning.{any_below}
use Rattle.golog.specs.Programs.{Prog, Valuation}
use Rattle.golog.specs.Points.{points, next}
use Rattle.golog.specs.Search.{lowest}
use Rattle.golog.proofs.Bridge.{next_in}
use Rattle.golog.proofs.Searches.{none_of, lowest_some}
use Rattle.routine.specs.Kept.{kept_prog}
use Rattle.routine.specs.Found.{NoneBelow, found}
use Rattle.routine.specs.declared.tables.Tables.{Tables}
use Rattle.routine.proofs.Tabled.{few_points}
use Rattle.routine.proofs.FoundWays.{lowest_is}

pub kept_few : (k : Option Tables) → points (kept_prog k) ≤ 64
kept_few None = omega arith
kept_few (Some t) = few_points t

-- no point past the last comes next
pub next_far : (δ : Prog) (v : Valuation) (p q : ℕ) → points δ ≤ q → next δ v p q ≡ false
next_far δ v p q h = false_from_ne_true (next δ v p q) (λ e. let l = next_in δ v p q e in omega arith)

-- searches below n with tests that agree there
pub any_same : (n : ℕ) (t u : ℕ → Bool) → ((k : ℕ) → k < n → t k ≡ u k) → any_below n t ≡ any_below n u
any_same zero t u h = refl
any_same (suc n) t u h = ap₂ ◌||◌ (h n (omega arith)) (any_same n t u (λ k l. h k (omega arith)))

pub none_lowest : (n : ℕ) (t : ℕ → Bool) → NoneBelow n t → lowest n t ≡ none
none_lowest n t h = none_of (lowest n t) (λ k e. let (l, x, _) = lowest_some n t k e in both_ways (t k) (h k l) x)

-- the first number below n that passes, as a search finds it
pub found_lowest : (n : ℕ) (t : ℕ → Bool) (o : Option ℕ) →
    MatchOption o (NoneBelow n t) (λ k. (k < n) × (t k ≡ true) × NoneBelow k t) → found o ≡ lowest n t
found_lowest n t None h = sym (none_lowest n t h)
found_lowest n t (Some k) (l, e, lower) = sym (lowest_is n t k l e lower)
