use Rattle.std.proofs.Common.{◌≡◌, ℕ, ◌<◌, true, Some, None, MatchOption, Option, sym, subst, rules, tests, arith}
use Rattle.std.proofs.lemmas.Iterator.{YieldsList-from_range}
use Rattle.locks.proofs.Searches.{first_over}
use Rattle.golog.specs.Points.{Ways, points, two_ways_at, ways}
use Rattle.golog.specs.Points.Ways.{one_way, two_ways}
use Rattle.routine.specs.Kept.{tables_prog}
use Rattle.routine.specs.Found.{NoneBelow, found_ways}
use Rattle.routine.proofs.FoundWays.{no_ways, lowest_ways}
use Rattle.routine.proofs.tables.Tables.ways.Goals as goal

from_cases : (w : Ways) (o : Option (ℕ × ℕ × ℕ)) → MatchOption o (w ≡ one_way) (λ x. w ≡ two_ways x.0 x.1 x.2) → w ≡ found_ways o
from_cases w None e = e
from_cases w (Some (p, q, r)) e = e

pub returns : goal.returns
returns c =
    let δ = tables_prog c.args.self.now in
    let facts = c.args.self.now.facts in
    let t = two_ways_at facts δ in
    let n = c.points.result in
    from_cases (ways facts δ) c.next.result
    (first_over n (λ p. (q : ℕ) → q < points δ → NoneBelow (points δ) (t p q))
    (λ p (x : ℕ × ℕ × ℕ). (x.0 ≡ p) × (x.1 < points δ) × (x.2 < points δ) × (t p x.1 x.2 ≡ true) × ((k : ℕ) → k < x.1 → NoneBelow (points δ) (t p k)) × NoneBelow x.2 (t p x.1)) _ _ _ c.next.result c.next.ensures.steps
    (YieldsList-from_range 0 n n c.filter_map.ensures.source (omega arith)) c.filter_map.ensures.closure (λ x q k. search (rules, tests)) (λ x y q k. search (rules, tests))
    (λ none. no_ways facts δ (λ p h. none p (omega (arith, c.points.ensures.is))))
    (λ p x h f low. subst (λ k. ways facts δ ≡ two_ways k x.1 x.2) (sym f.0)
    (lowest_ways facts δ p x.1 x.2 (omega (arith, c.points.ensures.is)) f.1 f.2 low f.4 f.5 f.3)))
