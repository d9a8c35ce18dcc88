use Rattle.std.proofs.Common.{◌≡◌, ℕ, ◌<◌, true, rules, tests, arith}
use Rattle.std.proofs.lemmas.Iterator.{YieldsList-from_range}
use Rattle.locks.proofs.Searches.{first_over}
use Rattle.golog.specs.Points.{points, two_ways_at}
use Rattle.routine.specs.Kept.{tables_prog}
use Rattle.routine.specs.Found.{NoneBelow}
use Rattle.routine.proofs.tables.Tables.ways_from.Goals as goal

pub returns : goal.returns
returns c =
    let δ = tables_prog c.args.self.now in
    let t = two_ways_at c.args.self.now.facts δ c.args.from in
    let n = c.points.result in
    first_over n (λ q. NoneBelow (points δ) (t q)) (λ q (x : ℕ × ℕ). (x.0 ≡ q) × (x.1 < points δ) × (t x.0 x.1 ≡ true) × NoneBelow x.1 (t x.0)) _ _ _ c.next.result c.next.ensures.steps
    (YieldsList-from_range 0 n n c.filter_map.ensures.source (omega arith)) c.filter_map.ensures.closure (λ x q k. search (rules, tests)) (λ x y q k. search (rules, tests))
    (λ none q h. none q (omega (arith, c.points.ensures.is)))
    (λ q x h p low. (omega (arith, p.0, c.points.ensures.is), p.1, p.2, λ k l. low k (omega (arith, p.0)), p.3))
