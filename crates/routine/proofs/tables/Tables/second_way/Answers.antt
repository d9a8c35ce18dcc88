use Rattle.std.proofs.Common.{◌≡◌, ℕ, subst, ◌<◌, ◌≤◌, Bool, true, false, ◌&&◌, sym, ap, ◌∙◌, rules, tests, arith}
use Rattle.std.proofs.lemmas.Bool.{lt-ltb, le-ltb}
use Rattle.std.proofs.lemmas.Iterator.{first_from_Range}
use Rattle.golog.specs.Points.{two_ways_at, together, go_on_together}
use Rattle.routine.specs.Sets.{has}
use Rattle.routine.specs.Found.{FoundSecond}
use Rattle.routine.specs.Kept.{tables_prog}
use Rattle.routine.proofs.FoundWays.{found_above}
use Rattle.routine.proofs.Unions.{two_ways_from}
use Rattle.routine.proofs.tables.Tables.second_way.Goals as goal

pub returns : goal.returns
returns c =
    let δ = tables_prog c.args.self.now in
    let facts = c.args.self.now.facts in
    let q = c.args.first in
    let n = c.points.result in
    let both : ℕ → Bool = has c.common-both.result in
    let t = two_ways_at facts δ c.args.from q in
    let same : (r : ℕ) → q < r → r < n → both r ≡ t r = λ r g h.
    let l : r < 64 = omega (arith, c.points.ensures.few) in
    c.common-both.ensures r l
    ∙ (sym (ap (λ b. b && (has c.together.result r && has c.go_on_together.result r)) (lt-ltb q r g))
    ∙ two_ways_from δ facts c.args.from q r _ _ (c.together.ensures r l) (c.go_on_together.ensures r l)) in
    let low : (r : ℕ) → r ≤ q → t r ≡ false = λ r g. ap (λ b. b && (together facts δ c.args.from q r && go_on_together facts δ q r)) (le-ltb q r g) in
    subst (λ (m : ℕ). FoundSecond m t c.find.result) c.points.ensures.is
    (found_above n q both t same low c.find.result
    (first_from_Range _ _ _ c.find.result (λ x. both x ≡ true) (λ x. both x ≡ false) c.find.ensures.ran (λ x q k. search (rules, tests)) (λ x q k. search (rules, tests))))
