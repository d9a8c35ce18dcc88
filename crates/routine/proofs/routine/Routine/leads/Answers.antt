use Rattle.std.proofs.Common.{◌≡◌, ℕ, ◌<◌, Bool, ◌&&◌, eqb, refl, sym, ap, ◌∙◌, rules, tests, arith}
use Rattle.std.proofs.lemmas.Iterator.{YieldsList-from_range}
use Rattle.locks.proofs.Searches.{find_over}
use Rattle.golog.specs.Points.{word, goes_on, valuation}
use Rattle.golog.specs.Search.{lowest}
use Rattle.routine.specs.Sets.{has}
use Rattle.routine.specs.Routines.{routine_prog, leads_to}
use Rattle.routine.proofs.Keeping.{found_lowest}
use Rattle.routine.proofs.Ways.{routine_one_way}
use Rattle.routine.proofs.routine.Routine.leads.Goals as goal

pub returns-clause-is : goal.returns-clause-is
returns-clause-is c =
    let δ = routine_prog c.args.self.now in
    let n = c.points.result in
    let w = valuation c.args.after in
    let t : ℕ → Bool = λ k. (has c.row.result.next k && eqb (word δ k) c.args.act) && goes_on δ w k in
    let u = leads_to δ (valuation c.args.before) w c.args.point c.args.act in
    let same : (k : ℕ) → k < n → t k ≡ u k = λ k l.
    ap (λ b. (b && eqb (word δ k) c.args.act) && goes_on δ w k) (c.row.ensures.1 k (omega (arith, c.points.ensures.few))) in
    found_lowest n u c.find.result
    (find_over n t _ _ c.find.result c.find.ensures.ran (YieldsList-from_range 0 n n refl (omega arith)) (λ x b q k. search (rules, tests))
    (λ fails k l. sym (same k l) ∙ fails k l) (λ k h p low. (h, sym (same k h) ∙ p, λ j l. sym (same j (omega arith)) ∙ low j l)))
    ∙ ap (λ m. lowest m u) c.points.ensures.is

pub returns-clause-one : goal.returns-clause-one
returns-clause-one c = routine_one_way c.args.self.now
