use Rattle.std.proofs.Common.{ℕ, Bool, ◌&&◌, eqb, refl, ap, ◌∙◌, rules, tests, arith}
use Rattle.std.proofs.lemmas.Iterator.{YieldsList-from_range}
use Rattle.locks.specs.Meaning.{any_below}
use Rattle.locks.proofs.Searches.{any_over}
use Rattle.golog.specs.Points.{word, valuation}
use Rattle.routine.specs.Sets.{has}
use Rattle.routine.specs.Routines.{routine_prog, next_by}
use Rattle.routine.proofs.Keeping.{any_same}
use Rattle.routine.proofs.routine.Routine.has_next.Goals as goal

pub returns : goal.returns
returns c =
    let δ = routine_prog c.args.self.now in
    let n = c.points.result in
    let t : ℕ → Bool = λ k. has c.row.result.next k && eqb (word δ k) c.args.act in
    let u = next_by δ (valuation c.args.valuation) c.args.point c.args.act in
    any_over n t _ _ c.any.result c.any.ensures.ran (YieldsList-from_range 0 n n refl (omega arith)) (λ x b q k. search (rules, tests))
    ∙ (any_same n t u (λ k l. ap (λ b. b && eqb (word δ k) c.args.act) (c.row.ensures.1 k (omega (arith, c.points.ensures.few))))
    ∙ ap (λ m. any_below m u) c.points.ensures.is)
