use Rattle.std.proofs.Common.{ℕ, not, ◌&&◌, refl, rules, tests}
use Rattle.std.proofs.lemmas.Iterator.{YieldsList-from_range}
use Rattle.locks.specs.Allowed.{marked}
use Rattle.locks.proofs.Searches.{any_over}
use Rattle.locks.proofs.allowance.Allowance.unmarked_possible.Goals as goal

pub returns : goal.returns
returns g c =
    let p = c.args.self.now in
    let unmarked = λ (e : ℕ). (g.L.Lock.meaning p.lower).possible c.args.below c.args.act e && not (marked p.marks c.args.act e) in
    any_over 8 unmarked _ _ c.any.result c.any.ensures.ran (YieldsList-from_range 0 8 8 refl refl) (λ x b q k. search (rules, tests))
