use Rattle.std.proofs.Common.{ℕ, is_some, refl, ◌∙◌, rules, tests, arith}
use Rattle.std.proofs.lemmas.Iterator.{YieldsList-from_range}
use Rattle.std.proofs.lemmas.Iterator.Search.{all_from_yields_List}
use Rattle.lowest.specs.Facts.{rule_in}
use Rattle.lowest.specs.FactViews.{fact_rules}
use Rattle.model.proofs.Ending.{all_of_range}
use Rattle.model.proofs.low.all_ruled.Goals as goal

pub returns : goal.returns
returns c =
    let n = c.args.acts in
    let ruled = λ (a : ℕ). is_some (rule_in (fact_rules c.args.lock.now) a) in
    all_from_yields_List ruled _ _ c.all.result c.all.ensures.ran (YieldsList-from_range 0 n n refl (omega arith)) (λ x b q k. search (rules, tests)) ∙ all_of_range n ruled
