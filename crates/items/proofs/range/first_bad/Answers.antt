use Rattle.std.proofs.Common.{◌≡◌, not, ap, ◌∙◌, rules, tests}
use Rattle.std.specs.Option.{option_map}
use Rattle.std.proofs.lemmas.Iterator.{YieldsList-from_slice}
use Rattle.std.proofs.lemmas.Iterator.Search.{find_from_yields_List}
use Rattle.items.proofs.Tested.{first_found}
use Rattle.items.proofs.range.first_bad.Goals as goal

pub returns : goal.returns
returns c =
    let found = find_from_yields_List (λ t. not t.1) _ _ _ c.find.ensures.ran (YieldsList-from_slice c.args.tests.now cc) (λ x b q k. search (rules, tests)) in
    let offset : c.map.result ≡ option_map (λ t. t.0) (option_map (λ x. x.now) c.find.result) = search (rules, tests) in
    offset ∙ (ap (option_map (λ t. t.0)) found ∙ first_found c.args.tests.now)
