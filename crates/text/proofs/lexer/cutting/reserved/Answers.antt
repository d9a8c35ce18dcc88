use Rattle.std.proofs.Common.{◌≡◌, map, sym, refl, ap, ◌∙◌, rules, tests}
use Rattle.std.specs.List.{find}
use Rattle.std.specs.Option.{option_map}
use Rattle.std.proofs.lemmas.Iterator.{YieldsList-from_slice}
use Rattle.std.proofs.lemmas.Iterator.Search.{find_from_yields_List}
use Rattle.words.specs.Names.{same_word}
use Rattle.golog.specs.Words.{beside, reserved}
use Rattle.text.specs.Said.{said}
use Rattle.text.proofs.Cutting.{said_of, beside_found, reserved_is}
use Rattle.text.proofs.lexer.cutting.reserved.Goals as goal

pub returns : goal.returns
returns c =
    let w = c.args.run.now in
    let all = c.iter.result.rest.now in
    let same : map (λ e. (e.0.now, said e.1)) all ≡ reserved = search rules in
    let found : option_map (λ y. y.now) c.find.result ≡ find (λ e. same_word e.0.now w) all =
    find_from_yields_List (λ e. same_word e.0.now w) _ _ c.find.result c.find.ensures.ran (YieldsList-from_slice all refl) (λ x b q k. search (rules, tests)) in
    reserved_is _ c.find.result c.map.result (ap (λ l. beside l w) (sym same) ∙ (beside_found w all ∙ ap said_of (sym found))) (search rules)
