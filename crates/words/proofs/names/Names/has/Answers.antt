use Rattle.std.proofs.Common.{◌∙◌, ap, vec_items, rules, tests}
use Rattle.std.proofs.lemmas.Iterator.{YieldsList-from_slice}
use Rattle.std.proofs.lemmas.Iterator.Search.{any_from_yields_List}
use Rattle.std.specs.List.{list_any}
use Rattle.words.specs.Names.{same_word}
use Rattle.words.proofs.Listing.{list_any_of_map}
use Rattle.words.proofs.names.Names.has.Goals as goal

pub returns : goal.returns
returns c =
    any_from_yields_List (λ x. same_word c.args.word.now (vec_items x)) _ _ _ c.any.ensures.ran (YieldsList-from_slice _ c.iter.ensures.rest)
    (λ x b q k. search (rules, tests))
    ∙ (ap (list_any (λ x. same_word c.args.word.now (vec_items x))) c.deref.ensures.value ∙ list_any_of_map vec_items (same_word c.args.word.now) (vec_items c.args.self.now.list))
