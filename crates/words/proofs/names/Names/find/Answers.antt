use Rattle.std.proofs.Common.{◌∙◌, ap, vec_items, rules, tests}
use Rattle.std.proofs.lemmas.Iterator.{YieldsList-from_slice}
use Rattle.std.proofs.lemmas.Iterator.Search.{position_from_yields_List}
use Rattle.std.specs.List.{position_from}
use Rattle.std.proofs.lemmas.Iterator.Adapters.{position_from-zero}
use Rattle.words.specs.Names.{same_word}
use Rattle.words.proofs.Listing.{position_whole}
use Rattle.words.proofs.names.Names.find.Goals as goal

pub returns : goal.returns
returns c =
    position_from_yields_List (λ x. same_word (vec_items x) c.args.word.now) _ _ _ c.position.ensures.ran (YieldsList-from_slice _ c.iter.ensures.rest)
    (λ x b q k. search (rules, tests))
    ∙ (position_from-zero (λ x. same_word (vec_items x) c.args.word.now) c.deref.result.now
    ∙ (ap (position_from (λ x. same_word (vec_items x) c.args.word.now) 0) c.deref.ensures.value
    ∙ position_whole vec_items c.args.word.now (vec_items c.args.self.now.list)))
