use Rattle.std.proofs.Common.{rules, tests}
use Rattle.std.proofs.lemmas.Iterator.{YieldsList-from_slice}
use Rattle.std.proofs.lemmas.Iterator.Search.{any_from_yields_List}
use Rattle.words.specs.Names.{same_word}
use Rattle.words.proofs.is_reserved.Goals as goal

pub returns : goal.returns
returns c = any_from_yields_List (λ x. same_word c.args.word.now x.now) _ _ _ c.any.ensures.ran (YieldsList-from_slice _ c.iter.ensures.rest) (λ x b q k. search (rules, tests))
