use Rattle.std.proofs.Common.{drop, ◌∙◌, arith, length-drop, rules, tests}
use Rattle.std.proofs.lemmas.List.{take_all}
use Rattle.std.proofs.lemmas.Iterator.{YieldsList-from_slice}
use Rattle.std.proofs.lemmas.Iterator.Consumers.{count_from_yields_List, YieldsList-at}
use Rattle.std.proofs.lemmas.Iterator.Search.{YieldsList-from_take_while}
use Rattle.std.proofs.lemmas.List.Folds.{length-prefix_len}
use Rattle.text.proofs.Cutting.{in_line, comment_to}
use Rattle.text.proofs.lexer.cutting.comment_end.Goals as goal

pub returns-clause-skips : goal.returns-clause-skips
returns-clause-skips c =
    let bs = drop c.args.from c.args.text.now in
    comment_to c.args.text.now c.args.from _
    (count_from_yields_List c.take_while-comment.result _ c.count.ensures.ran (YieldsList-from_take_while _ in_line (YieldsList-at c.take_while-comment.ensures.source (YieldsList-from_slice bs (c.iter.ensures.rest ∙ take_all _ bs (omega (arith, length-drop c.args.from c.args.text.now))))) c.take_while-comment.ensures.closure c.take_while-comment.ensures.done (λ x b q k. search (rules, tests))) ∙ length-prefix_len in_line bs)
