use Rattle.std.proofs.Common.{drop, ◌∙◌, arith, length-drop, rules, tests}
use Rattle.std.proofs.lemmas.List.{take_all}
use Rattle.std.proofs.lemmas.Iterator.{YieldsList-from_slice}
use Rattle.std.proofs.lemmas.Iterator.Consumers.{count_from_yields_List, YieldsList-at}
use Rattle.std.proofs.lemmas.Iterator.Search.{YieldsList-from_take_while}
use Rattle.std.proofs.lemmas.List.Folds.{length-prefix_len}
use Rattle.words.specs.Names.{is_name_byte}
use Rattle.text.proofs.Cutting.{run_to}
use Rattle.text.proofs.lexer.cutting.run_end.Goals as goal

pub returns-clause-run : goal.returns-clause-run
returns-clause-run c =
    let bs = drop c.args.start c.args.text.now in
    run_to c.args.text.now c.args.start _ c.requires.start_in_bounds c.requires.start_value
    (count_from_yields_List c.take_while-run.result _ c.count.ensures.ran (YieldsList-from_take_while _ is_name_byte (YieldsList-at c.take_while-run.ensures.source (YieldsList-from_slice bs (c.iter.ensures.rest ∙ take_all _ bs (omega (arith, length-drop c.args.start c.args.text.now))))) c.take_while-run.ensures.closure c.take_while-run.ensures.done (λ x b q k. search (rules, tests))) ∙ length-prefix_len is_name_byte bs)
