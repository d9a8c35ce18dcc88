use Rattle.std.proofs.Common.{length, ap, ◌∙◌, arith, rules}
use Rattle.text.proofs.Cutting.{gap_lone}
use Rattle.text.proofs.lexer.cutting.WordsIterator.next.Goals as goal

pub returns-in-Lone-clause-steps : goal.returns-in-Lone-clause-steps
returns-in-Lone-clause-steps c =
    c.word_start-at.ensures.skips ∙ gap_lone c.args.self.now.text.now c.word_start-at.result (search rules) _ c.in-Lone.ensures

pub returns-in-Lone-clause-goes : goal.returns-in-Lone-clause-goes
returns-in-Lone-clause-goes c =
    let e = c.word_start-at.ensures.skips ∙ gap_lone c.args.self.now.text.now c.word_start-at.result (search rules) _ c.in-Lone.ensures in
    record { on = λ h. (tt, tt, omega (arith, ap length e)); keeps = tt; rests = λ h. tt }
