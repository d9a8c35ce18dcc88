use Rattle.std.proofs.Common.{◌∙◌, rules}
use Rattle.text.proofs.Cutting.{gap_blank, gap_hash}
use Rattle.text.proofs.lexer.cutting.word_start.Goals as goal

pub loop-b-preserved-in-Blank : goal.loop-b-preserved-in-Blank
loop-b-preserved-in-Blank c = (search rules, search rules, c.loop-b.invariant.2 ∙ gap_blank c.args.text.now c.loop-b.at (search rules) (search rules))

pub loop-b-preserved : goal.loop-b-preserved
loop-b-preserved c = (
  search rules,
  search rules,
  c.loop-b.invariant.2 ∙ (gap_hash c.args.text.now c.loop-b.at (search rules) (search rules) ∙ c.comment_end-at.ensures.skips),
)
