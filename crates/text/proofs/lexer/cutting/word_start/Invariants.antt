use Rattle.std.proofs.Common.{◌≡◌, ◌-◌, ◌≤◌, length, drop}
use Rattle.golog.specs.Words.{cut}
use Rattle.golog.specs.Words.Cutting.{gap}
use Rattle.text.proofs.lexer.cutting.word_start.Given as goal

abbrev pub invariant-loop-b : goal.invariant-loop-b
invariant-loop-b l =
    (l.from ≤ l.at) × (l.at ≤ length l.text) × (cut gap l.from (drop l.from l.text) ≡ cut gap l.at (drop l.at l.text))

abbrev pub decreases-loop-b : goal.decreases-loop-b
decreases-loop-b l = length l.text - l.at
