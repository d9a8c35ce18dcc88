use Rattle.std.proofs.Common.{◌+◌, ◌*◌, length}
use Rattle.golog.specs.Grammar.CondSort.{disjunction, conjunction, literal}
use Rattle.text.specs.Rest.{rest}
use Rattle.text.specs.Conds.{CondJoined}
use Rattle.text.proofs.reader.Reader.+condition_conjunction_disjunction_literal.Given as goal

abbrev pub decreases-literal : goal.decreases-literal
decreases-literal l = 4 * length (rest l.self.now)

abbrev pub decreases-conjunction : goal.decreases-conjunction
decreases-conjunction l = 4 * length (rest l.self.now) + 1

abbrev pub decreases-disjunction : goal.decreases-disjunction
decreases-disjunction l = 4 * length (rest l.self.now) + 2

abbrev pub decreases-condition : goal.decreases-condition
decreases-condition l = 4 * length (rest l.self.now) + 3

abbrev pub invariant-conjunction-loop-self : goal.invariant-conjunction-loop-self
invariant-conjunction-loop-self l = CondJoined conjunction literal l.level l.initial.self l.initial.left l.self l.left

abbrev pub decreases-conjunction-loop-self : goal.decreases-conjunction-loop-self
decreases-conjunction-loop-self l = length (rest l.self)

abbrev pub invariant-disjunction-loop-self : goal.invariant-disjunction-loop-self
invariant-disjunction-loop-self l = CondJoined disjunction conjunction l.level l.initial.self l.initial.left l.self l.left

abbrev pub decreases-disjunction-loop-self : goal.decreases-disjunction-loop-self
decreases-disjunction-loop-self l = length (rest l.self)
