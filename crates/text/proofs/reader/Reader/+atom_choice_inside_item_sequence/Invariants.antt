use Rattle.std.proofs.Common.{◌+◌, ◌*◌, length}
use Rattle.golog.specs.Grammar.Sort.{choice, sequence, item, atom}
use Rattle.text.specs.Rest.{rest}
use Rattle.text.specs.Progs.{ProgJoined}
use Rattle.text.proofs.reader.Reader.+atom_choice_inside_item_sequence.Given as goal

abbrev pub decreases-atom : goal.decreases-atom
decreases-atom l = 5 * length (rest l.self.now)

abbrev pub decreases-item : goal.decreases-item
decreases-item l = 5 * length (rest l.self.now) + 1

abbrev pub decreases-sequence : goal.decreases-sequence
decreases-sequence l = 5 * length (rest l.self.now) + 2

abbrev pub decreases-choice : goal.decreases-choice
decreases-choice l = 5 * length (rest l.self.now) + 3

abbrev pub decreases-inside : goal.decreases-inside
decreases-inside l = 5 * length (rest l.self.now) + 4

abbrev pub invariant-item-loop-self : goal.invariant-item-loop-self
invariant-item-loop-self l = ProgJoined item atom l.level l.initial.self l.initial.part l.self l.part

abbrev pub decreases-item-loop-self : goal.decreases-item-loop-self
decreases-item-loop-self l = length (rest l.self)

abbrev pub invariant-sequence-loop-self : goal.invariant-sequence-loop-self
invariant-sequence-loop-self l = ProgJoined sequence item l.level l.initial.self l.initial.left l.self l.left

abbrev pub decreases-sequence-loop-self : goal.decreases-sequence-loop-self
decreases-sequence-loop-self l = length (rest l.self)

abbrev pub invariant-choice-loop-self : goal.invariant-choice-loop-self
invariant-choice-loop-self l = ProgJoined choice sequence l.level l.initial.self l.initial.left l.self l.left

abbrev pub decreases-choice-loop-self : goal.decreases-choice-loop-self
decreases-choice-loop-self l = length (rest l.self)
