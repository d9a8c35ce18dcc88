use Rattle.std.proofs.Common.{◌∷◌, sym, subst, refl}
use Rattle.std.proofs.lemmas.Result.{MatchResult-weaker}
use Rattle.golog.specs.Programs.Cond.{always}
use Rattle.golog.specs.Programs.Prog.{test}
use Rattle.golog.specs.Words.Word.{begins}
use Rattle.golog.specs.Words.Begin.{open_square, if_word, while_word}
use Rattle.golog.specs.Reading.{nothing}
use Rattle.golog.specs.Reading.Frame.{in_then, in_do}
use Rattle.golog.specs.Reading.Base.{of_test, of_if, of_while}
use Rattle.golog.specs.Reading.State.{want, have}
use mathlib.Core.Option.{none}
use Rattle.golog.specs.Grammar.Sort.{choice}
use Rattle.text.specs.declared.word.Mark.TheVariants as mark
use Rattle.text.specs.Said.{said}
use Rattle.text.specs.Steps.{Taken, OverDone, OverDeep}
use Rattle.text.specs.Conds.{CondTaken}
use Rattle.text.specs.Progs.{ProgRead}
use Rattle.text.proofs.Stepping.{hands_on, memory_tells, takes_yes, takes_no}
use Rattle.text.proofs.Programs.{item_over, star_joined, sequence_over, sequence_refused, seq_joined, choice_read, choice_over, choice_refused, alt_joined, inside_refused, inside_unclosed, inside_read, nil_over, nil_read, guard_over, guard_refused, test_read, round_over, round_refused, round_read, then_refused, else_refused, if_read, do_refused, while_read}
use Rattle.text.proofs.reader.Reader.+atom_choice_inside_item_sequence.Goals as goal

pub item-returns-in_err-takes : goal.item-returns-in_err-takes
item-returns-in_err-takes t c =
    hands_on _ _ _ _ c.from_residual-in_err-takes.ensures.1
    (item_over c.args.level c.args.self.now c.atom.new.self _ _ c.in_ok-part.ensures c.loop-self.self c.loop-self.invariant
    c.in_err-takes.field-0.0 c.in_err-takes.ensures)

pub item-loop-self-preserved : goal.item-loop-self-preserved
item-loop-self-preserved t c =
    star_joined c.args.level c.atom.new.self c.in_ok-part.part c.loop-self.self c.loop-self.part c.loop-self.invariant
    c.takes.new.self c.node.new.self _ (takes_yes _ c.loop-self.self c.takes.new.self mark.Star c.if-branch.true c.in_ok-takes.ensures) c.in_ok-part-2.ensures

pub sequence-returns-in_err-takes : goal.sequence-returns-in_err-takes
sequence-returns-in_err-takes t c =
    hands_on _ _ _ _ c.from_residual-in_err-takes.ensures.1
    (sequence_over c.args.level c.args.self.now c.item.new.self _ _ c.in_ok-left.ensures c.loop-self.self c.loop-self.invariant
    c.in_err-takes.field-0.0 c.in_err-takes.ensures)

pub sequence-returns-in_err-right : goal.sequence-returns-in_err-right
sequence-returns-in_err-right t c =
    hands_on _ _ _ _ c.from_residual-in_err-right.ensures.1
    (sequence_refused c.args.level c.args.self.now c.item.new.self _ _ c.in_ok-left.ensures c.loop-self.self c.loop-self.invariant
    c.takes.new.self (takes_yes _ c.loop-self.self c.takes.new.self mark.Semicolon c.if-branch.true c.in_ok-takes.ensures)
    c.in_err-right.field-0.0 c.in_err-right.ensures)

pub sequence-loop-self-preserved : goal.sequence-loop-self-preserved
sequence-loop-self-preserved t c =
    seq_joined c.args.level c.item.new.self c.in_ok-left.left c.loop-self.self c.loop-self.left c.loop-self.invariant
    c.takes.new.self _ c.node.new.self _ _ (takes_yes _ c.loop-self.self c.takes.new.self mark.Semicolon c.if-branch.true c.in_ok-takes.ensures)
    c.in_ok-right.ensures c.in_ok-left-2.ensures

pub choice-returns-in_err-left : goal.choice-returns-in_err-left
choice-returns-in_err-left t c =
    hands_on _ _ _ _ c.from_residual.ensures.1
    (λ K A e. c.in_err-left.ensures K (none, none) e)

pub choice-returns-in_err-takes : goal.choice-returns-in_err-takes
choice-returns-in_err-takes t c =
    hands_on _ _ _ _ c.from_residual-in_err-takes.ensures.1
    (choice_over c.args.level c.args.self.now c.sequence.new.self _ _ c.in_ok-left.ensures c.loop-self.self c.loop-self.invariant
    c.in_err-takes.field-0.0 c.in_err-takes.ensures)

pub choice-returns-in_err-right : goal.choice-returns-in_err-right
choice-returns-in_err-right t c =
    hands_on _ _ _ _ c.from_residual-in_err-right.ensures.1
    (choice_refused c.args.level c.args.self.now c.sequence.new.self _ _ c.in_ok-left.ensures c.loop-self.self c.loop-self.invariant
    c.takes.new.self (takes_yes _ c.loop-self.self c.takes.new.self mark.Bar c.if-branch.true c.in_ok-takes.ensures)
    c.in_err-right.field-0.0 c.in_err-right.ensures)

pub choice-loop-self-preserved : goal.choice-loop-self-preserved
choice-loop-self-preserved t c =
    alt_joined c.args.level c.sequence.new.self c.in_ok-left.left c.loop-self.self c.loop-self.left c.loop-self.invariant
    c.takes.new.self _ c.node.new.self _ _ (takes_yes _ c.loop-self.self c.takes.new.self mark.Bar c.if-branch.true c.in_ok-takes.ensures)
    c.in_ok-right.ensures c.in_ok-left-2.ensures

pub choice-returns : goal.choice-returns
choice-returns t c =
    let no = takes_no _ c.loop-self.self c.takes.new.self mark.Bar c.if-branch.false c.in_ok-takes.ensures in
    subst (λ u. ProgRead choice c.args.level c.args.self.now u c.loop-self.left) (sym no.0)
    (choice_read c.args.level c.args.self.now c.sequence.new.self _ _ c.in_ok-left.ensures c.loop-self.self c.loop-self.invariant no.1)

pub inside-returns-in_err-part : goal.inside-returns-in_err-part
inside-returns-in_err-part t c =
    hands_on _ _ _ _ c.from_residual.ensures.1
    (inside_refused c.args.level c.args.self.now c.args.mark c.in_err-part.field-0.0 c.in_err-part.ensures)

pub inside-returns-in_err-close : goal.inside-returns-in_err-close
inside-returns-in_err-close t c =
    hands_on _ _ _ _ c.from_residual-in_err-close.ensures.1
    (inside_unclosed c.args.level c.args.self.now c.args.mark c.choice.new.self _ c.in_ok-part.ensures c.in_err-close.field-0.0 c.in_err-close.ensures)

pub inside-returns : goal.inside-returns
inside-returns t c =
    inside_read c.args.level c.args.self.now c.args.mark c.choice.new.self _ c.in_ok-part.ensures c.close.new.self c.in_ok-close.ensures

pub atom-returns-in_err-c-in-Nil : goal.atom-returns-in_err-c-in-Nil
atom-returns-in_err-c-in-Nil t c =
    hands_on _ _ _ _ c.from_residual.ensures.1
    (nil_over c.args.level c.args.self.now c.in_err-c-in-Nil.field-0.0
    (subst (λ w. OverDone c.args.self.now (said w) c.in_err-c-in-Nil.field-0.0) c.in-Nil.is c.in_err-c-in-Nil.ensures))

pub atom-returns-in_ok-c-in-Nil : goal.atom-returns-in_ok-c-in-Nil
atom-returns-in_ok-c-in-Nil t c =
    MatchResult-weaker c.node.result c.node.ensures
    (λ i h.
    nil_read c.args.level c.args.self.now c.constant.new.self c.node.new.self _ i
    (subst (λ w. CondTaken c.args.self.now c.constant.new.self (said w) always c.in_ok-c-in-Nil.c) c.in-Nil.is c.in_ok-c-in-Nil.ensures) h)
    (λ f h K A e. memory_tells f _ h)

pub atom-returns-in_err-inner-in-OpenSquare : goal.atom-returns-in_err-inner-in-OpenSquare
atom-returns-in_err-inner-in-OpenSquare t c =
    hands_on _ _ _ _ c.from_residual-in_err-inner-in-OpenSquare.ensures.1
    (guard_over c.args.level c.args.self.now (begins open_square) of_test (λ K A. refl) c.in_err-inner-in-OpenSquare.field-0.0
    (subst (λ w. OverDeep c.args.self.now (said w) c.args.level.depth c.in_err-inner-in-OpenSquare.field-0.0) c.in-OpenSquare.is c.in_err-inner-in-OpenSquare.ensures))

pub atom-returns-in_err-c-in-OpenSquare : goal.atom-returns-in_err-c-in-OpenSquare
atom-returns-in_err-c-in-OpenSquare t c =
    hands_on _ _ _ _ c.from_residual-in_err-c-in-OpenSquare.ensures.1
    (guard_refused c.args.level c.args.self.now (begins open_square) of_test (λ K A. refl) c.open.new.self _ c.in_ok-inner-in-OpenSquare.ensures.0
    (subst (λ w. Taken c.args.self.now c.open.new.self (said w)) c.in-OpenSquare.is c.in_ok-inner-in-OpenSquare.ensures.1)
    (λ K A c. (have K A (test c), refl)) c.in_err-c-in-OpenSquare.field-0.0 c.in_err-c-in-OpenSquare.ensures)

pub atom-returns-in_err-inner-in-If : goal.atom-returns-in_err-inner-in-If
atom-returns-in_err-inner-in-If t c =
    hands_on _ _ _ _ c.from_residual-in_err-inner-in-If.ensures.1
    (guard_over c.args.level c.args.self.now (begins if_word) of_if (λ K A. refl) c.in_err-inner-in-If.field-0.0
    (subst (λ w. OverDeep c.args.self.now (said w) c.args.level.depth c.in_err-inner-in-If.field-0.0) c.in-If.is c.in_err-inner-in-If.ensures))

pub atom-returns-in_err-c-in-If : goal.atom-returns-in_err-c-in-If
atom-returns-in_err-c-in-If t c =
    hands_on _ _ _ _ c.from_residual-in_err-c-in-If.ensures.1
    (guard_refused c.args.level c.args.self.now (begins if_word) of_if (λ K A. refl) c.open-in-If.new.self _ c.in_ok-inner-in-If.ensures.0
    (subst (λ w. Taken c.args.self.now c.open-in-If.new.self (said w)) c.in-If.is c.in_ok-inner-in-If.ensures.1)
    (λ K A c. (want (in_then A c ∷ K) nothing, refl)) c.in_err-c-in-If.field-0.0 c.in_err-c-in-If.ensures)

pub atom-returns-in_err-inner-in-While : goal.atom-returns-in_err-inner-in-While
atom-returns-in_err-inner-in-While t c =
    hands_on _ _ _ _ c.from_residual-in_err-inner-in-While.ensures.1
    (guard_over c.args.level c.args.self.now (begins while_word) of_while (λ K A. refl) c.in_err-inner-in-While.field-0.0
    (subst (λ w. OverDeep c.args.self.now (said w) c.args.level.depth c.in_err-inner-in-While.field-0.0) c.in-While.is c.in_err-inner-in-While.ensures))

pub atom-returns-in_err-c-in-While : goal.atom-returns-in_err-c-in-While
atom-returns-in_err-c-in-While t c =
    hands_on _ _ _ _ c.from_residual-in_err-c-in-While.ensures.1
    (guard_refused c.args.level c.args.self.now (begins while_word) of_while (λ K A. refl) c.open-in-While.new.self _ c.in_ok-inner-in-While.ensures.0
    (subst (λ w. Taken c.args.self.now c.open-in-While.new.self (said w)) c.in-While.is c.in_ok-inner-in-While.ensures.1)
    (λ K A c. (want (in_do A c ∷ K) nothing, refl)) c.in_err-c-in-While.field-0.0 c.in_err-c-in-While.ensures)

pub atom-returns-in_err-inner-in-Open : goal.atom-returns-in_err-inner-in-Open
atom-returns-in_err-inner-in-Open t c =
    hands_on _ _ _ _ c.from_residual-in_err-inner-in-Open.ensures.1
    (round_over c.args.level c.args.self.now c.in_err-inner-in-Open.field-0.0
    (subst (λ w. OverDeep c.args.self.now (said w) c.args.level.depth c.in_err-inner-in-Open.field-0.0) c.in-Open.is c.in_err-inner-in-Open.ensures))

pub atom-returns-in_ok-c-in-OpenSquare : goal.atom-returns-in_ok-c-in-OpenSquare
atom-returns-in_ok-c-in-OpenSquare t c =
    MatchResult-weaker c.node-in-OpenSquare.result c.node-in-OpenSquare.ensures
    (λ i h.
    test_read c.args.level c.args.self.now c.open.new.self _ c.in_ok-inner-in-OpenSquare.ensures.0
    (subst (λ w. Taken c.args.self.now c.open.new.self (said w)) c.in-OpenSquare.is c.in_ok-inner-in-OpenSquare.ensures.1)
    c.condition.new.self c.node-in-OpenSquare.new.self _ i c.in_ok-c-in-OpenSquare.ensures h)
    (λ f h K A e. memory_tells f _ h)

pub atom-returns-in_ok-inner-in-Open : goal.atom-returns-in_ok-inner-in-Open
atom-returns-in_ok-inner-in-Open t c =
    let opened = subst (λ w. Taken c.args.self.now c.open-in-Open.new.self (said w)) c.in-Open.is c.in_ok-inner-in-Open.ensures.1 in
    MatchResult-weaker c.inside.result c.inside.ensures
    (λ i h. round_read c.args.level c.args.self.now c.open-in-Open.new.self _ c.in_ok-inner-in-Open.ensures.0 opened c.inside.new.self i h)
    (λ f h. round_refused c.args.level c.args.self.now c.open-in-Open.new.self _ c.in_ok-inner-in-Open.ensures.0 opened f h)

pub atom-returns-in_err-p-in-If : goal.atom-returns-in_err-p-in-If
atom-returns-in_err-p-in-If t c =
    hands_on _ _ _ _ c.from_residual-in_err-p-in-If.ensures.1
    (then_refused c.args.level c.args.self.now c.open-in-If.new.self _ c.in_ok-inner-in-If.ensures.0 (subst (λ w. Taken c.args.self.now c.open-in-If.new.self (said w)) c.in-If.is c.in_ok-inner-in-If.ensures.1)
    c.condition-in-If.new.self _ c.in_ok-c-in-If.ensures c.in_err-p-in-If.field-0.0 c.in_err-p-in-If.ensures)

pub atom-returns-in_err-q-in-If : goal.atom-returns-in_err-q-in-If
atom-returns-in_err-q-in-If t c =
    hands_on _ _ _ _ c.from_residual-in_err-q-in-If.ensures.1
    (else_refused c.args.level c.args.self.now c.open-in-If.new.self _ c.in_ok-inner-in-If.ensures.0 (subst (λ w. Taken c.args.self.now c.open-in-If.new.self (said w)) c.in-If.is c.in_ok-inner-in-If.ensures.1)
    c.condition-in-If.new.self _ c.in_ok-c-in-If.ensures c.inside-in-If.new.self _ c.in_ok-p-in-If.ensures c.in_err-q-in-If.field-0.0 c.in_err-q-in-If.ensures)

pub atom-returns-in_ok-q-in-If : goal.atom-returns-in_ok-q-in-If
atom-returns-in_ok-q-in-If t c =
    MatchResult-weaker c.branch-self.result c.branch-self.ensures
    (λ i h.
    if_read c.args.level c.args.self.now c.open-in-If.new.self _ c.in_ok-inner-in-If.ensures.0 (subst (λ w. Taken c.args.self.now c.open-in-If.new.self (said w)) c.in-If.is c.in_ok-inner-in-If.ensures.1)
    c.condition-in-If.new.self _ c.in_ok-c-in-If.ensures c.inside-in-If.new.self _ c.in_ok-p-in-If.ensures c.inside-in-If-2.new.self _ c.in_ok-q-in-If.ensures
    c.branch-self.new.self i h)
    (λ f h K A e. memory_tells f _ h)

pub atom-returns-in_err-p-in-While : goal.atom-returns-in_err-p-in-While
atom-returns-in_err-p-in-While t c =
    hands_on _ _ _ _ c.from_residual-in_err-p-in-While.ensures.1
    (do_refused c.args.level c.args.self.now c.open-in-While.new.self _ c.in_ok-inner-in-While.ensures.0 (subst (λ w. Taken c.args.self.now c.open-in-While.new.self (said w)) c.in-While.is c.in_ok-inner-in-While.ensures.1)
    c.condition-in-While.new.self _ c.in_ok-c-in-While.ensures c.in_err-p-in-While.field-0.0 c.in_err-p-in-While.ensures)

pub atom-returns-in_ok-p-in-While : goal.atom-returns-in_ok-p-in-While
atom-returns-in_ok-p-in-While t c =
    MatchResult-weaker c.repeat.result c.repeat.ensures
    (λ i h.
    while_read c.args.level c.args.self.now c.open-in-While.new.self _ c.in_ok-inner-in-While.ensures.0 (subst (λ w. Taken c.args.self.now c.open-in-While.new.self (said w)) c.in-While.is c.in_ok-inner-in-While.ensures.1)
    c.condition-in-While.new.self _ c.in_ok-c-in-While.ensures c.inside-in-While.new.self _ c.in_ok-p-in-While.ensures c.repeat.new.self i h)
    (λ f h K A e. memory_tells f _ h)
