use Rattle.std.proofs.Common.{sym, ap, ◌∙◌, subst}
use Rattle.std.proofs.lemmas.Result.{MatchResult-weaker}
use Rattle.golog.specs.Programs.Cond.{always, never, fact}
use mathlib.Core.Option.{none}
use Rattle.golog.specs.Grammar.CondSort.{disjunction}
use Rattle.golog.specs.Reading.{advance}
use Rattle.golog.specs.Reading.State.{want_cond}
use Rattle.text.specs.declared.word.Mark.TheVariants.{And, Or}
use Rattle.text.specs.Said.{said}
use Rattle.text.specs.Rest.{names_of}
use Rattle.text.specs.Steps.{Taken, OverDeep, OverDone}
use Rattle.text.specs.Conds.{CondRead, CondTaken}
use Rattle.text.proofs.Stepping.{hands_on, memory_tells, takes_yes, takes_no, nameless_tells}
use Rattle.text.proofs.Conditions.{constant_read, constant_refused, conjunction_over, conjunction_refused, and_joined, disjunction_read, disjunction_over, disjunction_refused, or_joined, negation_read, negation_over, negation_refused, bracket_read, bracket_over, bracket_refused, closed_refused, closed_not, closed_read, fact_is, fact_unknown, true_is, false_is}
use Rattle.text.proofs.reader.Reader.+condition_conjunction_disjunction_literal.Goals as goal

pub conjunction-returns-in_err-takes : goal.conjunction-returns-in_err-takes
conjunction-returns-in_err-takes t c =
    hands_on _ _ _ _ c.from_residual-in_err-takes.ensures.1
    (conjunction_over c.args.level c.args.self.now c.literal.new.self _ _ c.in_ok-left.ensures c.loop-self.self c.loop-self.invariant
    c.in_err-takes.field-0.0 c.in_err-takes.ensures)

pub conjunction-returns-in_err-right : goal.conjunction-returns-in_err-right
conjunction-returns-in_err-right t c =
    hands_on _ _ _ _ c.from_residual-in_err-right.ensures.1
    (conjunction_refused c.args.level c.args.self.now c.literal.new.self _ _ c.in_ok-left.ensures c.loop-self.self c.loop-self.invariant
    c.takes.new.self (takes_yes _ c.loop-self.self c.takes.new.self And c.if-branch.true c.in_ok-takes.ensures)
    c.in_err-right.field-0.0 c.in_err-right.ensures)

pub conjunction-loop-self-preserved : goal.conjunction-loop-self-preserved
conjunction-loop-self-preserved t c =
    and_joined c.args.level c.literal.new.self c.in_ok-left.left c.loop-self.self c.loop-self.left c.loop-self.invariant
    c.takes.new.self _ c.clause.new.self _ _ (takes_yes _ c.loop-self.self c.takes.new.self And c.if-branch.true c.in_ok-takes.ensures)
    c.in_ok-right.ensures c.in_ok-left-2.ensures

pub disjunction-returns-in_err-left : goal.disjunction-returns-in_err-left
disjunction-returns-in_err-left t c =
    hands_on _ _ _ _ c.from_residual.ensures.1
    (λ K A B L O o e. c.in_err-left.ensures K A B L (none, none) o e)

pub disjunction-returns-in_err-takes : goal.disjunction-returns-in_err-takes
disjunction-returns-in_err-takes t c =
    hands_on _ _ _ _ c.from_residual-in_err-takes.ensures.1
    (disjunction_over c.args.level c.args.self.now c.conjunction.new.self _ _ c.in_ok-left.ensures c.loop-self.self c.loop-self.invariant
    c.in_err-takes.field-0.0 c.in_err-takes.ensures)

pub disjunction-returns-in_err-right : goal.disjunction-returns-in_err-right
disjunction-returns-in_err-right t c =
    hands_on _ _ _ _ c.from_residual-in_err-right.ensures.1
    (disjunction_refused c.args.level c.args.self.now c.conjunction.new.self _ _ c.in_ok-left.ensures c.loop-self.self c.loop-self.invariant
    c.takes.new.self (takes_yes _ c.loop-self.self c.takes.new.self Or c.if-branch.true c.in_ok-takes.ensures)
    c.in_err-right.field-0.0 c.in_err-right.ensures)

pub disjunction-loop-self-preserved : goal.disjunction-loop-self-preserved
disjunction-loop-self-preserved t c =
    or_joined c.args.level c.conjunction.new.self c.in_ok-left.left c.loop-self.self c.loop-self.left c.loop-self.invariant
    c.takes.new.self _ c.clause.new.self _ _ (takes_yes _ c.loop-self.self c.takes.new.self Or c.if-branch.true c.in_ok-takes.ensures)
    c.in_ok-right.ensures c.in_ok-left-2.ensures

pub disjunction-returns : goal.disjunction-returns
disjunction-returns t c =
    let no = takes_no _ c.loop-self.self c.takes.new.self Or c.if-branch.false c.in_ok-takes.ensures in
    subst (λ u. CondRead disjunction c.args.level c.args.self.now u c.loop-self.left) (sym no.0)
    (disjunction_read c.args.level c.args.self.now c.conjunction.new.self _ _ c.in_ok-left.ensures c.loop-self.self c.loop-self.invariant no.1)

pub literal-returns-in_err-fact-in-Name : goal.literal-returns-in_err-fact-in-Name
literal-returns-in_err-fact-in-Name t c =
    hands_on _ _ _ _ c.from_residual.ensures.1
    (λ K A B L O o e.
    nameless_tells c.args.self.now c.in-Some.token c.in-Some.is (names_of c.args.level) c.args.level.end (want_cond K A B L O) c.in_err-fact-in-Name.field-0.0 _ c.in_err-fact-in-Name.ensures
    (λ n. ap (λ w. advance (names_of c.args.level) (want_cond K A B L O) (said w)) c.in-Name.is ∙ fact_unknown (names_of c.args.level) c.in-Name.name.now n K A B L O))

pub literal-returns-in_err-inner-in-Not : goal.literal-returns-in_err-inner-in-Not
literal-returns-in_err-inner-in-Not t c =
    hands_on _ _ _ _ c.from_residual-in_err-inner-in-Not.ensures.1
    (negation_over c.args.level c.args.self.now c.in_err-inner-in-Not.field-0.0
    (subst (λ w. OverDeep c.args.self.now (said w) c.args.level.depth c.in_err-inner-in-Not.field-0.0) c.in-Not.is c.in_err-inner-in-Not.ensures))

pub literal-returns-in_err-part-in-Not : goal.literal-returns-in_err-part-in-Not
literal-returns-in_err-part-in-Not t c =
    hands_on _ _ _ _ c.from_residual-in_err-part-in-Not.ensures.1
    (negation_refused c.args.level c.args.self.now c.open.new.self _ c.in_ok-inner-in-Not.ensures.0
    (subst (λ w. Taken c.args.self.now c.open.new.self (said w)) c.in-Not.is c.in_ok-inner-in-Not.ensures.1)
    c.in_err-part-in-Not.field-0.0 c.in_err-part-in-Not.ensures)

pub literal-returns-in_err-inner-in-Open : goal.literal-returns-in_err-inner-in-Open
literal-returns-in_err-inner-in-Open t c =
    hands_on _ _ _ _ c.from_residual-in_err-inner-in-Open.ensures.1
    (bracket_over c.args.level c.args.self.now c.in_err-inner-in-Open.field-0.0
    (subst (λ w. OverDeep c.args.self.now (said w) c.args.level.depth c.in_err-inner-in-Open.field-0.0) c.in-Open.is c.in_err-inner-in-Open.ensures))

pub literal-returns-in_ok-fact-in-Name : goal.literal-returns-in_ok-fact-in-Name
literal-returns-in_ok-fact-in-Name t c =
    MatchResult-weaker c.constant.result c.constant.ensures
    (λ i h. constant_read c.args.level c.args.self.now c.constant.new.self _ (fact c.in_ok-fact-in-Name.fact) i (fact_is (names_of c.args.level) c.in-Name.name.now c.in_ok-fact-in-Name.fact c.in_ok-fact-in-Name.ensures)
    (subst (λ w. CondTaken c.args.self.now c.constant.new.self (said w) (fact c.in_ok-fact-in-Name.fact) i) c.in-Name.is h))
    (λ f h. constant_refused c.args.level c.args.self.now _ (fact c.in_ok-fact-in-Name.fact) f (fact_is (names_of c.args.level) c.in-Name.name.now c.in_ok-fact-in-Name.fact c.in_ok-fact-in-Name.ensures) (subst (λ w. OverDone c.args.self.now (said w) f) c.in-Name.is h))

pub literal-returns-in-True : goal.literal-returns-in-True
literal-returns-in-True t c =
    MatchResult-weaker c.constant-in-True.result c.constant-in-True.ensures
    (λ i h. constant_read c.args.level c.args.self.now c.constant-in-True.new.self _ always i (true_is (names_of c.args.level))
    (subst (λ w. CondTaken c.args.self.now c.constant-in-True.new.self (said w) always i) c.in-True.is h))
    (λ f h. constant_refused c.args.level c.args.self.now _ always f (true_is (names_of c.args.level)) (subst (λ w. OverDone c.args.self.now (said w) f) c.in-True.is h))

pub literal-returns-in-False : goal.literal-returns-in-False
literal-returns-in-False t c =
    MatchResult-weaker c.constant-in-False.result c.constant-in-False.ensures
    (λ i h. constant_read c.args.level c.args.self.now c.constant-in-False.new.self _ never i (false_is (names_of c.args.level))
    (subst (λ w. CondTaken c.args.self.now c.constant-in-False.new.self (said w) never i) c.in-False.is h))
    (λ f h. constant_refused c.args.level c.args.self.now _ never f (false_is (names_of c.args.level)) (subst (λ w. OverDone c.args.self.now (said w) f) c.in-False.is h))

pub literal-returns-in_ok-part-in-Not : goal.literal-returns-in_ok-part-in-Not
literal-returns-in_ok-part-in-Not t c =
    MatchResult-weaker c.clause.result c.clause.ensures
    (λ j h.
    negation_read c.args.level c.args.self.now c.open.new.self _ c.in_ok-inner-in-Not.ensures.0
    (subst (λ w. Taken c.args.self.now c.open.new.self (said w)) c.in-Not.is c.in_ok-inner-in-Not.ensures.1)
    c.literal.new.self c.clause.new.self _ j c.in_ok-part-in-Not.ensures h)
    (λ f h K A B L O o e. memory_tells f _ h)

pub literal-returns-in_ok-inner-in-Open : goal.literal-returns-in_ok-inner-in-Open
literal-returns-in_ok-inner-in-Open t c =
    let opened = subst (λ w. Taken c.args.self.now c.open-in-Open.new.self (said w)) c.in-Open.is c.in_ok-inner-in-Open.ensures.1 in
    MatchResult-weaker c.condition.result c.condition.ensures
    (λ i h. bracket_read c.args.level c.args.self.now c.open-in-Open.new.self _ c.in_ok-inner-in-Open.ensures.0 opened c.condition.new.self i h)
    (λ f h. bracket_refused c.args.level c.args.self.now c.open-in-Open.new.self _ c.in_ok-inner-in-Open.ensures.0 opened f h)

pub condition-returns-in_err-part : goal.condition-returns-in_err-part
condition-returns-in_err-part t c =
    hands_on _ _ _ _ c.from_residual.ensures.1 (closed_refused c.args.level c.args.self.now c.args.mark c.in_err-part.field-0.0 c.in_err-part.ensures)

pub condition-returns-in_err-close : goal.condition-returns-in_err-close
condition-returns-in_err-close t c =
    hands_on _ _ _ _ c.from_residual-in_err-close.ensures.1
    (closed_not c.args.level c.args.self.now c.args.mark c.disjunction.new.self _ c.in_ok-part.ensures c.in_err-close.field-0.0 c.in_err-close.ensures)

pub condition-returns : goal.condition-returns
condition-returns t c =
    closed_read c.args.level c.args.self.now c.args.mark c.disjunction.new.self _ c.in_ok-part.ensures c.close.new.self c.in_ok-close.ensures
