use Rattle.std.proofs.Common.{◌≡◌, ◌<◌, length, sym, ap, ◌∙◌, subst, inl, inr, arith, rules}
use Rattle.std.proofs.lemmas.Result.{err_from_is_err_and}
use Rattle.model.specs.Contents.{silence, with_item}
use Rattle.jobfile.specs.Heard.{ParsedStands, program_of}
use Rattle.jobfile.specs.Verdict.{listen, judge, ended_routine}
use Rattle.jobfile.proofs.Formatting.{turn_fit}
use Rattle.jobfile.proofs.Hearing.{parsed_more, refused_too}
use Rattle.jobfile.proofs.Judging.{turn_rest, begin_rest, verdict_begun, not_empty, judge_on, judge_off, judge_unheard, judge_complete}
use Rattle.jobfile.proofs.jobfile.reading.modelled.Goals as goal

pub loop-rest-init : goal.loop-rest-init
loop-rest-init c =
    let b = c.in_ok-draft.ensures in
    let l = begin_rest c.args.file.now _ _ b.0 in
    (silence, b.1, tt, (length c.args.file.now, omega (arith, l), verdict_begun c.args.file.now _ _ b.0))

pub returns-in_err-more : goal.returns-in_err-more
returns-in_err-more c =
    let p = err_from_is_err_and c.from_residual-in_err-more.result c.from_residual-in_err-more.ensures.1 in
    let inv = c.loop-rest.invariant in
    let some : 0 < length c.loop-rest.rest.now = not_empty c.loop-rest.rest.now c.loop-rest-test.ensures in
    rw (p.1, p.2) (elim (c.in_err-more.ensures inv.0 inv.1) [
      | inl m ↦ inl m
      | inr e ↦ inr (sym inv.3.2 ∙ judge_off c.loop-rest.draft.head inv.0 _ (length c.args.file.now) inv.3.0 c.loop-rest.rest.now _ some inv.3.1 e)
    ])

pub returns-in_err-parsed : goal.returns-in_err-parsed
returns-in_err-parsed c =
    let p = err_from_is_err_and c.from_residual-in_err-parsed.result c.from_residual-in_err-parsed.ensures.1 in
    let inv = c.loop-rest.invariant in
    let some : 0 < length c.loop-rest.rest.now = not_empty c.loop-rest.rest.now c.loop-rest-test.ensures in
    let t = c.in_ok-more.ensures inv.0 inv.1 in
    let item = with_item inv.0 t.0 in
    let old = program_of c.loop-rest.parsed in
    rw (p.1, p.2) (refused_too _ _ _ (λ f e. sym inv.3.2 ∙
    judge_unheard c.loop-rest.draft.head inv.0 old (length c.args.file.now) inv.3.0 c.loop-rest.rest.now t.0 _ f some inv.3.1 t.1
    (ap (λ x. listen x item old) (sym t.2) ∙ e)) (c.in_err-parsed.ensures item t.3))

pub loop-rest-smaller : goal.loop-rest-smaller
loop-rest-smaller c =
    let inv = c.loop-rest.invariant in
    let t = c.in_ok-more.ensures inv.0 inv.1 in
    turn_rest _ _ _ _ _ _ t.1

pub loop-rest-preserved : goal.loop-rest-preserved
loop-rest-preserved c =
    let inv = c.loop-rest.invariant in
    let end = length c.args.file.now in
    let h = c.loop-rest.draft.head in
    let bytes = c.loop-rest.rest.now in
    let rest = c.in_ok-more.taken.rest.now in
    let some : 0 < length bytes = not_empty bytes c.loop-rest-test.ensures in
    let t = c.in_ok-more.ensures inv.0 inv.1 in
    let item = with_item inv.0 t.0 in
    let old = program_of c.loop-rest.parsed in
    let new = program_of c.in_ok-parsed.parsed in
    let w = c.in_ok-parsed.ensures item t.3 in
    let o = judge_on h inv.0 old end inv.3.0 bytes t.0 rest new some inv.3.1 t.1 (ap (λ x. listen x item old) (sym t.2) ∙ w.0) in (
      item,
      t.3,
      parsed_more h inv.0 t.0 _ c.loop-rest.parsed c.in_ok-parsed.parsed (turn_fit h inv.0 _ bytes t.0 rest t.1) (sym t.2) inv.2 w.1,
      (o.0, o.1, ap (λ x. judge o.0 x item new end rest) t.4 ∙ (o.2 ∙ inv.3.2)),
    )

pub returns : goal.returns
returns c =
    let inv = c.loop-rest.invariant in
    let none : length c.loop-rest.rest.now ≡ 0 = search rules in
    let k = c.in_ok-model.ensures inv.0 inv.1 in
    let h = c.loop-rest.draft.head in
    let end = length c.args.file.now in
    let facts = (subst (λ o. ParsedStands o inv.0) c.in-Some.is inv.2).2 in
    let ends = judge_complete h inv.0 (program_of c.loop-rest.parsed) end inv.3.0 c.loop-rest.rest.now _ inv.3.2 none k.0 in
    (h, inv.0, k.1, facts, ends ∙ ap (λ o. ended_routine h inv.0 end (program_of o)) c.in-Some.is)

pub returns-in_default : goal.returns-in_default
returns-in_default c =
    let inv = c.loop-rest.invariant in
    let none : length c.loop-rest.rest.now ≡ 0 = search rules in
    let k = c.in_ok-model.ensures inv.0 inv.1 in
    let h = c.loop-rest.draft.head in
    let end = length c.args.file.now in
    let ends = judge_complete h inv.0 (program_of c.loop-rest.parsed) end inv.3.0 c.loop-rest.rest.now _ inv.3.2 none k.0 in
    inr (ends ∙ ap (λ o. ended_routine h inv.0 end (program_of o)) c.in_default.is)
