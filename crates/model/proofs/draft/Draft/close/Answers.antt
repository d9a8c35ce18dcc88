use Rattle.std.proofs.Common.{unwrap_or, sym, ap, ◌∙◌, subst}
use Rattle.std.specs.Option.{option_map}
use Rattle.std.proofs.lemmas.Result.{err_from_is_err_and}
use Rattle.model.specs.Stands.{LowestStands}
use Rattle.model.proofs.Ending.{ends_stuck, ends_layer, ends_well, pile_is_said, first_or_none}
use Rattle.model.proofs.draft.Draft.close.Goals as goal

pub returns-in_err-live : goal.returns-in_err-live
returns-in_err-live c = λ k s.
    let p = err_from_is_err_and c.from_residual.result c.from_residual.ensures.1 in
    rw (p.1, p.2) (ends_stuck c.args.self.lowest c.args.self.head k c.args.length s.lowest (sym (c.if-lacks.ensures k s)) _ _ c.in_err-live.ensures)

pub returns-in_err-lock : goal.returns-in_err-lock
returns-in_err-lock c = λ k s.
    let p = err_from_is_err_and c.from_residual-in_err-lock.result c.from_residual-in_err-lock.ensures.1 in
    let live = c.in_ok-live.live in
    let st : LowestStands live.lower c.args.self.head k = subst (λ l. LowestStands l c.args.self.head k) (sym c.in_ok-live.ensures) s.lowest in
    let most = c.unwrap_or-most.ensures ∙ (ap (λ o. unwrap_or o 0) s.allowance ∙ first_or_none k) in
    rw (p.1, p.2) (ends_layer live.lower c.args.self.head k c.args.length st (sym (c.if-lacks.ensures k s)) live.live c.unwrap_or-most.result most _ c.in_err-lock.ensures)

pub returns : goal.returns
returns c = λ k s.
    let live = c.in_ok-live.live in
    let st : LowestStands live.lower c.args.self.head k = subst (λ l. LowestStands l c.args.self.head k) (sym c.in_ok-live.ensures) s.lowest in
    let most = c.unwrap_or-most.ensures ∙ (ap (λ o. unwrap_or o 0) s.allowance ∙ first_or_none k) in
    let there = sym (c.if-lacks.ensures k s) in (
      ends_well live.lower c.args.self.head k c.args.length st there live.live c.unwrap_or-most.result most c.in_ok-lock.ensures.0,
      record {
        lock = c.in_ok-lock.ensures.1 ∙ pile_is_said live.lower c.args.self.head k c.args.length st there c.args.self.marks s.marks c.unwrap_or-most.result most;
        facts = s.facts;
        acts = s.acts;
        marks = s.marks;
        most = most;
        text = ap (option_map (λ x. x.now)) (sym c.in-Some.is) ∙ s.text;
      },
    )
