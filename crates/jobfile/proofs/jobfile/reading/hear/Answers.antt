use Rattle.std.proofs.Common.{ap, subst}
use Rattle.std.specs.Option.{option_map}
use Rattle.text.specs.Parse.{ReadAs}
use Rattle.jobfile.proofs.Hearing.{heard_text}
use Rattle.jobfile.proofs.jobfile.reading.hear.Goals as goal

pub returns : goal.returns
returns c = λ k s.
    let d = c.args.draft.now in
    let t = c.in-Some.text.now in
    let p = c.in_ok-new.new in
    let read_facts = subst (λ x. ReadAs x c.acts.result.now t p) c.facts.ensures c.in_ok-new.ensures in
    let read_both = subst (λ x. ReadAs d.facts x t p) c.acts.ensures read_facts in
    heard_text d k s _ t (ap (λ o. option_map (λ x. x.now) o) c.in-Some.is) c.args.parsed p read_both
