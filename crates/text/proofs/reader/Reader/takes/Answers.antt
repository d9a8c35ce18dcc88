use Rattle.std.proofs.Common.{◌≡◌, Some, ap, subst, rules}
use Rattle.text.specs.declared.word.Word.TheVariants.{Behind}
use Rattle.text.specs.Said.{said}
use Rattle.text.specs.Steps.{Taken, OverDone}
use Rattle.text.proofs.Stepping.{hands_on, full_over, passed_taken}
use Rattle.text.proofs.reader.Reader.takes.Goals as goal

pub returns-in_err-take : goal.returns-in_err-take
returns-in_err-take c =
    let same : c.in-Some.token.word ≡ Behind c.args.mark = search rules in
    let here : c.args.self.now.ahead ≡ Some c.in-Some.token = search rules in
    hands_on _ _ _ _ c.from_residual.ensures.1
    (subst (λ w. OverDone c.args.self.now w c.in_err-take.field-0.0) (ap said same) (full_over c.args.self.now c.in-Some.token here c.in_err-take.field-0.0 c.in_err-take.ensures))

pub returns : goal.returns
returns c =
    let same : c.in-Some.token.word ≡ Behind c.args.mark = search rules in
    subst (λ w. Taken c.args.self.now c.take.new.self w) (ap said same) (passed_taken _ _ _ c.in_ok-take.ensures)
