use Rattle.std.proofs.lemmas.Result.{MatchResult-weaker}
use Rattle.text.proofs.Stepping.{hands_on, memory_tells, full_over, passed_taken}
use Rattle.text.specs.Said.{said}
use Rattle.text.proofs.Conditions.{constant_taken}
use Rattle.text.proofs.reader.Reader.constant.Goals as goal

pub returns-in_err-take : goal.returns-in_err-take
returns-in_err-take c =
    hands_on _ _ _ _ c.from_residual.ensures.1 (full_over c.args.self.now c.args.token c.requires c.in_err-take.field-0.0 c.in_err-take.ensures)

pub returns : goal.returns
returns c =
    MatchResult-weaker c.clause.result c.clause.ensures
    (λ i h. constant_taken c.args.self.now c.take.new.self c.clause.new.self (said c.args.token.word) c.args.clause i (passed_taken _ _ _ c.in_ok-take.ensures) h)
    (λ f h N len S U e. memory_tells f _ h)
