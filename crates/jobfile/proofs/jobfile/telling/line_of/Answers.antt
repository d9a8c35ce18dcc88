use Rattle.std.proofs.Common.{inl}
use Rattle.std.proofs.lemmas.Result.{IfOk-weaker}
use Rattle.jobfile.proofs.jobfile.telling.line_of.Goals as goal

pub returns-in-Ok : goal.returns-in-Ok
returns-in-Ok c =
    IfOk-weaker c.line.result _ _ (λ s e. inl (c.read_at_most.new.self, c.in-Ok.ensures.0, c.in-Ok.ensures.1, e)) c.line.ensures
