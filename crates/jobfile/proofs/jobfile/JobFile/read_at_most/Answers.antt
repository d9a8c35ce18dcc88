use Rattle.std.proofs.Common.{◌≤◌, length, sym, ap, subst, arith, le-leb}
use Rattle.std.proofs.lemmas.Result.{MatchResult-weaker}
use Rattle.jobfile.specs.Refused.{Refused}
use Rattle.jobfile.specs.Verdict.{limited}
use Rattle.jobfile.proofs.jobfile.JobFile.read_at_most.Goals as goal

pub returns : goal.returns
returns c =
    let short : length c.args.file.now ≤ c.args.limit = omega arith in
    let within = ap (λ t. limited t c.args.limit c.args.file.now) (le-leb (length c.args.file.now) c.args.limit short) in
    MatchResult-weaker c.read.result c.read.ensures (λ _ w. (short, w)) (λ f b. (b.0, subst (Refused f) (sym within) b.1))
