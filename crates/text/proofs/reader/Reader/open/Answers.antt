use Rattle.std.proofs.Common.{◌≡◌, suc, arith, rules}
use Rattle.golog.specs.Reading.{most_depth}
use Rattle.text.specs.declared.fault.TextFault.TheVariants.{OverLimit}
use Rattle.text.proofs.Stepping.{hands_on, too_deep, stopped, full_over, passed_taken}
use Rattle.text.proofs.reader.Reader.open.Goals as goal

pub returns-in_err-inner : goal.returns-in_err-inner
returns-in_err-inner c =
    let deep : c.args.level.depth ≡ most_depth = search rules in
    let over : c.in_err-inner.field-0.0 ≡ OverLimit c.args.token.at = search rules in
    hands_on _ _ _ _ c.from_residual.ensures.1
    (rw over (λ N len S U e d. stopped c.args.self.now c.args.token c.requires N len S U e (too_deep (suc c.args.self.now.taken) c.args.self.now.acts U (omega arith))))

pub returns-in_err-take : goal.returns-in_err-take
returns-in_err-take c =
    hands_on _ _ _ _ c.from_residual-in_err-take.ensures.1
    (λ N len S U e d. full_over c.args.self.now c.args.token c.requires c.in_err-take.field-0.0 c.in_err-take.ensures N len S U e)

pub returns : goal.returns
returns c = (search rules, passed_taken _ _ _ c.in_ok-take.ensures)
