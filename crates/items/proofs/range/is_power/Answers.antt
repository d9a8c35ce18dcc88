use Rattle.std.proofs.Common.{◌^◌, ◌<◌, arith}
use Rattle.std.proofs.lemmas.Bool.Decides.{nat_tests}
use Rattle.items.proofs.Tested.{below_power}
use Rattle.items.proofs.range.is_power.Goals as goal

pub returns-else-facts-lt16 : goal.returns-else-facts-lt16
returns-else-facts-lt16 c =
    let b : c.args.states < 2 ^ c.args.facts = below_power _ _ (omega arith) (omega arith) in grind (arith, nat_tests)
