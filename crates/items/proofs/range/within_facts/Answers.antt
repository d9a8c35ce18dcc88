use Rattle.std.proofs.Common.{◌^◌, ◌<◌, arith}
use Rattle.std.proofs.lemmas.Bool.Decides.{nat_tests}
use Rattle.items.proofs.Tested.{below_power}
use Rattle.items.proofs.range.within_facts.Goals as goal

pub returns-then-facts-ge16 : goal.returns-then-facts-ge16
returns-then-facts-ge16 c =
    let b : c.args.bits < 2 ^ c.args.facts = below_power _ _ (omega arith) (omega arith) in grind (arith, nat_tests)
