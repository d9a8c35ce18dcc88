use Rattle.std.proofs.Common.{refl, rules, tests}
use Rattle.std.proofs.lemmas.Iterator.{YieldsList-from_range}
use Rattle.locks.specs.AnyBelow.{none_from}
use Rattle.locks.proofs.Searches.{find_over}
use Rattle.locks.proofs.stuck.lowest_possible.Goals as goal

pub returns : goal.returns
returns g c =
    let possible = (g.L.Lock.meaning c.args.lock.now).possible c.args.state c.args.act in
    find_over 8 possible _ _ c.find.result c.find.ensures.ran (YieldsList-from_range 0 8 8 refl refl) (λ x b q k. search (rules, tests))
    (none_from 8 possible) (λ e h p low. record { possible = p; lowest = low })
