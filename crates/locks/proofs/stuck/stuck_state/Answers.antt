use Rattle.std.proofs.Common.{◌≡◌, ℕ, ◌<◌, false, not, refl, ⊎_elim, arith, rules, tests}
use Rattle.std.proofs.lemmas.Bool.{cases_Bool, and_parts}
use Rattle.std.proofs.lemmas.Iterator.{YieldsList-from_range}
use Rattle.locks.specs.Meaning.{Meaning, Lawful, reacts}
use Rattle.locks.specs.Stuck.{stuck}
use Rattle.locks.proofs.Searches.{find_over}
use Rattle.locks.proofs.stuck.stuck_state.Goals as goal

-- no act is stuck in what is no state
anywhere : (m : Meaning) → Lawful m → (a : ℕ) → ((s : ℕ) → s < m.states → stuck m s a ≡ false) → (s : ℕ) → stuck m s a ≡ false
anywhere m law a none s =
    ⊎_elim (λ yes. none s (law.allowed_within s a (and_parts (m.allowed s a) (not (reacts m s a)) yes).0).0) (λ no. no) (cases_Bool (stuck m s a))

pub returns : goal.returns
returns g c =
    let m = g.L.Lock.meaning c.args.lock.now in
    let n = c.states.result in
    find_over n (λ s. stuck m s c.args.act) _ _ c.find.result c.find.ensures.ran (YieldsList-from_range 0 n n refl (omega arith)) (λ x b q k. search (rules, tests))
    (λ none. anywhere m (g.met.L.Lock.lawful c.args.lock.now) c.args.act (λ s h. none s (omega (arith, c.states.ensures))))
    (λ s h p low. record { stuck_there = p; lowest = low })
