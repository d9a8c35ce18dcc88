use Rattle.std.proofs.Common.{◌≡◌, ℕ, ◌<◌, false, ⊎_elim, arith, rules, tests, subst, sym}
use Rattle.std.proofs.lemmas.Bool.{cases_Bool, and_from, not_from_false, both_ways}
use Rattle.std.proofs.lemmas.Iterator.{YieldsList-from_range}
use Rattle.locks.specs.Meaning.{Meaning, Lawful, Live, reacts}
use Rattle.locks.specs.Stuck.{stuck, LowestStuck}
use Rattle.locks.specs.declared.stuck.Stuck.{Stuck}
use Rattle.locks.proofs.Searches.{first_over}
use Rattle.locks.proofs.stuck.first_stuck.Goals as goal

-- a lock without a stuck act is live
live_of : (m : Meaning) → Lawful m → ((a : ℕ) → a < m.acts → (s : ℕ) → stuck m s a ≡ false) → Live m
live_of m law none s a allowed =
    ⊎_elim (λ yes. yes)
    (λ no. absurd (both_ways _ (none a (law.allowed_within s a allowed).1 s) (and_from (m.allowed s a) _ allowed (not_from_false (reacts m s a) no))))
    (cases_Bool (reacts m s a))

pub returns : goal.returns
returns g c =
    let m = g.L.Lock.meaning c.args.lock.now in
    let n = c.acts.result in
    first_over n (λ a. (s : ℕ) → stuck m s a ≡ false) (λ a (x : Stuck). (x.act ≡ a) × LowestStuck m a x.state) _ _ _ c.next.result c.next.ensures.steps
    (YieldsList-from_range 0 n n c.filter_map.ensures.source (omega arith)) c.filter_map.ensures.closure (λ x q k. search (rules, tests)) (λ x y q k. search (rules, tests))
    (λ none. live_of m (g.met.L.Lock.lawful c.args.lock.now) (λ a h. none a (omega (arith, c.acts.ensures))))
    (λ a x h p low. record { state = subst (λ (k : ℕ). LowestStuck m k x.state) (sym p.0) p.1; act = λ k l. low k (omega (arith, p.0)) })
