use Rattle.std.proofs.Common.{◌≡◌, ◌*◌, ◌%◌, ◌^◌, ◌≤◌, arith, pow_mono}
use Rattle.std.proofs.lemmas.Nat.{one_shl}
use Rattle.locks.proofs.facts.FactCount.valuations.Goals as goal

pub returns-clause-few : goal.returns-clause-few
returns-clause-few c =
    let n = c.self.inside.count in
    let e : (1 * 2 ^ n) % 2 ^ 32 ≡ 2 ^ n = one_shl n 32 (let h = c.self.invariant in omega arith) in
    let h : 2 ^ n ≤ 2 ^ 12 = pow_mono c.self.invariant in
    omega arith
