use Rattle.std.proofs.Common.{ℕ, ◌%◌, ◌^◌, ◌<◌, ◌≤◌, ◌==◌, sym, ap, ◌∙◌, pow_mono, arith}
use Rattle.std.proofs.Math.Nat.{div-eq_of_lt}
use Rattle.std.proofs.lemmas.Bool.{le-ltb}
use Rattle.locks.proofs.facts.holds.Goals as goal

pub returns-else-fact-lt32 : goal.returns-else-fact-lt32
returns-else-fact-lt32 c =
    let past : 32 ≤ c.args.fact = c.if-fact-lt32.false in
    let wide : 2 ^ 32 ≤ 2 ^ c.args.fact = pow_mono past in
    let below : c.args.valuation < 2 ^ c.args.fact = omega arith in
    le-ltb c.args.fact 32 past ∙ sym (ap (λ (x : ℕ). x % 2 == 1) (div-eq_of_lt below))
