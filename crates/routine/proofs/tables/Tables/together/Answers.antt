use Rattle.std.proofs.Common.{◌≡◌, ℕ, ◌^◌, Bool, false, ◌&&◌, eqb, sym, ap, ◌∙◌, arith}
use Rattle.std.proofs.Math.Bool.{and-false}
use Rattle.locks.specs.Meaning.{any_below}
use Rattle.locks.specs.AnyBelow.{none_below}
use Rattle.golog.specs.Points.{word, next, valuation}
use Rattle.routine.specs.Sets.{room, has}
use Rattle.routine.specs.Kept.{tables_prog}
use Rattle.routine.proofs.Unions.{joined_more, left_out, together_is}
use Rattle.routine.proofs.tables.Tables.together.Goals as goal
use Rattle.routine.proofs.tables.Tables.together.Goals.{then-contains, else-contains}

pub loop-valuation-preserved : goal.loop-valuation-preserved
loop-valuation-preserved c j h =
    let δ = tables_prog c.args.self.now in
    let a : ℕ → Bool = λ n. next δ (valuation n) c.args.from c.args.first in
    let b : ℕ → Bool = λ n. next δ (valuation n) c.args.from j in
    let v = c.loop-valuation.valuation in
    let first : c.contains.result ≡ a v = c.contains.ensures ∙ c.row.ensures.1 c.args.first c.requires in
    elim c.if-contains.branch [
      | then-contains w ↦
          ap (λ s. has s j) w.set-is
          ∙ (w.union-set.ensures j h
          ∙ joined_more a b v (has c.loop-valuation.set j) (c.loop-valuation.invariant j h) (has c.row.result.next j) (sym first ∙ w.if-contains.true) (c.row.ensures.1 j h))
      | else-contains w ↦
          ap (λ s. has s j) w.set-is ∙ left_out a b v (has c.loop-valuation.set j) (c.loop-valuation.invariant j h) (sym first ∙ w.if-contains.false)
    ]

pub returns-then-not-has_some : goal.returns-then-not-has_some
unfolding Rattle.routine.specs.Sets.some_in
returns-then-not-has_some c j h =
    let δ = tables_prog c.args.self.now in
    let e : c.loop-valuation.valuation ≡ 2 ^ c.args.self.now.facts = omega arith in
    let some : ℕ → Bool = λ m. any_below m (λ n. next δ (valuation n) c.args.from c.args.first && next δ (valuation n) c.args.from j) in
    let none : has c.loop-valuation.set j ≡ false = none_below room (has c.loop-valuation.set) (sym c.has_some.ensures ∙ c.if-not-has_some.true) j h in
    let same : Bool = eqb (word δ c.args.first) (word δ j) in
    none ∙ sym (ap (λ b. same && b) (sym (c.loop-valuation.invariant j h ∙ ap some e) ∙ none) ∙ and-false same)

pub returns : goal.returns
returns c j h =
    let δ = tables_prog c.args.self.now in
    let e : c.loop-valuation.valuation ≡ 2 ^ c.args.self.now.facts = omega arith in
    c.common.ensures j h
    ∙ together_is δ c.args.self.now.facts c.args.from c.args.first j (has c.loop-valuation.set j) (has c.alike.result j)
    (c.loop-valuation.invariant j h ∙ ap (λ n. any_below n (λ n. next δ (valuation n) c.args.from c.args.first && next δ (valuation n) c.args.from j)) e)
    (c.alike.ensures j h)
