use Rattle.std.proofs.Common.{◌≡◌, ℕ, Bool, eqb, sym, ap, ◌∙◌, ap₂}
use Rattle.std.proofs.lemmas.Bool.{eq-eqb, ne_eqb}
use Rattle.golog.specs.Points.{word}
use Rattle.routine.specs.Sets.{has}
use Rattle.routine.specs.Kept.{tables_prog}
use Rattle.routine.proofs.Going.{taken_in, passed_over}
use Rattle.routine.proofs.tables.Tables.alike.Goals as goal
use Rattle.routine.proofs.tables.Tables.alike.Goals.{then-act-word, else-act-word}

pub loop-k-preserved : goal.loop-k-preserved
loop-k-preserved c j h =
    let δ = tables_prog c.args.self.now in
    let t : ℕ → Bool = λ k. eqb (word δ c.args.point) (word δ k) in
    let k = c.loop-k.k in
    let x = has c.loop-k.set j in
    let old = c.loop-k.invariant j h in
    let same : t k ≡ eqb c.word-act.result c.word.result = ap₂ eqb (sym c.word-act.ensures) (sym c.word.ensures) in
    elim c.if-act-word.branch [
      | then-act-word w ↦
          ap (λ s. has s j) w.set-is
          ∙ (w.union-set.ensures j h
          ∙ taken_in t k j x old (has w.single.result j) (same ∙ eq-eqb c.word-act.result c.word.result w.if-act-word.true) (w.single.ensures j h))
      | else-act-word w ↦ ap (λ s. has s j) w.set-is ∙ passed_over t k j x old (same ∙ ne_eqb c.word-act.result c.word.result w.if-act-word.false)
    ]
