use Rattle.std.proofs.Common.{◌≡◌, ℕ, Bool, length, vec_items, sym, ap, ◌∙◌, subst, arith}
use Rattle.std.proofs.lemmas.List.{length_push}
use Rattle.golog.specs.Points.{goes_on, valuation}
use Rattle.text.specs.Parse.{parsed_prog}
use Rattle.routine.specs.Sets.{has}
use Rattle.routine.specs.Tables.{RowsOf}
use Rattle.routine.proofs.Filled.{rows_push}
use Rattle.routine.proofs.Going.{taken_in, passed_over, all_below_room, goes_on_past, row_goes_on}
use Rattle.routine.proofs.starts.Beginnings.push_rows.Goals as goal
use Rattle.routine.proofs.starts.Beginnings.push_rows.Goals.{then-goes_on, else-goes_on}

pub loop-point-preserved : goal.loop-point-preserved
loop-point-preserved c =
    let δ = parsed_prog c.args.self.now.program.now in
    let v = c.args.self.now.valuation in
    let t : ℕ → Bool = goes_on δ (valuation v) in
    let p = c.loop-point.point in
    let old = vec_items c.loop-point.rows in
    let e = c.in_ok-push.ensures.items in
    let on : c.goes_on.result ≡ t p = c.goes_on.ensures ∙ row_goes_on δ (valuation v) p c.row-row.result (omega arith) c.row-row.ensures in (
      subst (RowsOf δ) (sym e) (rows_push δ old c.row-row.result v p c.loop-point.invariant.0 c.loop-point.invariant.1 (omega arith) c.row-row.ensures),
      ap length e ∙ (length_push old c.row-row.result ∙ omega (arith, c.loop-point.invariant.1)),
      λ j h.
          let x = has c.loop-point.going j in
          elim c.if-goes_on.branch [
            | then-goes_on w ↦
                ap (λ s. has s j) w.going-is
                ∙ (w.union-going.ensures j h
                ∙ taken_in t p j x (c.loop-point.invariant.2 j h) (has w.single.result j) (sym on ∙ w.if-goes_on.true) (w.single.ensures j h))
            | else-goes_on w ↦
                ap (λ s. has s j) w.going-is ∙ passed_over t p j x (c.loop-point.invariant.2 j h) (sym on ∙ w.if-goes_on.false)
          ],
    )

pub returns-clause-going : goal.returns-clause-going
returns-clause-going c j h =
    let δ = parsed_prog c.args.self.now.program.now in
    let v = valuation c.args.self.now.valuation in
    c.loop-point.invariant.2 j h ∙ all_below_room (goes_on δ v) c.loop-point.point j (λ l. goes_on_past δ v j (omega arith))
