use Rattle.std.proofs.Common.{◌≡◌, ◌*◌, length, vec_items}
use Rattle.golog.specs.Points.{points}
use Rattle.text.specs.Parse.{parsed_prog}
use Rattle.routine.specs.Tables.{RowsOf, GoingOf}
use Rattle.routine.proofs.tables.making.filled.Given as goal

abbrev pub invariant-loop-valuation : goal.invariant-loop-valuation
invariant-loop-valuation l =
    let δ = parsed_prog l.program in
    RowsOf δ (vec_items l.rows) × (length (vec_items l.rows) ≡ l.valuation * points δ) × GoingOf δ (vec_items l.going) × (length (vec_items l.going) ≡ l.valuation)
