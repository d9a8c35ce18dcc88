use Rattle.std.proofs.Common.{◌≡◌, ◌+◌, ◌*◌, ◌&&◌, ltb, length, vec_items}
use Rattle.golog.specs.Points.{points, goes_on, valuation}
use Rattle.text.specs.Parse.{parsed_prog}
use Rattle.routine.specs.Sets.{Holds}
use Rattle.routine.specs.Tables.{RowsOf}
use Rattle.routine.proofs.starts.Beginnings.push_rows.Given as goal

abbrev pub invariant-loop-point : goal.invariant-loop-point
invariant-loop-point l =
    let δ = parsed_prog l.self.program.now in
    RowsOf δ (vec_items l.rows) × (length (vec_items l.rows) ≡ l.self.valuation * points δ + l.point)
    × Holds l.going (λ j. ltb j l.point && goes_on δ (valuation l.self.valuation) j)
