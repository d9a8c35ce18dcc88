use Rattle.std.proofs.Common.{◌≡◌, ◌∙◌, arith}
use Rattle.golog.specs.Points.{points, valuation}
use Rattle.routine.specs.Kept.{tables_prog}
use Rattle.routine.proofs.Tabled.{acts_len, row_found, row_none}
use Rattle.routine.proofs.tables.Tables.row.Goals as goal

pub returns-then-point-count : goal.returns-then-point-count
returns-then-point-count c =
    row_found c.args.self.now c.args.valuation c.args.point c.valuations.result c.len-count.result c.valuations.ensures.is
    (c.len-count.ensures ∙ acts_len c.args.self.now) c.if-point-count.true c.index.result.now c.index.ensures

pub returns-else-point-count : goal.returns-else-point-count
returns-else-point-count c =
    let e : c.len-count.result ≡ points (tables_prog c.args.self.now) = c.len-count.ensures ∙ acts_len c.args.self.now in
    row_none (tables_prog c.args.self.now) (valuation c.args.valuation) c.args.point (omega (arith, c.if-point-count.false))
