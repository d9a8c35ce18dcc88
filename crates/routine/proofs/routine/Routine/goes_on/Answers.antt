use Rattle.std.proofs.Common.{◌∙◌}
use Rattle.golog.specs.Points.{valuation}
use Rattle.routine.specs.Kept.{kept_prog}
use Rattle.routine.proofs.Going.{row_goes_on}
use Rattle.routine.proofs.Keeping.{kept_few}
use Rattle.routine.proofs.routine.Routine.goes_on.Goals as goal

pub returns : goal.returns
returns c =
    c.goes_on.ensures
    ∙ row_goes_on (kept_prog c.args.self.now.tables) (valuation c.args.valuation) c.args.point c.row.result (kept_few c.args.self.now.tables) c.row.ensures
