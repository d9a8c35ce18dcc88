use Rattle.std.proofs.Common.{sym, ◌∙◌, arith}
use Rattle.std.proofs.lemmas.Bool.{le-ltb}
use Rattle.golog.specs.Points.{valuation}
use Rattle.golog.proofs.Bridge.{bridge}
use Rattle.routine.specs.Kept.{kept_prog}
use Rattle.routine.proofs.Keeping.{kept_few, next_far}
use Rattle.routine.proofs.routine.Routine.comes_next.Goals as goal

pub returns-then-to-lt64-clause-steps : goal.returns-then-to-lt64-clause-steps
returns-then-to-lt64-clause-steps c = bridge (kept_prog c.args.self.now.tables) (valuation c.args.valuation) c.args.from

pub returns-else-to-lt64 : goal.returns-else-to-lt64
returns-else-to-lt64 c = record {
  is =
      le-ltb c.args.to 64 c.if-to-lt64.false
      ∙ sym (next_far (kept_prog c.args.self.now.tables) (valuation c.args.valuation) c.args.from c.args.to (omega (arith, kept_few c.args.self.now.tables, c.if-to-lt64.false)));
  steps = bridge (kept_prog c.args.self.now.tables) (valuation c.args.valuation) c.args.from;
}
