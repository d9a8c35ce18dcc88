use Rattle.std.proofs.Common.{not, ◌&&◌, ◌||◌, ap, ◌∙◌, ap₂}
use Rattle.golog.specs.Programs.{eval}
use Rattle.golog.specs.Points.{valuation}
use Rattle.tree.specs.Held.{cond_at}
use Rattle.routine.proofs.Entries.{value_is}
use Rattle.routine.proofs.condition.+value.Goals as goal

pub returns-in-True : goal.returns-in-True
returns-in-True t c = value_is c.args.tree.now c.args.i (valuation c.args.valuation) _ c.in-True.ensures.is

pub returns-in-False : goal.returns-in-False
returns-in-False t c = value_is c.args.tree.now c.args.i (valuation c.args.valuation) _ c.in-False.ensures.is

pub returns-in-Fact : goal.returns-in-Fact
returns-in-Fact t c = c.holds.ensures ∙ value_is c.args.tree.now c.args.i (valuation c.args.valuation) _ c.in-Fact.ensures.is

pub returns-in-Not : goal.returns-in-Not
returns-in-Not t c = ap not c.value.ensures ∙ value_is c.args.tree.now c.args.i (valuation c.args.valuation) _ c.in-Not.ensures.is

pub returns-then-value : goal.returns-then-value
returns-then-value t c =
    ap₂ ◌&&◌ c.if-value.ensures c.value-then-value.ensures
    ∙ value_is c.args.tree.now c.args.i (valuation c.args.valuation) _ c.in-And.ensures.is

pub returns-else-value : goal.returns-else-value
returns-else-value t c =
    c.if-value.false
    ∙ (ap (λ b. b && eval (cond_at c.args.tree.now c.in-And.b) (valuation c.args.valuation)) c.if-value.ensures
    ∙ value_is c.args.tree.now c.args.i (valuation c.args.valuation) _ c.in-And.ensures.is)

pub returns-then-value-2 : goal.returns-then-value-2
returns-then-value-2 t c =
    c.if-value-2.true
    ∙ (ap (λ b. b || eval (cond_at c.args.tree.now c.in-Or.b) (valuation c.args.valuation)) c.if-value-2.ensures
    ∙ value_is c.args.tree.now c.args.i (valuation c.args.valuation) _ c.in-Or.ensures.is)

pub returns-else-value-2 : goal.returns-else-value-2
returns-else-value-2 t c =
    ap₂ ◌||◌ c.if-value-2.ensures c.value-else-value-2.ensures
    ∙ value_is c.args.tree.now c.args.i (valuation c.args.valuation) _ c.in-Or.ensures.is
