use Rattle.std.proofs.Common.{◌∙◌}
use Rattle.tree.specs.Held.{prog_at}
use Rattle.text.specs.Parse.{parsed_tree}
use Rattle.routine.proofs.Acts.{act_is, act_of_two, lone_act, no_more_acts, act_in_first, act_in_second}
use Rattle.routine.proofs.starts.Beginnings.+act.Goals as goal

pub returns-then-word-eq0 : goal.returns-then-word-eq0
returns-then-word-eq0 t c = lone_act c.in-Act.act c.args.word c.if-word-eq0.true ∙ act_is (parsed_tree c.args.self.now.program.now) c.args.i c.args.word _ c.in-Act.ensures.is

pub returns-else-word-eq0 : goal.returns-else-word-eq0
returns-else-word-eq0 t c = no_more_acts c.in-Act.act c.args.word c.if-word-eq0.false ∙ act_is (parsed_tree c.args.self.now.program.now) c.args.i c.args.word _ c.in-Act.ensures.is

pub returns-in-Test : goal.returns-in-Test
returns-in-Test t c = act_is (parsed_tree c.args.self.now.program.now) c.args.i c.args.word _ c.in-Test.ensures.is

pub returns-in-Star : goal.returns-in-Star
returns-in-Star t c = c.act.ensures ∙ act_is (parsed_tree c.args.self.now.program.now) c.args.i c.args.word _ c.in-Star.ensures.is

pub returns-then-word-by : goal.returns-then-word-by
returns-then-word-by t c =
    c.act-then-word-by.ensures
    ∙ (act_in_first (prog_at (parsed_tree c.args.self.now.program.now) c.in-Seq.a) (prog_at (parsed_tree c.args.self.now.program.now) c.in-Seq.b) c.args.word _ c.requires.low c.start-by.ensures.0 c.if-word-by.true
    ∙ act_of_two (parsed_tree c.args.self.now.program.now) c.args.i c.args.word c.in-Seq.a c.in-Seq.b c.node.result c.node.ensures.is c.in-Seq.is)

pub returns-else-word-by : goal.returns-else-word-by
returns-else-word-by t c =
    c.act-else-word-by.ensures
    ∙ (act_in_second (prog_at (parsed_tree c.args.self.now.program.now) c.in-Seq.a) (prog_at (parsed_tree c.args.self.now.program.now) c.in-Seq.b) c.args.word _ c.requires.low c.start-by.ensures.0 c.if-word-by.false
    ∙ act_of_two (parsed_tree c.args.self.now.program.now) c.args.i c.args.word c.in-Seq.a c.in-Seq.b c.node.result c.node.ensures.is c.in-Seq.is)
