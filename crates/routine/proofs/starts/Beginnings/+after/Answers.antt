use Rattle.std.proofs.Common.{rules}
use Rattle.golog.specs.Points.{valuation}
use Rattle.tree.specs.Held.{prog_at, cond_at}
use Rattle.text.specs.Parse.{parsed_tree}
use Rattle.routine.proofs.Entries.{row_is, row_back}
use Rattle.routine.proofs.Rows.{after_act, after_test, after_star, after_first, after_second, after_left, after_right}
use Rattle.routine.proofs.starts.Beginnings.+after.Goals as goal

pub returns-in-Act : goal.returns-in-Act
returns-in-Act h c =
    let t = parsed_tree c.args.self.now.program.now in
    let v = valuation c.args.self.now.valuation in
    row_is t c.args.i v _ c.in-Act.ensures.is _ _ (after_act c.in-Act.field-0 v c.args.word _ (search rules))

pub returns-in-Test : goal.returns-in-Test
returns-in-Test h c =
    let t = parsed_tree c.args.self.now.program.now in
    let v = valuation c.args.self.now.valuation in
    row_is t c.args.i v _ c.in-Test.ensures.is _ _ (after_test (cond_at t c.in-Test.field-0) v c.args.word)

pub returns-then-word-by : goal.returns-then-word-by
returns-then-word-by h c =
    let t = parsed_tree c.args.self.now.program.now in
    let v = valuation c.args.self.now.valuation in
    row_is t c.args.i v _ c.in-Seq.ensures.is _ _
    (after_first (prog_at t c.in-Seq.a) (prog_at t c.in-Seq.b) v c.args.word _ c.requires.low c.start-by.ensures.0 c.after.result c.start.result.row c.then.result c.if-word-by.true c.after.ensures c.start.ensures.1 c.then.ensures.stop c.then.ensures.next)

pub returns-else-word-by : goal.returns-else-word-by
returns-else-word-by h c =
    let t = parsed_tree c.args.self.now.program.now in
    let v = valuation c.args.self.now.valuation in
    row_is t c.args.i v _ c.in-Seq.ensures.is _ _
    (after_second (prog_at t c.in-Seq.a) (prog_at t c.in-Seq.b) v c.args.word _ c.requires.low c.start-by.ensures.0 c.after-else-word-by.result c.moved_up.result c.if-word-by.false c.after-else-word-by.ensures c.moved_up.ensures.stop c.moved_up.ensures.next)

pub returns-then-word-by-2 : goal.returns-then-word-by-2
returns-then-word-by-2 h c =
    let t = parsed_tree c.args.self.now.program.now in
    let v = valuation c.args.self.now.valuation in
    row_is t c.args.i v _ c.in-Alt.ensures.is _ _
    (after_left (prog_at t c.in-Alt.a) (prog_at t c.in-Alt.b) v c.args.word _ c.requires.low c.start-by-in-Alt.ensures.0 c.after-then-word-by-2.result c.if-word-by-2.true c.after-then-word-by-2.ensures)

pub returns-else-word-by-2 : goal.returns-else-word-by-2
returns-else-word-by-2 h c =
    let t = parsed_tree c.args.self.now.program.now in
    let v = valuation c.args.self.now.valuation in
    row_is t c.args.i v _ c.in-Alt.ensures.is _ _
    (after_right (prog_at t c.in-Alt.a) (prog_at t c.in-Alt.b) v c.args.word _ c.requires.low c.start-by-in-Alt.ensures.0 c.after-else-word-by-2.result c.moved_up-else-word-by-2.result c.if-word-by-2.false c.after-else-word-by-2.ensures c.moved_up-else-word-by-2.ensures.stop c.moved_up-else-word-by-2.ensures.next)

pub returns-in-Star : goal.returns-in-Star
returns-in-Star h c =
    let t = parsed_tree c.args.self.now.program.now in
    let v = valuation c.args.self.now.valuation in
    row_is t c.args.i v _ c.in-Star.ensures.is _ _
    (after_star (prog_at t c.in-Star.a) v c.args.word c.after-in-Star.result c.start-in-Star.result.row c.then-in-Star.result c.after-in-Star.ensures
    (row_back t c.args.i v _ c.in-Star.ensures.is _ _ c.start-in-Star.ensures.1) c.then-in-Star.ensures.stop c.then-in-Star.ensures.next)
