use Rattle.std.proofs.Common.{get_or, rules}
use Rattle.golog.specs.Points.{valuation}
use Rattle.tree.specs.Held.{prog_at, cond_at}
use Rattle.routine.specs.Rows.{no_start}
use Rattle.routine.proofs.Entries.{start_is}
use Rattle.routine.proofs.Rows.{start_act, start_test, start_star, start_seq, start_alt}
use Rattle.routine.proofs.starts.start.Goals as goal

pub returns-in-Act : goal.returns-in-Act
returns-in-Act c =
    let v = valuation c.args.valuation in
    start_is c.args.tree.now c.args.i v _ c.in-Act.ensures.is _ (start_act c.in-Act.field-0 v c.single.result c.single.ensures)

pub returns-in-Test : goal.returns-in-Test
returns-in-Test c =
    let t = c.args.tree.now in
    let v = valuation c.args.valuation in start_is t c.args.i v _ c.in-Test.ensures.is _ (start_test (cond_at t c.in-Test.c) v c.value.result c.value.ensures)

pub returns-in-Star : goal.returns-in-Star
returns-in-Star c =
    let t = c.args.tree.now in
    let v = valuation c.args.valuation in
    start_is t c.args.i v _ c.in-Star.ensures.is _
    (start_star (prog_at t c.in-Star.a) v (get_or c.args.starts.now c.in-Star.a no_start) (c.requires.known c.in-Star.a (search rules)))

pub returns-in-Seq : goal.returns-in-Seq
returns-in-Seq c =
    let t = c.args.tree.now in
    let v = valuation c.args.valuation in
    start_is t c.args.i v _ c.in-Seq.ensures.is _
    (start_seq (prog_at t c.in-Seq.a) (prog_at t c.in-Seq.b) v (get_or c.args.starts.now c.in-Seq.a no_start) (get_or c.args.starts.now c.in-Seq.b no_start)
    (c.requires.known c.in-Seq.a (search rules)) (c.requires.known c.in-Seq.b (search rules)) c.then.result.words c.then.result.row c.then.ensures.words c.then.ensures.stop c.then.ensures.next)

pub returns-in-Alt : goal.returns-in-Alt
returns-in-Alt c =
    let t = c.args.tree.now in
    let v = valuation c.args.valuation in
    start_is t c.args.i v _ c.in-Alt.ensures.is _
    (start_alt (prog_at t c.in-Alt.a) (prog_at t c.in-Alt.b) v (get_or c.args.starts.now c.in-Alt.a no_start) (get_or c.args.starts.now c.in-Alt.b no_start)
    (c.requires.known c.in-Alt.a (search rules)) (c.requires.known c.in-Alt.b (search rules)) c.«or».result.words c.«or».result.row c.«or».ensures.words c.«or».ensures.stop c.«or».ensures.next)
