use Rattle.std.proofs.Common.{suc, refl, arith, rules}
use Rattle.text.proofs.Stepping.{hands_on, too_many_acts, stopped_act, full_over_act, passed_fewer, passed_act_on}
use Rattle.text.proofs.reader.Reader.take_act.Goals as goal

pub returns-then-self-ge-MOST_ACT_WORDS : goal.returns-then-self-ge-MOST_ACT_WORDS
returns-then-self-ge-MOST_ACT_WORDS c N len S U e =
    stopped_act c.args.self.now c.args.token c.requires N len S U e (too_many_acts (suc c.args.self.now.taken) (suc c.args.self.now.acts) U (omega arith))

pub returns-in_err-take : goal.returns-in_err-take
returns-in_err-take c =
    hands_on _ _ _ _ c.from_residual.ensures.1
    (full_over_act c.args.self.now c.args.token c.requires c.in_err-take.field-0.0 c.in_err-take.ensures)

pub returns : goal.returns
returns c = record {
  fewer = passed_fewer _ _ _ c.in_ok-take.ensures;
  tree = c.in_ok-take.ensures.tree;
  on = passed_act_on _ _ _ c.in_ok-take.ensures _ refl refl (search rules) (search rules);
}
