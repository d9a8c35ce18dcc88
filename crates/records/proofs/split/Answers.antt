use Rattle.std.proofs.Common.{refl, rules}
use Rattle.records.proofs.Whole.{front_whole}
use Rattle.records.proofs.split.Goals as goal

pub returns : goal.returns
returns c = (
  refl,
  front_whole c.args.bytes.now c.join-n.result _ _ _ (search rules) (search rules) c.join-n.ensures c.join-kind.ensures
      c.split_at.ensures.front c.split_at.ensures.back,
)
