use Rattle.std.proofs.Common.{ap, ◌∙◌, rules}
use Rattle.lowest.specs.Listed.{move_in}
use Rattle.lowest.specs.ListedViews.{FreshListed}
use Rattle.model.proofs.Tables.{no_move_at}
use Rattle.model.proofs.low.open.Goals as goal

pub returns-in_ok-lock-2 : goal.returns-in_ok-lock-2
returns-in_ok-lock-2 c =
    let head = c.args.head.now in
    let lock = c.in_ok-lock-2.lock in
    let fresh : FreshListed head.facts head.acts head.first head.states lock = search rules in
    record {
      form = search rules;
      facts = fresh.facts;
      acts = fresh.acts;
      first = fresh.first;
      states = fresh.states;
      valuations = fresh.valuations;
      moves = λ s a e. ap (λ l. move_in lock.acts l s a e) fresh.moves ∙ no_move_at _ _ s a e;
      no_rules = search rules;
      no_changes = search rules;
    }
