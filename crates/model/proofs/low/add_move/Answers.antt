use Rattle.std.proofs.Common.{◌≡◌, ◌<◌, true, is_ok, length, set, Some, ◌∙◌, subst, ap₂, arith, rules}
use Rattle.lowest.specs.Listed.{move_place, move_in}
use Rattle.lowest.specs.ListedViews.{listed_moves}
use Rattle.model.specs.Stands.{LowestStands, ListedStand}
use Rattle.model.proofs.Tables.{move_more, place_within}
use Rattle.model.proofs.low.add_move.Goals as goal

pub returns-in-Listed : goal.returns-in-Listed
returns-in-Listed c = λ h k s f.
    let old = c.in-Listed.lock in
    let new = c.add_move.new.self in
    let st : ListedStand old h k = subst (λ x. LowestStands x h k) c.in-Listed.is s in
    let hs : c.args.from < old.states = search rules in
    let ha : c.args.act < old.acts = search rules in
    let he : c.args.reaction < 8 = search rules in
    let ok : is_ok c.add_move.result ≡ true = search rules in
    let ms : listed_moves new ≡ set (listed_moves old) (move_place old.acts c.args.from c.args.act c.args.reaction) (Some c.args.after) = search rules in
    let within : move_place old.acts c.args.from c.args.act c.args.reaction < length (listed_moves old) = omega (arith, place_within old.acts old.states c.args.from c.args.act c.args.reaction hs ha he, old.sizes.1, old.moves.ok.0) in
    record {
      form = search rules;
      facts = search rules;
      acts = search rules;
      first = search rules;
      states = search rules;
      valuations = search rules;
      moves = λ x a e.
          ap₂ (λ n l. move_in n l x a e) c.add_move.ensures.rest.acts ms
          ∙ move_more old.acts (listed_moves old) k.moves c.args.from c.args.act c.args.reaction c.args.after ha he within st.moves x a e;
      no_rules = search rules;
      no_changes = search rules;
    }
