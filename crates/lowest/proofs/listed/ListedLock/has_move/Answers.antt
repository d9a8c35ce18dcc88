use Rattle.std.proofs.Common.{ℕ, refl, is_some, rules, tests}
use Rattle.std.proofs.lemmas.Iterator.{YieldsList-from_range}
use Rattle.lowest.specs.Listed.{move_in}
use Rattle.lowest.specs.ListedViews.{listed_moves}
use Rattle.locks.proofs.Searches.{any_over}
use Rattle.lowest.proofs.listed.ListedLock.has_move.Goals as goal

pub returns : goal.returns
returns c =
    let l = c.args.self.now in
    let moves = λ (e : ℕ). is_some (move_in l.acts (listed_moves l) c.args.state c.args.act e) in
    any_over 8 moves _ _ c.any.result c.any.ensures.ran (YieldsList-from_range 0 8 8 refl refl) (λ x b q k. search (rules, tests))
