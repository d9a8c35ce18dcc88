use Rattle.std.proofs.Common.{◌≡◌, Some, None, ap, ◌∙◌}
use Rattle.std.proofs.lemmas.Result.{MatchResult-at_ok}
use Rattle.locks.specs.Allowed.{allowance, marked, layer_fault}
use Rattle.locks.specs.Layer.{layered}
use Rattle.lowest.specs.Lowest.{lowest_lock}
use Rattle.pile.specs.Pile.{live_lock, pile_meaning}
use Rattle.lowest.specs.declared.lowest.Lowest.{Lowest}
use Rattle.pile.proofs.pile.empty_pile.Goals as goal

pub returns : goal.returns
returns c =
    let m = live_lock c.empty_live.result in
    let over = λ (l : Lowest). layered (lowest_lock l) (allowance (marked c.none.result) 0) in
    (MatchResult-at_ok (λ p. (layer_fault m 0 ≡ None) × (pile_meaning p ≡ over c.empty_live.result.lower))
    (λ e. layer_fault m 0 ≡ Some e) _ c.unwrap.ensures c.pile_over.ensures).1
    ∙ ap over c.empty_live.ensures
