use Rattle.std.proofs.Common.{ℕ, ◌<◌, List, get_or, None, Option, unwrap_or, sym, ap, ◌∙◌, subst, rules, tests}
use Rattle.lowest.proofs.Tables.{same_anywhere}
use Rattle.lowest.proofs.listed.ListedLock.new.Goals as goal

pub invariant_of-result-clause-ends : goal.invariant_of-result-clause-ends
invariant_of-result-clause-ends c =
    let some : 0 < c.args.states = search rules in
    let blank = c.in_ok-moves.ensures.items_if_clones_equal (λ y h. search (rules, tests)) in
    λ i. subst (λ (x : ℕ). x < c.args.states)
    (sym (ap (λ (xs : List (Option ℕ)). unwrap_or (get_or xs i None) 0) blank
    ∙ ap (λ (x : Option ℕ). unwrap_or x 0) (same_anywhere _ i None)))
    some
