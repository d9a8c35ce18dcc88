use Rattle.std.proofs.Common.{ℕ, ◌^◌, ◌<◌, List, get_or, None, Option, sym, ap, ◌∙◌, subst, pow_pos, rules, tests}
use Rattle.lowest.specs.Facts.{set_bits}
use Rattle.lowest.specs.declared.facts.Change.{Change}
use Rattle.lowest.proofs.Tables.{same_anywhere}
use Rattle.lowest.proofs.facts.FactLock.new.Goals as goal

pub invariant_of-result-clause-masks : goal.invariant_of-result-clause-masks
invariant_of-result-clause-masks c =
    let facts = c.in_ok-facts.facts in
    let blank = c.in_ok-changes.ensures.items_if_clones_equal (λ y h. search (rules, tests)) in
    λ i. subst (λ (x : ℕ). x < 2 ^ facts)
    (sym (ap (λ (xs : List (Option Change)). set_bits (get_or xs i None)) blank ∙ ap set_bits (same_anywhere _ i None)))
    (pow_pos facts)
