-- The lowest possible reaction of a live lock names the act.
use Rattle.std.proofs.Common.{◌≡◌, ℕ, false, Some, None, Option, unwrap_or, refl, MatchOption}
use Rattle.std.proofs.lemmas.Bool.{both_ways}
use Rattle.locks.specs.Meaning.{Meaning, Lawful, Live, Named, reacts, no_reaction}
use Rattle.locks.specs.Stuck.{LowestPossible}

pub named_lowest : (m : Meaning) → Lawful m → Live m → (s a : ℕ) (o : Option ℕ)
    → MatchOption o (reacts m s a ≡ false) (LowestPossible m s a) → Named m s a (unwrap_or o no_reaction)
named_lowest m law live s a None none = record {
  lowest = λ e. absurd (both_ways _ none (live s a e));
  none = λ _. refl;
}
named_lowest m law live s a (Some e) found = record {
  lowest = λ _. (found.possible, found.lowest);
  none = λ n. absurd (both_ways _ n (law.possible_allowed s a e found.possible));
}
