-- The lowest locks are locks.
use Rattle.std.specs.Prelude.{false, refl}
use Rattle.std.proofs.Common.{arith}
use Rattle.std.proofs.lemmas.Bool.{both_ways}
use Rattle.locks.specs.Meaning.{Lawful}
use Rattle.lowest.specs.Lowest.{empty_meaning, lowest_lock}
use Rattle.lowest.specs.declared.lowest.Lowest.{Lowest}
use Rattle.lowest.specs.declared.lowest.Lowest.TheVariants.{Empty, Facts, Listed}
use Rattle.lowest.specs.FactLaws.{fact_lock_lawful}
use Rattle.lowest.specs.ListedLaws.{listed_lock_lawful}

empty_lawful : Lawful empty_meaning
empty_lawful = record {
  some_states = omega arith;
  few_states = omega arith;
  some_facts = omega arith;
  few_facts = omega arith;
  some_acts = omega arith;
  few_acts = omega arith;
  first_below = omega arith;
  possible_allowed = λ s a e p. p;
  after_below = λ s a e p. absurd (both_ways false refl p);
  holds_within = λ s f p. absurd (both_ways false refl p);
  allowed_within = λ s a p. absurd (both_ways false refl p);
  possible_within = λ s a e p. absurd (both_ways false refl p);
  after_impossible = λ s a e p. refl;
}

pub lowest_lawful : (l : Lowest) → Lawful (lowest_lock l)
lowest_lawful Empty = empty_lawful
lowest_lawful (Facts lock) = fact_lock_lawful lock
lowest_lawful (Listed lock) = listed_lock_lawful lock
