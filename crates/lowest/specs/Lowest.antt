-- The lowest lock of a pile: none yet, or one of the two.
use Rattle.std.specs.Prelude.{false}
use Rattle.locks.specs.Meaning.{Meaning}
use Rattle.lowest.specs.FactViews.{fact_lock}
use Rattle.lowest.specs.ListedViews.{listed_lock}
use Rattle.lowest.specs.declared.lowest.Lowest.{Lowest}
use Rattle.lowest.specs.declared.lowest.Lowest.TheVariants.{Empty, Facts, Listed}

-- the lock of one state, one fact and one act that says no to all
abbrev pub empty_meaning : Meaning
empty_meaning = record {
  states = 1;
  facts = 1;
  acts = 1;
  first = 0;
  holds = λ s f. false;
  allowed = λ s a. false;
  possible = λ s a e. false;
  after = λ s a e. 0;
}

abbrev pub lowest_lock : Lowest → Meaning
lowest_lock Empty = empty_meaning
lowest_lock (Facts lock) = fact_lock lock
lowest_lock (Listed lock) = listed_lock lock
