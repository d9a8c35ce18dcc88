-- The lock of listed states and moves is a lock.
use Rattle.std.specs.Prelude.{◌≡◌, ℕ, ◌<◌, ◌≤◌, true, ◌&&◌, is_some, None, Option, nat_lt}
use Rattle.std.proofs.Common.{arith, sym, subst}
use Rattle.std.specs.Option.{unwrap_or}
use Rattle.std.proofs.lemmas.Bool.{and_parts, and_from, ltb-true, cond-true, cond-false, cond_both}
use Rattle.locks.specs.Meaning.{Lawful}
use Rattle.locks.specs.AnyBelow.{any_from}
use Rattle.lowest.specs.Listed.{listed_meaning, listed_here, listed_possible}
use Rattle.lowest.specs.ListedViews.{listed_lock}
use Rattle.lowest.specs.declared.listed.ListedLock.{ListedLock}

module _ (facts acts first states : ℕ) (valuation : ℕ → ℕ) (move : ℕ → ℕ → ℕ → Option ℕ) where
  here_within : (s a : ℕ) → listed_here states acts s a ≡ true → (s < states) × (a < acts)
  here_within s a p =
      let w = and_parts (nat_lt s states) (nat_lt a acts) p in
      (ltb-true s states w.0, ltb-true a acts w.1)

  module _ (s a e : ℕ) (p : listed_possible states acts move s a e ≡ true) where
    possible_parts : (listed_here states acts s a ≡ true) × (e < 8) × (is_some (move s a e) ≡ true)
    possible_parts =
        let w = and_parts (listed_here states acts s a) _ p in
        let v = and_parts (nat_lt e 8) _ w.1 in
        (w.0, ltb-true e 8 v.0, v.1)

  module _
      (ranges : (1 ≤ facts) × (facts ≤ 12) × (1 ≤ acts) × (acts ≤ 31))
      (counts : (1 ≤ states) × (states ≤ 1024) × (first < states))
      (ends : (s a e : ℕ) → unwrap_or (move s a e) 0 < states)
    where
      pub listed_lawful : Lawful (listed_meaning facts acts first states valuation move)
      listed_lawful = record {
        some_states = counts.0;
        few_states = let h = counts.1 in omega arith;
        some_facts = ranges.0;
        few_facts = ranges.1;
        some_acts = ranges.2;
        few_acts = ranges.3;
        first_below = counts.2;
        possible_allowed = λ s a e p.
            let w = possible_parts s a e p in
            and_from (listed_here states acts s a) _ w.0 (any_from 8 (λ k. is_some (move s a k)) e w.1 w.2);
        after_below = λ s a e p. subst (λ (x : ℕ). x < states) (sym (cond-true _ _ _ p)) (ends s a e);
        holds_within = λ s f p.
            let w = and_parts (nat_lt s states) _ p in
            (ltb-true s states w.0, ltb-true f facts (and_parts (nat_lt f facts) _ w.1).0);
        allowed_within = λ s a p. here_within s a (and_parts (listed_here states acts s a) _ p).0;
        possible_within = λ s a e p. (possible_parts s a e p).1;
        after_impossible = λ s a e p. cond-false _ _ _ p;
      }

pub listed_lock_lawful : (l : ListedLock) → Lawful (listed_lock l)
listed_lock_lawful l =
    listed_lawful l.facts l.acts l.first l.states _ _ l.ranges l.counts
    (λ s a e.
    cond_both (nat_lt a l.acts && nat_lt e 8) _ None (λ (x : Option ℕ). unwrap_or x 0 < l.states) (λ _. l.ends _)
    (λ _. l.counts.0))
