-- The lock of rules and changes is a lock.
use Rattle.std.specs.Prelude.{◌≡◌, ℕ, ◌-◌, ◌^◌, ◌<◌, ◌≤◌, true, Some, None, Option, bit_and, nat_lt}
use Rattle.std.proofs.Common.{arith, pow_pos, pow_mono, sym, subst}
use Rattle.std.proofs.lemmas.Nat.{or_lt}
use Rattle.std.proofs.lemmas.Bool.{and_parts, ltb-true, cond-true, cond-false, cond_both}
use Rattle.locks.specs.Meaning.{Lawful}
use Rattle.lowest.specs.Facts.{fact_meaning, fact_allowed, fact_possible, changed, set_bits}
use Rattle.lowest.specs.FactViews.{fact_lock}
use Rattle.lowest.specs.declared.facts.Rule.{Rule}
use Rattle.lowest.specs.declared.facts.Change.{Change}
use Rattle.lowest.specs.declared.facts.FactLock.{FactLock}

-- a change whose set bits are of the facts leads from a state to a state
changed_below : (facts s : ℕ) (change : Option Change) → s < 2 ^ facts → set_bits change < 2 ^ facts → changed change s < 2 ^ facts
changed_below facts s None h e = e
changed_below facts s (Some change) h e =
    or_lt facts (s - bit_and s change.clear) change.set (omega arith) e

module _ (facts acts first : ℕ) (rule : ℕ → Option Rule) (change : ℕ → ℕ → Option Change) where
  allowed_within : (s a : ℕ) → fact_allowed facts acts rule s a ≡ true → (s < 2 ^ facts) × (a < acts)
  allowed_within s a p =
      let w = and_parts (nat_lt s (2 ^ facts)) _ p in
      (ltb-true s (2 ^ facts) w.0, ltb-true a acts (and_parts (nat_lt a acts) _ w.1).0)

  possible_allowed : (s a e : ℕ) → fact_possible facts acts rule change s a e ≡ true → fact_allowed facts acts rule s a ≡ true
  possible_allowed s a e p = (and_parts (fact_allowed facts acts rule s a) _ p).0

  module _
      (numbers : (1 ≤ facts) × (facts ≤ 12) × (1 ≤ acts) × (acts ≤ 31) × (first < 2 ^ facts))
      (short : (a e : ℕ) → set_bits (change a e) < 2 ^ facts)
    where
      pub fact_lawful : Lawful (fact_meaning facts acts first rule change)
      fact_lawful = record {
        some_states = pow_pos facts;
        few_states = let h : 2 ^ facts ≤ 2 ^ 12 = pow_mono numbers.1 in omega arith;
        some_facts = numbers.0;
        few_facts = numbers.1;
        some_acts = numbers.2;
        few_acts = numbers.3;
        first_below = numbers.4;
        possible_allowed = possible_allowed;
        after_below = λ s a e p.
            subst (λ (x : ℕ). x < 2 ^ facts) (sym (cond-true _ _ _ p))
            (changed_below facts s (change a e) (allowed_within s a (possible_allowed s a e p)).0 (short a e));
        holds_within = λ s f p.
            let w = and_parts (nat_lt s (2 ^ facts)) _ p in
            (ltb-true s (2 ^ facts) w.0, ltb-true f facts (and_parts (nat_lt f facts) _ w.1).0);
        allowed_within = allowed_within;
        possible_within = λ s a e p.
            ltb-true e 8 (and_parts (nat_lt e 8) _ (and_parts (fact_allowed facts acts rule s a) _ p).1).0;
        after_impossible = λ s a e p. cond-false _ _ _ p;
      }

pub fact_lock_lawful : (l : FactLock) → Lawful (fact_lock l)
fact_lock_lawful l =
    fact_lawful l.facts l.acts l.first _ _ l.ranges
    (λ a e.
    cond_both (nat_lt e 8) _ None (λ (x : Option Change). set_bits x < 2 ^ l.facts) (λ _. l.masks _) (λ _. pow_pos l.facts))
