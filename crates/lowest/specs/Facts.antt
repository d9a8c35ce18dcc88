-- The lock whose states are all the valuations of its facts: in state s fact i holds where bit i of s is set.
use Rattle.std.specs.Prelude.{ℕ, ◌+◌, ◌*◌, ◌^◌, Bool, false, cond, ◌&&◌, List, Some, None, Option, nat_le, nat_lt, slice_index_or}
use Rattle.locks.specs.Meaning.{Meaning, most_facts, most_acts, reactions}
use Rattle.locks.specs.Facts.{bit, short}
use Rattle.lowest.specs.Bits.{met, rewritten}
use Rattle.lowest.specs.declared.facts.Rule.{Rule}
use Rattle.lowest.specs.declared.facts.Change.{Change}

-- whether there is a rule, and the state meets it
abbrev pub rule_met : Option Rule → ℕ → Bool
rule_met None s = false
rule_met (Some rule) s = met s rule.need rule.lack

-- whether there is a change, and the state meets it
abbrev pub change_met : Option Change → ℕ → Bool
change_met None s = false
change_met (Some change) s = met s change.need change.lack

-- the state after the change: clear bits go, then set bits come
abbrev pub changed : Option Change → ℕ → ℕ
changed None s = 0
changed (Some change) s = rewritten s change.clear change.set

-- the bits that the change sets
abbrev pub set_bits : Option Change → ℕ
set_bits None = 0
set_bits (Some change) = change.set

-- whether the act is allowed in the state, and whether the reaction is possible there
abbrev pub fact_allowed : ℕ → ℕ → (ℕ → Option Rule) → ℕ → ℕ → Bool
fact_allowed facts acts rule s a = nat_lt s (2 ^ facts) && (nat_lt a acts && rule_met (rule a) s)

abbrev pub fact_possible : ℕ → ℕ → (ℕ → Option Rule) → (ℕ → ℕ → Option Change) → ℕ → ℕ → ℕ → Bool
fact_possible facts acts rule change s a e =
    fact_allowed facts acts rule s a && (nat_lt e reactions && change_met (change a e) s)

-- The lock of so many facts and acts, from the rule of each act and the change of each act and reaction, if there is one.
abbrev pub fact_meaning : (facts acts first : ℕ) → (ℕ → Option Rule) → (ℕ → ℕ → Option Change) → Meaning
fact_meaning facts acts first rule change = record {
  states = 2 ^ facts;
  facts = facts;
  acts = acts;
  first = first;
  holds = λ s f. nat_lt s (2 ^ facts) && (nat_lt f facts && bit s f);
  allowed = fact_allowed facts acts rule;
  possible = fact_possible facts acts rule change;
  after = λ s a e. cond (fact_possible facts acts rule change s a e) (changed (change a e) s) 0;
}

-- the rule of an act and the change of an act and a reaction, as the lists hold them: eight changes to an act
abbrev pub rule_in : List (Option Rule) → ℕ → Option Rule
rule_in rules a = slice_index_or rules a None

abbrev pub change_in : List (Option Change) → ℕ → ℕ → Option Change
change_in changes a e = cond (nat_lt e reactions) (slice_index_or changes (a * reactions + e) None) None

-- whether every bit of the masks is of one of the facts
abbrev pub rule_short : ℕ → Rule → Bool
rule_short facts rule = short facts rule.need && short facts rule.lack

abbrev pub change_short : ℕ → Change → Bool
change_short facts change =
    (short facts change.need && short facts change.lack) && (short facts change.set && short facts change.clear)

-- whether a lock may have so many facts, 1 to 12, and acts, 1 to 31
abbrev pub count_range : ℕ → ℕ → Bool
count_range facts acts = (nat_le 1 facts && nat_le facts most_facts) && (nat_le 1 acts && nat_le acts most_acts)

-- whether there can be a lock with these numbers: 1 to 12 facts, 1 to 31 acts, a first state that is a state
abbrev pub fact_range : ℕ → ℕ → ℕ → Bool
fact_range facts acts first =
    (nat_le 1 facts && nat_le facts most_facts) && ((nat_le 1 acts && nat_le acts most_acts) && nat_lt first (2 ^ facts))
