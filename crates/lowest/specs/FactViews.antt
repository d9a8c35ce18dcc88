-- A fact lock by its parts.
use Rattle.std.specs.Prelude.{◌≡◌, ℕ, ◌*◌, Bool, not, ◌&&◌, List, replicate, is_some, None, vec_items, Option, nat_lt}
use Rattle.locks.specs.Meaning.{Meaning, reactions}
use Rattle.lowest.specs.Facts.{fact_meaning, rule_in, change_in, rule_short, change_short}
use Rattle.lowest.specs.declared.facts.Rule.{Rule}
use Rattle.lowest.specs.declared.facts.Change.{Change}
use Rattle.lowest.specs.declared.facts.FactLock.{FactLock}

-- one to an act
abbrev pub fact_rules : FactLock → List (Option Rule)
fact_rules lock = vec_items lock.rules

-- eight to an act
abbrev pub fact_changes : FactLock → List (Option Change)
fact_changes lock = vec_items lock.changes

-- the lock's meaning
abbrev pub fact_lock : FactLock → Meaning
fact_lock lock =
    fact_meaning lock.facts lock.acts lock.first (rule_in (fact_rules lock)) (change_in (fact_changes lock))

-- whether the rule can be the act's: the act is one of the lock's, the masks are of its facts, and it has no rule yet
abbrev pub rule_fits : FactLock → ℕ → Rule → Bool
rule_fits lock a rule = nat_lt a lock.acts && (rule_short lock.facts rule && not (is_some (rule_in (fact_rules lock) a)))

-- the same, whether or not it has a rule yet
abbrev pub rule_within : FactLock → ℕ → Rule → Bool
rule_within lock a rule = nat_lt a lock.acts && rule_short lock.facts rule

-- whether the change can be that of the act and the reaction: likewise
abbrev pub change_fits : FactLock → ℕ → ℕ → Change → Bool
change_fits lock a e change =
    (nat_lt a lock.acts && nat_lt e reactions)
    && (change_short lock.facts change && not (is_some (change_in (fact_changes lock) a e)))

abbrev pub change_within : FactLock → ℕ → ℕ → Change → Bool
change_within lock a e change = (nat_lt a lock.acts && nat_lt e reactions) && change_short lock.facts change

-- two locks that differ in nothing but their rules, or in nothing but their changes
pub record SameButRules (old new : FactLock) : Type 0 where
  pub facts : new.facts ≡ old.facts
  pub acts : new.acts ≡ old.acts
  pub first : new.first ≡ old.first
  pub changes : fact_changes new ≡ fact_changes old

pub record SameButChanges (old new : FactLock) : Type 0 where
  pub facts : new.facts ≡ old.facts
  pub acts : new.acts ≡ old.acts
  pub first : new.first ≡ old.first
  pub rules : fact_rules new ≡ fact_rules old

-- the lock has the numbers given and neither a rule nor a change
pub record FreshFacts (n k s : ℕ) (lock : FactLock) : Type 0 where
  pub facts : lock.facts ≡ n
  pub acts : lock.acts ≡ k
  pub first : lock.first ≡ s
  pub rules : fact_rules lock ≡ replicate k None
  pub changes : fact_changes lock ≡ replicate (k * reactions) None
