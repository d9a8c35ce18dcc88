-- The lock whose states and moves are listed.
use Rattle.std.specs.Prelude.{ℕ, ◌+◌, ◌*◌, Bool, cond, ◌&&◌, List, is_some, None, Option, nat_le, nat_lt, slice_index, slice_index_or}
use Rattle.std.specs.Option.{unwrap_or}
use Rattle.locks.specs.Meaning.{Meaning, most_facts, most_acts, reactions, any_below}
use Rattle.locks.specs.Facts.{bit}

-- the most states that can be listed
abbrev pub most_listed : ℕ
most_listed = 1024

-- whether the numbers are of a state and an act of the lock
abbrev pub listed_here : ℕ → ℕ → ℕ → ℕ → Bool
listed_here states acts s a = nat_lt s states && nat_lt a acts

-- whether the reaction has a move
abbrev pub listed_possible : ℕ → ℕ → (ℕ → ℕ → ℕ → Option ℕ) → ℕ → ℕ → ℕ → Bool
listed_possible states acts move s a e = listed_here states acts s a && (nat_lt e reactions && is_some (move s a e))

-- The lock of so many facts, acts and states, from the valuation of each state and the move of each state, act and reaction,
-- if there is one: the state that it leads to. An act is allowed where it has a move.
abbrev pub listed_meaning : (facts acts first states : ℕ) → (ℕ → ℕ) → (ℕ → ℕ → ℕ → Option ℕ) → Meaning
listed_meaning facts acts first states valuation move = record {
  states = states;
  facts = facts;
  acts = acts;
  first = first;
  holds = λ s f. nat_lt s states && (nat_lt f facts && bit (valuation s) f);
  allowed = λ s a. listed_here states acts s a && any_below reactions (λ e. is_some (move s a e));
  possible = listed_possible states acts move;
  after = λ s a e. cond (listed_possible states acts move s a e) (unwrap_or (move s a e) 0) 0;
}

-- the valuation of a state as the list holds it, and nothing true in a state that is not listed yet
abbrev pub valuation_in : List ℕ → ℕ → ℕ
valuation_in valuations s = slice_index valuations s

-- where the move of a state, an act and a reaction stands in the list
abbrev pub move_place : ℕ → ℕ → ℕ → ℕ → ℕ
move_place acts s a e = (s * acts + a) * reactions + e

-- the move as the list holds it
abbrev pub move_in : ℕ → List (Option ℕ) → ℕ → ℕ → ℕ → Option ℕ
move_in acts moves s a e = cond (nat_lt a acts && nat_lt e reactions) (slice_index_or moves (move_place acts s a e) None) None

-- whether there can be a lock with these numbers: 1 to 12 facts, 1 to 31 acts, 1 to 1,024 states, a first state that is a state
abbrev pub listed_range : ℕ → ℕ → ℕ → ℕ → Bool
listed_range facts acts first states =
    (nat_le 1 facts && nat_le facts most_facts)
    && ((nat_le 1 acts && nat_le acts most_acts) && ((nat_le 1 states && nat_le states most_listed) && nat_lt first states))
