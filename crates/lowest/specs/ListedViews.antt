-- A listed lock by its parts.
use Rattle.std.specs.Prelude.{◌≡◌, ℕ, ◌*◌, Bool, not, ◌&&◌, List, [], length, replicate, is_some, None, vec_items, Option, nat_lt}
use Rattle.locks.specs.Meaning.{Meaning, reactions}
use Rattle.locks.specs.Facts.{short}
use Rattle.lowest.specs.Listed.{listed_meaning, valuation_in, move_in}
use Rattle.lowest.specs.declared.listed.ListedLock.{ListedLock}

-- those of the states that are listed so far
abbrev pub listed_valuations : ListedLock → List ℕ
listed_valuations lock = vec_items lock.valuations

-- state by state, act by act, eight to an act
abbrev pub listed_moves : ListedLock → List (Option ℕ)
listed_moves lock = vec_items lock.moves

-- the lock's meaning
abbrev pub listed_lock : ListedLock → Meaning
listed_lock lock =
    listed_meaning lock.facts lock.acts lock.first lock.states (valuation_in (listed_valuations lock))
    (move_in lock.acts (listed_moves lock))

-- whether one more state can be listed, with this valuation
abbrev pub listable : ListedLock → ℕ → Bool
listable lock valuation = nat_lt (length (listed_valuations lock)) lock.states && short lock.facts valuation

-- whether the move can be that of the state, the act and the reaction: all are of the lock, and they have no move yet
abbrev pub move_fits : ListedLock → ℕ → ℕ → ℕ → ℕ → Bool
move_fits lock s a e t =
    ((nat_lt s lock.states && nat_lt a lock.acts) && (nat_lt e reactions && nat_lt t lock.states))
    && not (is_some (move_in lock.acts (listed_moves lock) s a e))

-- the same, whether or not they have a move yet
abbrev pub move_within : ListedLock → ℕ → ℕ → ℕ → ℕ → Bool
move_within lock s a e t = (nat_lt s lock.states && nat_lt a lock.acts) && (nat_lt e reactions && nat_lt t lock.states)

-- two locks with the same numbers
pub record SameNumbers (old new : ListedLock) : Type 0 where
  pub facts : new.facts ≡ old.facts
  pub acts : new.acts ≡ old.acts
  pub first : new.first ≡ old.first
  pub states : new.states ≡ old.states

-- the lock has the numbers given, no state listed yet and no move
pub record FreshListed (n k s c : ℕ) (lock : ListedLock) : Type 0 where
  pub facts : lock.facts ≡ n
  pub acts : lock.acts ≡ k
  pub first : lock.first ≡ s
  pub states : lock.states ≡ c
  pub valuations : listed_valuations lock ≡ []
  pub moves : listed_moves lock ≡ replicate (c * k * reactions) None
