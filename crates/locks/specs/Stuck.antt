-- Where a lock is not live: an allowed act that has no possible reaction.
use Rattle.std.specs.Prelude.{◌≡◌, ℕ, ◌<◌, Bool, true, false, not, ◌&&◌}
use Rattle.locks.specs.Meaning.{Meaning, reacts}

-- whether the act is allowed in the state and has no possible reaction there
abbrev pub stuck : Meaning → ℕ → ℕ → Bool
stuck m s a = m.allowed s a && not (reacts m s a)

-- The reaction is the lowest that is possible of the act in the state.
pub record LowestPossible (m : Meaning) (s a e : ℕ) : Type 0 where
  pub possible : m.possible s a e ≡ true
  pub lowest : (k : ℕ) → k < e → m.possible s a k ≡ false

-- The state is the lowest in which the act is stuck.
pub record LowestStuck (m : Meaning) (a s : ℕ) : Type 0 where
  pub stuck_there : stuck m s a ≡ true
  pub lowest : (k : ℕ) → k < s → stuck m k a ≡ false

-- The act is the lowest that is stuck anywhere, and the state the lowest in which it is.
pub record FirstStuck (m : Meaning) (a s : ℕ) : Type 0 where
  pub state : LowestStuck m a s
  pub act : (k : ℕ) → k < a → (t : ℕ) → stuck m t k ≡ false
