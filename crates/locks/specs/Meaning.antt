-- What a lock means, and what every lock owes.
use Rattle.std.specs.Prelude.{◌≡◌, ℕ, zero, suc, ◌<◌, ◌≤◌, Bool, true, false, ◌||◌}

-- the most that a lock may have
abbrev pub most_states : ℕ
most_states = 32768

abbrev pub most_facts : ℕ
most_facts = 12

abbrev pub most_acts : ℕ
most_acts = 31

-- the reactions are 0 to 7
abbrev pub reactions : ℕ
reactions = 8

-- the name of no reaction
abbrev pub no_reaction : ℕ
no_reaction = 255

-- A lock: how many states, facts and acts it has, and its first state;
-- which facts hold in a state; which acts are allowed there; which reactions an act may have there, and the state after each.
pub record Meaning : Type 0 where
  pub states : ℕ
  pub facts : ℕ
  pub acts : ℕ
  pub first : ℕ
  pub holds : ℕ → ℕ → Bool
  pub allowed : ℕ → ℕ → Bool
  pub possible : ℕ → ℕ → ℕ → Bool
  pub after : ℕ → ℕ → ℕ → ℕ

-- What every lock keeps: counts within their limits; a reaction is possible only of an allowed act;
-- the first state, and the state after a possible reaction, are states; a number out of range gets no;
-- the state after an impossible reaction is 0.
pub record Lawful (m : Meaning) : Type 0 where
  pub some_states : 1 ≤ m.states
  pub few_states : m.states ≤ most_states
  pub some_facts : 1 ≤ m.facts
  pub few_facts : m.facts ≤ most_facts
  pub some_acts : 1 ≤ m.acts
  pub few_acts : m.acts ≤ most_acts
  pub first_below : m.first < m.states
  pub possible_allowed : (s a e : ℕ) → m.possible s a e ≡ true → m.allowed s a ≡ true
  pub after_below : (s a e : ℕ) → m.possible s a e ≡ true → m.after s a e < m.states
  pub holds_within : (s f : ℕ) → m.holds s f ≡ true → (s < m.states) × (f < m.facts)
  pub allowed_within : (s a : ℕ) → m.allowed s a ≡ true → (s < m.states) × (a < m.acts)
  pub possible_within : (s a e : ℕ) → m.possible s a e ≡ true → e < reactions
  pub after_impossible : (s a e : ℕ) → m.possible s a e ≡ false → m.after s a e ≡ 0

-- whether some number below n passes the test
abbrev pub any_below : ℕ → (ℕ → Bool) → Bool
any_below zero p = false
any_below (suc n) p = p n || any_below n p

-- whether some reaction of the act is possible in the state
abbrev pub reacts : Meaning → ℕ → ℕ → Bool
reacts m s a = any_below reactions (m.possible s a)

-- A lock is live if each allowed act has a possible reaction.
abbrev pub Live : Meaning → Type 0
Live m = (s a : ℕ) → m.allowed s a ≡ true → reacts m s a ≡ true

-- The number names the act in the state: the lowest possible reaction of an allowed act, and 255 of any other.
pub record Named (m : Meaning) (s a r : ℕ) : Type 0 where
  pub lowest : m.allowed s a ≡ true → (m.possible s a r ≡ true) × ((e : ℕ) → e < r → m.possible s a e ≡ false)
  pub none : m.allowed s a ≡ false → r ≡ no_reaction
