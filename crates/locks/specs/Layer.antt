-- A layer: a lock below with a finite memory beside it.
use Rattle.std.specs.Prelude.{◌≡◌, ℕ, ◌+◌, ◌*◌, ◌/◌, ◌%◌, ◌<◌, Bool, true, cond, ◌&&◌, nat_le}
use Rattle.locks.specs.Meaning.{Meaning, most_states, reactions, any_below}

-- A memory: how many values it has and which is the first; whether it lets an act be allowed;
-- which of the reactions that are possible below it admits; its value after a reaction.
pub record Memory : Type 0 where
  pub size : ℕ
  pub start : ℕ
  pub may : ℕ → ℕ → Bool
  pub admits : (ℕ → Bool) → ℕ → ℕ → ℕ → Bool
  pub next : ℕ → ℕ → ℕ → ℕ

-- the reactions of an act that are possible in the layer, from those that are possible below
abbrev pub admitted : Memory → (ℕ → Bool) → ℕ → ℕ → ℕ → Bool
admitted k below v a e = k.may v a && (below e && k.admits below v a e)

-- The lock with its memory. The state is the state below × the size + the memory's value.
abbrev pub remembering : Meaning → Memory → Meaning
remembering m k = record {
  states = m.states * k.size;
  facts = m.facts;
  acts = m.acts;
  first = m.first * k.size + k.start;
  holds = λ s f. m.holds (s / k.size) f;
  allowed = λ s a. k.may (s % k.size) a && m.allowed (s / k.size) a;
  possible = λ s a e. admitted k (m.possible (s / k.size) a) (s % k.size) a e;
  after = λ s a e.
      cond (admitted k (m.possible (s / k.size) a) (s % k.size) a e)
      (m.after (s / k.size) a e * k.size + k.next (s % k.size) a e)
      0;
}

-- whether the lock has no more states than a lock may have when each is taken as often as this
abbrev pub fits : Meaning → ℕ → Bool
fits m size = nat_le (m.states * size) most_states

-- A layer that would have too many states means the lock below.
abbrev pub layered : Meaning → Memory → Meaning
layered m k = cond (fits m k.size) (remembering m k) m

-- What makes a layer of any lock a lock: the memory's values stay below its size.
pub record Sound (k : Memory) : Type 0 where
  pub start_below : k.start < k.size
  pub next_below : (v a e : ℕ) → v < k.size → k.next v a e < k.size

-- What makes a layer of any live lock live: of the possible reactions of an act that it lets be, one stays.
pub record Lively (k : Memory) : Type 0 where
  pub leaves : (below : ℕ → Bool) (v a : ℕ) → k.may v a ≡ true
      → any_below reactions below ≡ true → any_below reactions (admitted k below v a) ≡ true
