-- The state after any reaction, possible or not, is a state.
use Rattle.std.proofs.Common.{ℕ, ◌<◌, sym, subst, ⊎_elim}
use Rattle.std.proofs.lemmas.Bool.{cases_Bool}
use Rattle.locks.specs.Meaning.{Meaning, Lawful}

pub after_below_states : (m : Meaning) → Lawful m → (s a e : ℕ) → m.after s a e < m.states
after_below_states m law s a e =
    ⊎_elim (law.after_below s a e)
    (λ no. subst (λ (x : ℕ). x < m.states) (sym (law.after_impossible s a e no)) law.some_states)
    (cases_Bool (m.possible s a e))
