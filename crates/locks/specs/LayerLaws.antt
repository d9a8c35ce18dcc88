-- A layer of a lock is a lock, and of a live lock a live one, whatever the lock and the memory are.
use Rattle.std.proofs.Common.{◌≡◌, ℕ, zero, ◌+◌, ◌*◌, ◌/◌, ◌%◌, ◌<◌, ◌≤◌, true, sym, subst, ⊎_elim, mod-lt, div-lt_iff_lt-mul, mul-pos, arith}
use Rattle.std.proofs.lemmas.Bool.{cases_Bool, and_parts, and_from, leb-true, cond-true, cond-false}
use Rattle.std.proofs.lemmas.Nat.{mul-add-lt}
use Rattle.locks.specs.Meaning.{Meaning, Lawful, Live, most_states}
use Rattle.locks.specs.Layer.{Memory, Sound, Lively, remembering, layered, fits}

module _ (m : Meaning) (k : Memory) (law : Lawful m) (sound : Sound k) where
  size_above_0 : zero < k.size
  size_above_0 = let h = sound.start_below in omega arith

  -- what holds of a row and a column of the product
  below_product : (s : ℕ) → s / k.size < m.states → s < m.states * k.size
  below_product s h = (div-lt_iff_lt-mul size_above_0).0 h

  place_below : (s v : ℕ) → s < m.states → v < k.size → s * k.size + v < m.states * k.size
  place_below s v h i = omega (arith, mul-add-lt s k.size v m.states h i)

  module _ (s a e : ℕ) (p : (remembering m k).possible s a e ≡ true) where
    possible_parts : (k.may (s % k.size) a ≡ true) × (m.possible (s / k.size) a e ≡ true)
    possible_parts =
        let w = and_parts (k.may (s % k.size) a) _ p in
        (w.0, (and_parts (m.possible (s / k.size) a e) _ w.1).0)

  remembering_lawful : m.states * k.size ≤ most_states → Lawful (remembering m k)
  remembering_lawful few = record {
    some_states = mul-pos law.some_states size_above_0;
    few_states = few;
    some_facts = law.some_facts;
    few_facts = law.few_facts;
    some_acts = law.some_acts;
    few_acts = law.few_acts;
    first_below = place_below m.first k.start law.first_below sound.start_below;
    possible_allowed = λ s a e p.
        let w = possible_parts s a e p in
        and_from (k.may (s % k.size) a) _ w.0 (law.possible_allowed (s / k.size) a e w.1);
    after_below = λ s a e p.
        let w = possible_parts s a e p in
        subst (λ (x : ℕ). x < m.states * k.size) (sym (cond-true _ _ _ p))
        (place_below (m.after (s / k.size) a e) (k.next (s % k.size) a e)
        (law.after_below (s / k.size) a e w.1)
        (sound.next_below (s % k.size) a e (mod-lt s size_above_0)));
    holds_within = λ s f h.
        let w = law.holds_within (s / k.size) f h in
        (below_product s w.0, w.1);
    allowed_within = λ s a h.
        let w = law.allowed_within (s / k.size) a (and_parts (k.may (s % k.size) a) _ h).1 in
        (below_product s w.0, w.1);
    possible_within = λ s a e p. law.possible_within (s / k.size) a e (possible_parts s a e p).1;
    after_impossible = λ s a e p. cond-false _ _ _ p;
  }

  pub layered_lawful : Lawful (layered m k)
  layered_lawful =
      ⊎_elim
      (λ e. subst Lawful (sym (cond-true (fits m k.size) (remembering m k) m e)) (remembering_lawful (leb-true _ _ e)))
      (λ e. subst Lawful (sym (cond-false (fits m k.size) (remembering m k) m e)) law)
      (cases_Bool (fits m k.size))

module _ (m : Meaning) (k : Memory) (live : Live m) (lively : Lively k) where
  remembering_live : Live (remembering m k)
  remembering_live s a h =
      let w = and_parts (k.may (s % k.size) a) (m.allowed (s / k.size) a) h in
      lively.leaves (m.possible (s / k.size) a) (s % k.size) a w.0 (live (s / k.size) a w.1)

  pub layered_live : Live (layered m k)
  layered_live =
      ⊎_elim
      (λ e. subst Live (sym (cond-true (fits m k.size) (remembering m k) m e)) remembering_live)
      (λ e. subst Live (sym (cond-false (fits m k.size) (remembering m k) m e)) live)
      (cases_Bool (fits m k.size))
