-- What is tried at the end of a file: numbers below a bound, and the lock as its records say it.
use Rattle.std.proofs.Common.{◌≡◌, ℕ, zero, suc, ◌^◌, ◌<◌, Bool, true, false, ◌&&◌, List, [], ◌∷◌, get_or, Some, None, Option, unwrap_or, sym, refl, ap, ◌∙◌, subst, ap₂, inl, inr, arith, ltb-true, eq-eqb, ne_eqb}
use borrow.Author.Tests.{clash}
use Rattle.std.specs.List.{list_all, range_with_len}
use Rattle.std.proofs.Math.Bool.{and_comm, and-true}
use Rattle.std.proofs.lemmas.List.Folds.{list_all-append}
use Rattle.locks.proofs.Searches.{one_more}
use Rattle.std.proofs.lemmas.Bool.{cases_eq, cases_Bool, cond-true, cond-false, and_left, and_right, and_parts, not_from_true}
use Rattle.items.specs.declared.item.Header.{Header}
use Rattle.locks.specs.declared.allowance.LayerFault.{LayerFault}
use Rattle.locks.specs.declared.marks.Marks.{Marks}
use Rattle.locks.specs.Allowed.{allowance, marked, layer_fault}
use Rattle.locks.specs.Layer.{layered}
use Rattle.locks.specs.Meaning.{Meaning, Live}
use Rattle.locks.specs.Stuck.{stuck, FirstStuck}
use Rattle.lowest.specs.declared.lowest.Lowest.{Lowest}
use Rattle.lowest.specs.declared.lowest.Lowest.TheVariants.{Empty, Facts, Listed}
use Rattle.lowest.specs.Facts.{fact_meaning}
use Rattle.lowest.specs.Listed.{listed_meaning}
use Rattle.lowest.specs.Lowest.{lowest_lock}
use Rattle.model.specs.declared.fault.ModelFault.TheVariants.{Stuck, Layer}
use Rattle.model.specs.Contents.{Contents, marked_of, first_of, borne, lowest_said, pile_said}
use Rattle.model.specs.Closing.{all_below, or_here, lowest_below, or_stuck, stuck_below, first_stuck, lacking, closing, closing_live, closing_layer}
use Rattle.model.specs.Stands.{LowestStands}

-- all of the numbers below n pass
pub all_of_range : (n : ℕ) (p : ℕ → Bool) → list_all p (range_with_len 0 n) ≡ all_below n p
all_of_range zero p = refl
all_of_range (suc n) p =
    ap (list_all p) (one_more n)
    ∙ (list_all-append p (range_with_len 0 n) (n ∷ [])
    ∙ (and_comm (list_all p (range_with_len 0 n)) (p n && true) ∙ ap₂ ◌&&◌ (and-true (p n)) (all_of_range n p)))

-- the lowest number that passes, where none does and where one does
none_passes : (n : ℕ) (p : ℕ → Bool) → ((k : ℕ) → k < n → p k ≡ false) → lowest_below n p ≡ None
none_passes zero p h = refl
none_passes (suc n) p h =
    ap (λ o. or_here o (p n) n) (none_passes n p (λ k l. h k (omega arith))) ∙ ap (λ b. or_here None b n) (h n (omega arith))

lowest_passes : (n : ℕ) (p : ℕ → Bool) (k : ℕ) → k < n → p k ≡ true → ((j : ℕ) → j < k → p j ≡ false) → lowest_below n p ≡ Some k
lowest_passes zero p k l e h = let z : ⊥ = omega arith in absurd z
lowest_passes (suc n) p k l e h =
    elim (cases_eq k n) [
      | inl same ↦
          subst (λ j. lowest_below (suc n) p ≡ Some j) (sym same)
          (ap (λ o. or_here o (p n) n) (none_passes n p (λ j m. h j (omega arith))) ∙ ap (λ b. or_here None b n) (subst (λ j. p j ≡ true) same e))
      | inr other ↦ ap (λ o. or_here o (p n) n) (lowest_passes n p k (omega arith) e h)
    ]

-- the first act that is stuck, where none is and where one is
nowhere_stuck : (n : ℕ) (m : Meaning) → ((a : ℕ) → a < n → (s : ℕ) → stuck m s a ≡ false) → stuck_below n m ≡ None
nowhere_stuck zero m h = refl
nowhere_stuck (suc n) m h =
    ap (λ o. or_stuck o n (lowest_below m.states (λ s. stuck m s n))) (nowhere_stuck n m (λ a l. h a (omega arith)))
    ∙ ap (or_stuck None n) (none_passes m.states (λ s. stuck m s n) (λ s _. h n (omega arith) s))

act_stuck : (n : ℕ) (m : Meaning) (a s : ℕ) → a < n → s < m.states → FirstStuck m a s → stuck_below n m ≡ Some (a, s)
act_stuck zero m a s l w f = let z : ⊥ = omega arith in absurd z
act_stuck (suc n) m a s l w f =
    elim (cases_eq a n) [
      | inl same ↦
          let below : stuck_below n m ≡ None = nowhere_stuck n m (λ k j t. f.act k (omega arith) t) in
          let here : lowest_below m.states (λ t. stuck m t n) ≡ Some s =
          subst (λ b. lowest_below m.states (λ t. stuck m t b) ≡ Some s) same
          (lowest_passes m.states (λ t. stuck m t a) s w f.state.stuck_there f.state.lowest) in
          subst (λ b. stuck_below (suc n) m ≡ Some (b, s)) (sym same)
          (ap (λ o. or_stuck o n (lowest_below m.states (λ t. stuck m t n))) below ∙ ap (or_stuck None n) here)
      | inr other ↦
          ap (λ o. or_stuck o n (lowest_below m.states (λ t. stuck m t n))) (act_stuck n m a s (omega arith) w f)
    ]

pub live_unstuck : (m : Meaning) → Live m → first_stuck m ≡ None
live_unstuck m live = nowhere_stuck m.acts m (λ a _ s.
    elim (cases_Bool (m.allowed s a)) [
      | inl may ↦ and_right _ _ (not_from_true _ (live s a may))
      | inr not_allowed ↦ and_left _ _ not_allowed
    ])

-- an act is allowed only in a state and only if it is an act
allowed_inside : (low : Lowest) (s a : ℕ) → (lowest_lock low).allowed s a ≡ true → (s < (lowest_lock low).states) × (a < (lowest_lock low).acts)
allowed_inside Empty s a e = absurd (clash e)
allowed_inside (Facts l) s a e =
    let p = and_parts _ _ e in
    (ltb-true s (2 ^ l.facts) p.0, ltb-true a l.acts (and_parts _ _ p.1).0)
allowed_inside (Listed l) s a e =
    let p = and_parts _ _ (and_parts _ _ e).0 in
    (ltb-true s l.states p.0, ltb-true a l.acts p.1)

pub stuck_first : (low : Lowest) (a s : ℕ) → FirstStuck (lowest_lock low) a s → first_stuck (lowest_lock low) ≡ Some (a, s)
stuck_first low a s f =
    let within = allowed_inside low s a (and_parts _ _ f.state.stuck_there).0 in
    act_stuck (lowest_lock low).acts (lowest_lock low) a s within.1 within.0 f

-- the lowest lock of a draft means what its records say
pub lowest_is_said : (low : Lowest) (h : Header) (c : Contents) → LowestStands low h c → lowest_lock low ≡ lowest_said h c
lowest_is_said Empty h c st = absurd st
lowest_is_said (Facts l) h c st =
    let same : lowest_lock (Facts l) ≡ _ = λ i. fact_meaning (st.facts i) (st.acts i) (st.first i) (λ a. st.rules a i) (λ a e. st.changes a e i) in
    same ∙ sym (cond-true _ _ _ (eq-eqb h.form 1 st.form))
lowest_is_said (Listed l) h c st =
    let same : lowest_lock (Listed l) ≡ _ = λ i.
    listed_meaning (st.facts i) (st.acts i) (st.first i) (st.states i) (λ s. get_or (st.valuations i) s 0) (λ s a e. st.moves s a e i) in
    let other : h.form ≡ 1 → ⊥ = λ e. omega (arith, st.form) in
    same ∙ sym (cond-false _ _ _ (ne_eqb h.form 1 other))

-- the fault at the end: an act that is stuck, the layer, or none
module _ (low : Lowest) (h : Header) (c : Contents) (end : ℕ) (st : LowestStands low h c) (all_there : lacking h c ≡ false) where
  is_said : lowest_lock low ≡ lowest_said h c
  is_said = lowest_is_said low h c st

  from_live : (o : Option (ℕ × ℕ)) → first_stuck (lowest_lock low) ≡ o → closing h c end ≡ closing_live o h c
  from_live o e = cond-false _ _ _ all_there ∙ ap (λ x. closing_live x h c) (ap first_stuck (sym is_said) ∙ e)

  pub ends_stuck : (a s : ℕ) → FirstStuck (lowest_lock low) a s → closing h c end ≡ Some (Stuck a s)
  ends_stuck a s f = from_live (Some (a, s)) (stuck_first low a s f)

  from_layer : Live (lowest_lock low) → (k : ℕ) → k ≡ borne c → (o : Option LayerFault) → layer_fault (lowest_lock low) k ≡ o → closing h c end ≡ closing_layer o
  from_layer live k same o e =
      from_live None (live_unstuck (lowest_lock low) live)
      ∙ ap closing_layer (ap₂ layer_fault (sym is_said) (sym same) ∙ e)

  pub ends_layer : Live (lowest_lock low) → (k : ℕ) → k ≡ borne c → (f : LayerFault) → layer_fault (lowest_lock low) k ≡ Some f → closing h c end ≡ Some (Layer f)
  ends_layer live k same f e = from_layer live k same (Some f) e

  pub ends_well : Live (lowest_lock low) → (k : ℕ) → k ≡ borne c → layer_fault (lowest_lock low) k ≡ None → closing h c end ≡ None
  ends_well live k same e = from_layer live k same None e

  pub pile_is_said : (marks : Marks) → ((a e : ℕ) → marked marks a e ≡ marked_of c.marks a e) → (k : ℕ) → k ≡ borne c →
      layered (lowest_lock low) (allowance (marked marks) k) ≡ pile_said h c
  pile_is_said marks same k e = λ i. layered (is_said i) (allowance (λ a x. same a x i) (e i))

pub first_or_none : (c : Contents) → unwrap_or (first_of c.allowances) 0 ≡ borne c
first_or_none c = at c.allowances
  where
    at : (ks : List ℕ) → unwrap_or (first_of ks) 0 ≡ get_or ks 0 0
    at [] = refl
    at (k ∷ ks) = refl
