-- Pass accepts what make makes.
use Rattle.std.proofs.Common.{◌≡◌, ℕ, zero, suc, ◌<◌, ◌≤◌, Bool, true, false, ◌&&◌, ◌||◌, eqb, ltb, leb, List, ◌++◌, length, get_or, drop, sym, refl, ap, ◌∙◌, subst, inl, inr, arith, length-append}
use mathlib.Core.Option.{Option, none, some}
use Rattle.std.proofs.lemmas.List.{get_or_append_left}
use Rattle.std.proofs.lemmas.Bool.{cases_eq, and_from, or_left, or_right, or_from, le-leb, eq-eqb, ne_eqb, lt-ltb, cond-true, cond-false, both_ways}
use Rattle.locks.specs.Meaning.{Meaning, Lawful, Live}
use Rattle.golog.specs.Search.{lowest}
use Rattle.golog.specs.Programs.{Prog}
use Rattle.golog.specs.Points.{no_act}
use Rattle.golog.specs.Positions.{positions, first_position, may_stop}
use Rattle.golog.specs.Sheets.{most_positions, no_number, number_bound, number_at, row, surely_below, true_row, sound_row, has_row, fits, Accepts, Within, numbered_by, numbers_to, numbers, act_or_none, first_act, acts, Made, made_from, tables_after}
use Rattle.golog.specs.Sheets.Made.{oversize}
use Rattle.golog.specs.Sureness.{MadeIsAccepted}
use Rattle.golog.proofs.Searches.{lowest_none, lowest_some, getD_table, length_table}
use Rattle.golog.proofs.Passing.{first_in}
use Rattle.golog.proofs.Numbers.{lead_in, usable_acts, surely_parts, surely_from, number_in, numbers_are_least}
use Rattle.golog.proofs.Sure.{fits_few, first_number, made_some, made_none}

numbers_to_length : (m : Meaning) (δ : Prog) (n : ℕ) → length (numbers_to m δ n) ≡ positions m δ
numbers_to_length m δ zero = length_table (positions m δ) _
numbers_to_length m δ (suc n) = length_table (positions m δ) (numbered_by m δ (suc n) (numbers_to m δ n))

-- what surely leads below depends on the numbers at the positions alone
surely_same : (m : Meaning) (δ : Prog) (N M : List ℕ) (n p a : ℕ) → Lawful m →
    ((q : ℕ) → q < positions m δ → get_or N q no_number ≡ get_or M q no_number) → surely_below m δ N n p a ≡ true → surely_below m δ M n p a ≡ true
surely_same m δ N M n p a law same h =
    let (u, k) = surely_parts m δ N n p a law h in
    surely_from m δ M n p a law u
    (λ e x. let (q, l, i, b) = k e x in (q, l, subst (λ j. j < n) (same q i) b))

-- a position with a number above 0 has an act that surely leads below it
number_act : (m : Meaning) → Lawful m → (δ : Prog) → positions m δ ≤ most_positions → (p n : ℕ) → p < positions m δ →
    get_or (numbers m δ) p no_number ≡ suc n → suc n < no_number → surely_below m δ (numbers m δ) (suc n) p (first_act m δ (numbers m δ) p (suc n)) ≡ true
number_act m law δ few p n h e l =
    elim (numbers_are_least m law δ few p h) [
      | inr (x, _) ↦ absurd (omega arith)
      | inl (_, _, w, least) ↦
          elim (subst (λ j. Within m δ j p) e w) [
            | inl s ↦ let z = least 0 s in absurd (omega arith)
            | inr (a, u, k) ↦
                let s : surely_below m δ (numbers m δ) (suc n) p a ≡ true =
                surely_from m δ (numbers m δ) (suc n) p a law u
                (λ y x.
                let (q, f, v) = k y x in (
                  q,
                  f,
                  elim (numbers_are_least m law δ few q (lead_in m law δ p a y q x f)) [
                    | inl (_, _, _, lq) ↦ let z = lq n v in omega arith
                    | inr (_, never) ↦ absurd (never n v)
                  ],
                )) in
                found a (usable_acts m law δ p a u) s (lowest m.acts (surely_below m δ (numbers m δ) (suc n) p)) refl
          ]
    ]
  where
    found : (a : ℕ) → a < m.acts → surely_below m δ (numbers m δ) (suc n) p a ≡ true → (x : Option ℕ) →
        lowest m.acts (surely_below m δ (numbers m δ) (suc n) p) ≡ x → surely_below m δ (numbers m δ) (suc n) p (act_or_none x) ≡ true
    found a i s none y = absurd (both_ways _ (lowest_none m.acts (surely_below m δ (numbers m δ) (suc n) p) y a i) s)
    found a i s (some b) y = (lowest_some m.acts (surely_below m δ (numbers m δ) (suc n) p) b y).1

-- make's act at a position, by its number
module _ (m : Meaning) (δ : Prog) (p : ℕ) (h : p < positions m δ) where
  act_here : ℕ
  act_here = get_or (acts m δ) p no_act

  number_here : ℕ
  number_here = get_or (numbers m δ) p no_number

  act_by : (b : Bool) → eqb number_here 0 || eqb number_here no_number ≡ b →
      act_here ≡ elim b [ true ↦ no_act | false ↦ first_act m δ (numbers m δ) p number_here ]
  unfolding act_here number_here
  act_by b e =
      let g : Bool → ℕ = λ b. elim b [ true ↦ no_act | false ↦ first_act m δ (numbers m δ) p number_here ] in
      getD_table (positions m δ)
      (λ p. let n = get_or (numbers m δ) p no_number in elim (eqb n 0 || eqb n no_number) [ true ↦ no_act | false ↦ first_act m δ (numbers m δ) p n ]) p no_act h
      ∙ ap g e

-- a row that is true
stop_true : (m : Meaning) (δ : Prog) (N : List ℕ) (p v a : ℕ) → v ≡ 0 → a ≡ no_act → may_stop m δ p ≡ true → true_row m δ N p (record { number = v; act = a }) ≡ true
stop_true m δ N p v a x y s =
    and_from (ltb v number_bound) ((eqb v 0 && (eqb a no_act && may_stop m δ p)) || surely_below m δ N v p a) (lt-ltb v number_bound (omega arith))
    (or_left (eqb v 0 && (eqb a no_act && may_stop m δ p)) (surely_below m δ N v p a)
    (and_from (eqb v 0) (eqb a no_act && may_stop m δ p) (eq-eqb v 0 x) (and_from (eqb a no_act) (may_stop m δ p) (eq-eqb a no_act y) s)))

act_true : (m : Meaning) (δ : Prog) (N : List ℕ) (p v a : ℕ) → v < number_bound → surely_below m δ N v p a ≡ true → true_row m δ N p (record { number = v; act = a }) ≡ true
act_true m δ N p v a l s =
    and_from (ltb v number_bound) ((eqb v 0 && (eqb a no_act && may_stop m δ p)) || surely_below m δ N v p a) (lt-ltb v number_bound l)
    (or_right (eqb v 0 && (eqb a no_act && may_stop m δ p)) (surely_below m δ N v p a) s)

row_at : (m : Meaning) (δ : Prog) (N A : List ℕ) (p v a : ℕ) → number_at m δ N p ≡ v → get_or A p no_act ≡ a → v < no_number →
    row m δ N A p ≡ some (record { number = v; act = a })
row_at m δ N A p v a e f l =
    cond-false (eqb (number_at m δ N p) no_number) none (some (record { number = number_at m δ N p; act = get_or A p no_act }))
    (ne_eqb (number_at m δ N p) no_number (λ x. omega arith))
    ∙ (ap (λ i. some (record { number = i; act = get_or A p no_act })) e ∙ ap (λ i. some (record { number = v; act = i })) f)

no_row_at : (m : Meaning) (δ : Prog) (N A : List ℕ) (p : ℕ) → number_at m δ N p ≡ no_number → row m δ N A p ≡ none
no_row_at m δ N A p e =
    cond-true (eqb (number_at m δ N p) no_number) none (some (record { number = number_at m δ N p; act = get_or A p no_act }))
    (eq-eqb (number_at m δ N p) no_number e)

-- the tables that make leaves
module _ (m : Meaning) (law : Lawful m) (live : Live m) (δ : Prog) (few : positions m δ ≤ most_positions) (M B : List ℕ) where
  N' : List ℕ
  N' = numbers m δ ++ M

  A' : List ℕ
  A' = acts m δ ++ B

  same_number : (p : ℕ) → p < positions m δ → get_or (numbers m δ) p no_number ≡ get_or N' p no_number
  unfolding N'
  same_number p h =
      let l = numbers_to_length m δ (positions m δ) in
      sym (get_or_append_left (numbers m δ) M no_number p (omega arith))

  same_act : (p : ℕ) → p < positions m δ → get_or A' p no_act ≡ get_or (acts m δ) p no_act
  unfolding A'
  same_act p h =
      let l : length (acts m δ) ≡ positions m δ = length_table (positions m δ) _ in
      get_or_append_left (acts m δ) B no_act p (omega arith)

  number_there : (p : ℕ) → p < positions m δ → number_at m δ N' p ≡ get_or (numbers m δ) p no_number
  number_there p h = number_in m δ N' p h ∙ sym (same_number p h)

  sound_there : (p : ℕ) → p < positions m δ → sound_row m δ N' p (row m δ N' A' p) ≡ true
  unfolding act_here number_here
  sound_there p h =
      let v : ℕ = get_or (numbers m δ) p no_number in
      elim (numbers_are_least m law δ few p h) [
        | inr (x, _) ↦ ap (sound_row m δ N' p) (no_row_at m δ N' A' p (number_there p h ∙ x))
        | inl (b, lv, w, least) ↦
            let below = lv live in
            by_number v refl below w
      ]
    where
      by_number : (n : ℕ) → get_or (numbers m δ) p no_number ≡ n → get_or (numbers m δ) p no_number < positions m δ →
          Within m δ (get_or (numbers m δ) p no_number) p → sound_row m δ N' p (row m δ N' A' p) ≡ true
      by_number zero e l w =
          let f : get_or A' p no_act ≡ no_act =
          same_act p h ∙ act_by m δ p h true (or_left (eqb (get_or (numbers m δ) p no_number) 0) (eqb (get_or (numbers m δ) p no_number) no_number) (eq-eqb (get_or (numbers m δ) p no_number) 0 e)) in
          ap (sound_row m δ N' p) (row_at m δ N' A' p 0 no_act (number_there p h ∙ e) f (omega arith))
          ∙ stop_true m δ N' p 0 no_act refl refl (subst (λ j. Within m δ j p) e w)
      by_number (suc n) e l w =
          let a : ℕ = first_act m δ (numbers m δ) p (suc n) in
          let f : get_or A' p no_act ≡ a =
          same_act p h
          ∙ (act_by m δ p h false
          (or_from (eqb (get_or (numbers m δ) p no_number) 0) (eqb (get_or (numbers m δ) p no_number) no_number)
          (ne_eqb (get_or (numbers m δ) p no_number) 0 (λ x. omega arith)) (ne_eqb (get_or (numbers m δ) p no_number) no_number (λ x. omega arith)))
          ∙ ap (first_act m δ (numbers m δ) p) e) in
          ap (sound_row m δ N' p) (row_at m δ N' A' p (suc n) a (number_there p h ∙ e) f (omega arith))
          ∙ act_true m δ N' p (suc n) a (omega arith)
          (surely_same m δ (numbers m δ) N' (suc n) p a law same_number (number_act m law δ few p n h e (omega arith)))

  has_first : get_or (numbers m δ) (first_position m) no_number < no_number → has_row (row m δ N' A' (first_position m)) ≡ true
  has_first l =
      ap has_row (row_at m δ N' A' (first_position m) (get_or (numbers m δ) (first_position m) no_number) _ (number_there (first_position m) (first_in m law δ)) refl l)

  accepted_there : get_or (numbers m δ) (first_position m) no_number < no_number → Accepts m δ N' A'
  unfolding N' A'
  accepted_there l =
      let a = numbers_to_length m δ (positions m δ) in
      let b : length (acts m δ) ≡ positions m δ = length_table (positions m δ) _ in
      let c = length-append (numbers m δ) M in
      let d = length-append (acts m δ) B in (
        and_from (leb (positions m δ) most_positions) (leb (positions m δ) (length N') && leb (positions m δ) (length A')) (le-leb (positions m δ) most_positions few)
            (and_from (leb (positions m δ) (length N')) (leb (positions m δ) (length A')) (le-leb (positions m δ) (length N') (omega arith))
            (le-leb (positions m δ) (length A') (omega arith))),
        has_first l,
        sound_there,
      )

pub made_is_accepted : MadeIsAccepted
unfolding N' A'
made_is_accepted m law live δ N A n r e = go (fits m δ (length N) (length A)) refl
  where
    goal : List ℕ × List ℕ → Type 0
    goal T = Accepts m δ T.0 T.1 × (number_at m δ T.0 (first_position m) ≡ n)

    go : (b : Bool) → fits m δ (length N) (length A) ≡ b → goal (tables_after m δ N A)
    go true f =
        let few = fits_few m δ (length N) (length A) f in
        let g : Bool → List ℕ × List ℕ =
        λ b. elim b [ true ↦ (numbers m δ ++ drop (positions m δ) N, acts m δ ++ drop (positions m δ) A) | false ↦ (N, A) ] in
        let t : goal (g true) =
        elim (cases_eq (first_number m δ) no_number) [
          | inl x ↦
              let y = sym (made_none m δ (length N) (length A) f x) ∙ e in
              let z : ◌≡◌ {A = ℕ} 0 1 = cc in
              absurd (omega arith)
          | inr x ↦
              elim (numbers_are_least m law δ few (first_position m) (first_in m law δ)) [
                | inr (y, _) ↦ absurd (x y)
                | inl (b, _, _, _) ↦
                    let y = sym (made_some m δ (length N) (length A) f (omega arith)) ∙ e in
                    let z : first_number m δ ≡ n = cc in (
                      accepted_there m law live δ few (drop (positions m δ) N) (drop (positions m δ) A) (omega arith),
                      number_there m law live δ few (drop (positions m δ) N) (drop (positions m δ) A) (first_position m) (first_in m law δ) ∙ z,
                    )
              ]
        ] in
        subst (λ b. goal (g b)) (sym f) t
    go false f =
        let g : Bool → Made = λ b. elim b [ true ↦ made_from m (numbers m δ) | false ↦ oversize (positions m δ) ] in
        let y = sym (ap g f) ∙ e in
        let z : ◌≡◌ {A = ℕ} 0 1 = cc in
        absurd (omega arith)
