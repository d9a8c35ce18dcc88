-- Make's numbers are the least within which one can surely come to stop.
use Rattle.std.proofs.Common.{◌≡◌, ℕ, zero, suc, ◌+◌, ◌-◌, ◌<◌, ◌≤◌, Bool, true, false, cond, not, ◌&&◌, ◌||◌, eqb, ltb, ◌⊎◌, List, [], ◌∷◌, length, get_or, sym, refl, ap, ◌∙◌, subst, inl, inr, arith}
use mathlib.Core.Option.{Option, none, some}
use lib.Arith.{digits_lt}
use Rattle.std.proofs.lemmas.Bool.{cases_Bool, cases_lt, cases_eq, and_parts, and_from, or_cases, or_left, or_right, not_from_false, not-true, eq-eqb, ne_eqb, ltb-true, lt-ltb, cond-true, cond-false, both_ways}
use Rattle.locks.specs.Meaning.{Meaning, Lawful, Live, reactions, any_below}
use Rattle.golog.specs.Search.{all_below, lowest, table_from}
use Rattle.golog.specs.Programs.{Prog}
use Rattle.golog.specs.Points.{points, goes_on}
use Rattle.golog.specs.Positions.{positions, position, state_of, may_stop, next_by, usable, Lead, lead_to, lead}
use Rattle.golog.specs.Positions.Lead.{to, lost}
use Rattle.golog.specs.Sheets.{no_number, most_positions, number_at, lead_below, surely_below, Within, numbered_by, numbers_to, row_count, NumbersAreLeast}
use Rattle.golog.proofs.Searches.{any_found, any_from, all_found, all_from, lowest_some, getD_table, length_table, table_from_same}

-- a reaction leads to a position
pub lead_found : (m : Meaning) (s : ℕ) (x : Option ℕ) (q : ℕ) → lead_to m s x ≡ to q → (k : ℕ) × (x ≡ some k) × (position m k s ≡ q)
lead_found m s none q e = let z : ◌≡◌ {A = ℕ} 0 1 = cc in absurd (omega arith)
lead_found m s (some k) q e = (k, refl, cc)

module _ (m : Meaning) (law : Lawful m) (δ : Prog) where
  pub lead_in : (p a e q : ℕ) → m.possible (state_of m p) a e ≡ true → lead m δ p a e ≡ to q → q < positions m δ
  lead_in p a e q h f =
      let s : ℕ = m.after (state_of m p) a e in
      let t : ℕ → Bool = λ k. next_by m δ p a k && goes_on δ (m.holds s) k in
      let (k, x, y) = lead_found m s (lowest (points δ) t) q f in
      let (l, _, _) = lowest_some (points δ) t k x in
      subst (λ j. j < positions m δ) y (digits_lt l (law.after_below (state_of m p) a e h))

  pub usable_acts : (p a : ℕ) → usable m δ p a ≡ true → a < m.acts
  usable_acts p a h = (law.allowed_within (state_of m p) a (and_parts (m.allowed (state_of m p) a) (any_below (points δ) (next_by m δ p a)) h).0).1

-- within more steps
pub within_more : (m : Meaning) (δ : Prog) (n p : ℕ) → Within m δ n p → Within m δ (suc n) p
within_more m δ zero p h = inl h
within_more m δ (suc n) p (inl h) = inl h
within_more m δ (suc n) p (inr (a, u, h)) =
    inr (a, u, λ e x. let (q, l, w) = h e x in (q, l, within_more m δ n q w))

within_plus : (m : Meaning) (δ : Prog) (d n p : ℕ) → Within m δ n p → (k : ℕ) → k ≡ d + n → Within m δ k p
within_plus m δ zero n p h k e = subst (λ j. Within m δ j p) (omega arith) h
within_plus m δ (suc d) n p h zero e = absurd (omega arith)
within_plus m δ (suc d) n p h (suc k) e = within_more m δ k p (within_plus m δ d n p h k (omega arith))

pub within_le : (m : Meaning) (δ : Prog) (n k p : ℕ) → n ≤ k → Within m δ n p → Within m δ k p
within_le m δ n k p l h = within_plus m δ (k - n) n p h k (omega arith)

pub within_stop : (m : Meaning) (δ : Prog) (n p : ℕ) → may_stop m δ p ≡ true → Within m δ n p
within_stop m δ n p h = within_le m δ 0 n p (omega arith) h

-- the number at a position, looked up
pub number_in : (m : Meaning) (δ : Prog) (N : List ℕ) (q : ℕ) → q < positions m δ → number_at m δ N q ≡ get_or N q no_number
number_in m δ N q h = cond-true (ltb q (positions m δ)) (get_or N q no_number) no_number (lt-ltb q (positions m δ) h)

below_found : (m : Meaning) (δ : Prog) (N : List ℕ) (n : ℕ) (x : Lead) → lead_below m δ N n x ≡ true →
    (q : ℕ) × (x ≡ to q) × (number_at m δ N q < n)
below_found m δ N n (to q) e = (q, refl, ltb-true (number_at m δ N q) n e)
below_found m δ N n lost e = absurd (both_ways false refl e)

-- whether a reaction is impossible or leads below
abbrev leads_well : Meaning → Prog → List ℕ → ℕ → ℕ → ℕ → ℕ → Bool
leads_well m δ N n p a e = not (m.possible (state_of m p) a e) || lead_below m δ N n (lead m δ p a e)

-- what surely leads below, taken apart and put together
pub surely_parts : (m : Meaning) (δ : Prog) (N : List ℕ) (n p a : ℕ) → Lawful m → surely_below m δ N n p a ≡ true →
    (usable m δ p a ≡ true)
    × ((e : ℕ) → m.possible (state_of m p) a e ≡ true → (q : ℕ) × (lead m δ p a e ≡ to q) × (q < positions m δ) × (get_or N q no_number < n))
surely_parts m δ N n p a law h =
    let (u, r) = and_parts (usable m δ p a) (all_below reactions (leads_well m δ N n p a)) h in (
      u,
      λ e x.
          let t = all_found reactions (leads_well m δ N n p a) e (law.possible_within (state_of m p) a e x) r in
          elim (or_cases (not (m.possible (state_of m p) a e)) (lead_below m δ N n (lead m δ p a e)) t) [
            | inl y ↦ absurd (both_ways (m.possible (state_of m p) a e) (not-true (m.possible (state_of m p) a e) y) x)
            | inr y ↦
                let (q, l, b) = below_found m δ N n (lead m δ p a e) y in
                let k = lead_in m law δ p a e q x l in
                (q, l, k, subst (λ j. j < n) (number_in m δ N q k) b)
          ],
    )

pub surely_from : (m : Meaning) (δ : Prog) (N : List ℕ) (n p a : ℕ) → Lawful m → usable m δ p a ≡ true →
    ((e : ℕ) → m.possible (state_of m p) a e ≡ true → (q : ℕ) × (lead m δ p a e ≡ to q) × (get_or N q no_number < n)) → surely_below m δ N n p a ≡ true
surely_from m δ N n p a law u h =
    and_from (usable m δ p a) (all_below reactions (leads_well m δ N n p a)) u
    (all_from reactions (leads_well m δ N n p a)
    (λ e _.
    elim (cases_Bool (m.possible (state_of m p) a e)) [
      | inl x ↦
          let (q, l, b) = h e x in
          let c : number_at m δ N q < n = subst (λ j. j < n) (sym (number_in m δ N q (lead_in m law δ p a e q x l))) b in
          or_right (not (m.possible (state_of m p) a e)) (lead_below m δ N n (lead m δ p a e))
          (subst (λ y. lead_below m δ N n y ≡ true) (sym l) (lt-ltb (number_at m δ N q) n c))
      | inr x ↦ or_left (not (m.possible (state_of m p) a e)) (lead_below m δ N n (lead m δ p a e)) (not_from_false (m.possible (state_of m p) a e) x)
    ]))

-- the number at a position after the rounds up to n
abbrev at : Meaning → Prog → ℕ → ℕ → ℕ
at m δ n p = get_or (numbers_to m δ n) p no_number

module _ (m : Meaning) (law : Lawful m) (δ : Prog) where
  at_zero : (p : ℕ) → p < positions m δ → at m δ 0 p ≡ cond (may_stop m δ p) 0 no_number
  at_zero p h = getD_table (positions m δ) (λ q. cond (may_stop m δ q) 0 no_number) p no_number h

  at_suc : (n p : ℕ) → p < positions m δ → at m δ (suc n) p ≡ numbered_by m δ (suc n) (numbers_to m δ n) p
  at_suc n p h = getD_table (positions m δ) (numbered_by m δ (suc n) (numbers_to m δ n)) p no_number h

  by_cases : (n : ℕ) (N : List ℕ) (p : ℕ) (b : Bool) → eqb (get_or N p no_number) no_number ≡ b →
      numbered_by m δ n N p ≡ elim b [ true ↦ cond (any_below m.acts (surely_below m δ N n p)) n no_number | false ↦ get_or N p no_number ]
  by_cases n N p b e =
      let g : Bool → ℕ = λ b. elim b [ true ↦ cond (any_below m.acts (surely_below m δ N n p)) n no_number | false ↦ get_or N p no_number ] in
      ap g e

  -- a row stays
  at_stays : (n p : ℕ) → p < positions m δ → (at m δ n p ≡ no_number → ⊥) → at m δ (suc n) p ≡ at m δ n p
  at_stays n p h f = at_suc n p h ∙ by_cases (suc n) (numbers_to m δ n) p false (ne_eqb (at m δ n p) no_number f)

  at_new : (n p : ℕ) → p < positions m δ → at m δ n p ≡ no_number →
      at m δ (suc n) p ≡ cond (any_below m.acts (surely_below m δ (numbers_to m δ n) (suc n) p)) (suc n) no_number
  at_new n p h f = at_suc n p h ∙ by_cases (suc n) (numbers_to m δ n) p true (eq-eqb (at m δ n p) no_number f)

  -- a row's number is at most that of its round
  at_bound : (n p : ℕ) → p < positions m δ → (at m δ n p ≤ n) ⊎ (at m δ n p ≡ no_number)
  at_bound zero p h =
      elim (cases_Bool (may_stop m δ p)) [
        | inl x ↦ let e = at_zero p h ∙ cond-true (may_stop m δ p) 0 no_number x in inl (omega arith)
        | inr x ↦ inr (at_zero p h ∙ cond-false (may_stop m δ p) 0 no_number x)
      ]
  at_bound (suc n) p h =
      elim (cases_eq (at m δ n p) no_number) [
        | inl x ↦
            let b : Bool = any_below m.acts (surely_below m δ (numbers_to m δ n) (suc n) p) in
            elim (cases_Bool b) [
              | inl y ↦ let e = at_new n p h x ∙ cond-true b (suc n) no_number y in inl (omega arith)
              | inr y ↦ inr (at_new n p h x ∙ cond-false b (suc n) no_number y)
            ]
        | inr x ↦
            elim (at_bound n p h) [
              | inl y ↦ let e = at_stays n p h x in inl (omega arith)
              | inr y ↦ absurd (x y)
            ]
      ]

  -- within n there is a row after n rounds
  within_row : (n p : ℕ) → n < no_number → p < positions m δ → Within m δ n p → at m δ n p ≤ n
  within_row zero p l h w = let e = at_zero p h ∙ cond-true (may_stop m δ p) 0 no_number w in omega arith
  within_row (suc n) p l h w =
      elim (cases_eq (at m δ n p) no_number) [
        | inr x ↦
            elim (at_bound n p h) [
              | inl y ↦ let e = at_stays n p h x in omega arith
              | inr y ↦ absurd (x y)
            ]
        | inl x ↦
            elim w [
              | inl y ↦ let z = within_row n p (omega arith) h (within_stop m δ n p y) in absurd (omega arith)
              | inr (a, u, k) ↦
                  let t : ℕ → Bool = surely_below m δ (numbers_to m δ n) (suc n) p in
                  let s : surely_below m δ (numbers_to m δ n) (suc n) p a ≡ true =
                  surely_from m δ (numbers_to m δ n) (suc n) p a law u
                  (λ e y.
                  let (q, f, v) = k e y in
                  let z = within_row n q (omega arith) (lead_in m law δ p a e q y f) v in
                  (q, f, omega arith)) in
                  let e = at_new n p h x ∙ cond-true (any_below m.acts t) (suc n) no_number (any_from m.acts t a (usable_acts m law δ p a u) s) in
                  omega arith
            ]
      ]

  -- a row's number is a number of steps within which one can surely come to stop, and the least
  row_within : (n p : ℕ) → n < no_number → p < positions m δ → at m δ n p < no_number →
      Within m δ (at m δ n p) p × ((k : ℕ) → Within m δ k p → at m δ n p ≤ k)
  row_within zero p l h r =
      elim (cases_Bool (may_stop m δ p)) [
        | inl x ↦
            let e = at_zero p h ∙ cond-true (may_stop m δ p) 0 no_number x in
            (subst (λ j. Within m δ j p) (sym e) x, λ k _. omega arith)
        | inr x ↦ let e = at_zero p h ∙ cond-false (may_stop m δ p) 0 no_number x in absurd (omega arith)
      ]
  row_within (suc n) p l h r =
      elim (cases_eq (at m δ n p) no_number) [
        | inr x ↦
            let e = at_stays n p h x in
            let (v, f) = row_within n p (omega arith) h (omega arith) in
            (subst (λ j. Within m δ j p) (sym e) v, λ k w. let z = f k w in omega arith)
        | inl x ↦
            let t : ℕ → Bool = surely_below m δ (numbers_to m δ n) (suc n) p in
            elim (cases_Bool (any_below m.acts t)) [
              | inr y ↦ let e = at_new n p h x ∙ cond-false (any_below m.acts t) (suc n) no_number y in absurd (omega arith)
              | inl y ↦
                  let e = at_new n p h x ∙ cond-true (any_below m.acts t) (suc n) no_number y in
                  let (a, i, s) = any_found m.acts t y in
                  let (u, k) = surely_parts m δ (numbers_to m δ n) (suc n) p a law s in
                  let w : Within m δ (suc n) p =
                  inr (
                    a,
                    u,
                    λ z o.
                        let (q, f, j, b) = k z o in
                        let (v, _) = row_within n q (omega arith) j (omega arith) in
                        (q, f, within_le m δ (at m δ n q) n q (omega arith) v),
                  ) in (
                    subst (λ j. Within m δ j p) (sym e) w,
                    λ j v.
                        elim (cases_lt n j) [
                          | inl c ↦ omega arith
                          | inr c ↦ let d = within_row n p (omega arith) h (within_le m δ j n p c v) in absurd (omega arith)
                        ],
                  )
            ]
      ]

  -- a row stays for ever
  at_keeps : (d r p k : ℕ) → k ≡ d + r → p < positions m δ → at m δ r p < no_number → at m δ k p ≡ at m δ r p
  at_keeps zero r p k e h l = ap (λ j. at m δ j p) (omega arith)
  at_keeps (suc d) r p zero e h l = absurd (omega arith)
  at_keeps (suc d) r p (suc k) e h l =
      let f = at_keeps d r p k (omega arith) h l in
      at_stays k p h (λ g. omega arith) ∙ f

  -- a round that adds no row
  Still : ℕ → Type 0
  Still n = (p : ℕ) → p < positions m δ → at m δ (suc n) p ≡ at m δ n p

  -- after a round that adds no row, every position from which one can surely come to stop has one
  still_closed : (n : ℕ) → suc n < no_number → Still n → (k p : ℕ) → p < positions m δ → Within m δ k p → at m δ n p < no_number
  unfolding Still
  still_closed n l s zero p h w = let z = within_row n p (omega arith) h (within_stop m δ n p w) in omega arith
  still_closed n l s (suc k) p h w =
      elim w [
        | inl x ↦ let z = within_row n p (omega arith) h (within_stop m δ n p x) in omega arith
        | inr (a, u, f) ↦
            elim (cases_eq (at m δ n p) no_number) [
              | inr x ↦ elim (at_bound n p h) [ inl y ↦ omega arith | inr y ↦ absurd (x y) ]
              | inl x ↦
                  let t : ℕ → Bool = surely_below m δ (numbers_to m δ n) (suc n) p in
                  let b : surely_below m δ (numbers_to m δ n) (suc n) p a ≡ true =
                  surely_from m δ (numbers_to m δ n) (suc n) p a law u
                  (λ e y.
                  let (q, g, v) = f e y in
                  let i = lead_in m law δ p a e q y g in
                  let z = still_closed n l s k q i v in
                  (q, g, elim (at_bound n q i) [ inl c ↦ omega arith | inr c ↦ absurd (omega arith) ])) in
                  let e = at_new n p h x ∙ cond-true (any_below m.acts t) (suc n) no_number (any_from m.acts t a (usable_acts m law δ p a u) b) in
                  let g = s p h in
                  absurd (omega arith)
            ]
      ]

-- counting rows
row_none : (n : ℕ) (N : List ℕ) → n ≡ no_number → row_count (n ∷ N) ≡ row_count N
row_none n N e = cond-true (eqb n no_number) (row_count N) (suc (row_count N)) (eq-eqb n no_number e)

row_some : (n : ℕ) (N : List ℕ) → (n ≡ no_number → ⊥) → row_count (n ∷ N) ≡ suc (row_count N)
row_some n N e = cond-false (eqb n no_number) (row_count N) (suc (row_count N)) (ne_eqb n no_number e)

row_count_bound : (N : List ℕ) → row_count N ≤ length N
row_count_bound [] = omega arith
row_count_bound (n ∷ N) =
    let b = row_count_bound N in
    elim (cases_eq n no_number) [
      | inl x ↦ let e = row_none n N x in omega arith
      | inr x ↦ let e = row_some n N x in omega arith
    ]

row_count_some : (k n : ℕ) (f : ℕ → ℕ) (p : ℕ) → k ≤ p → p < k + n → (f p ≡ no_number → ⊥) → 1 ≤ row_count (table_from k n f)
row_count_some k zero f p a b x = absurd (omega arith)
row_count_some k (suc n) f p a b x =
    elim (cases_eq (f k) no_number) [
      | inr y ↦ let e = row_some (f k) (table_from (suc k) n f) y in omega arith
      | inl y ↦
          let e = row_none (f k) (table_from (suc k) n f) y in
          elim (cases_eq k p) [
            | inl z ↦ absurd (x (subst (λ j. f j ≡ no_number) z y))
            | inr z ↦ let r = row_count_some (suc k) n f p (omega arith) (omega arith) x in omega arith
          ]
    ]

-- a table that keeps the rows of another has more of them, or is the same
abbrev More : ℕ → ℕ → (ℕ → ℕ) → (ℕ → ℕ) → Type 0
More k n f g =
    (((p : ℕ) → k ≤ p → p < k + n → g p ≡ f p) × (row_count (table_from k n g) ≡ row_count (table_from k n f)))
    ⊎ (row_count (table_from k n f) < row_count (table_from k n g))

more_head : (k n : ℕ) (f g : ℕ → ℕ) → (f k ≡ no_number) ⊎ (g k ≡ f k) → More (suc k) n f g → More k (suc n) f g
more_head k n f g h rest =
    elim (cases_eq (f k) no_number) [
      | inr x ↦
          elim h [
            | inl y ↦ absurd (x y)
            | inr y ↦
                let e = row_some (f k) (table_from (suc k) n f) x in
                let d = row_some (g k) (table_from (suc k) n g) (λ z. x (sym y ∙ z)) in
                elim rest [
                  | inl (s, c) ↦ inl (here y s, omega arith)
                  | inr c ↦ inr (omega arith)
                ]
          ]
      | inl x ↦
          let e = row_none (f k) (table_from (suc k) n f) x in
          elim (cases_eq (g k) no_number) [
            | inl y ↦
                let d = row_none (g k) (table_from (suc k) n g) y in
                elim rest [
                  | inl (s, c) ↦ inl (here (y ∙ sym x) s, omega arith)
                  | inr c ↦ inr (omega arith)
                ]
            | inr y ↦
                let d = row_some (g k) (table_from (suc k) n g) y in
                elim rest [ inl (s, c) ↦ inr (omega arith) | inr c ↦ inr (omega arith) ]
          ]
    ]
  where
    here : g k ≡ f k → ((p : ℕ) → suc k ≤ p → p < suc k + n → g p ≡ f p) → (p : ℕ) → k ≤ p → p < k + suc n → g p ≡ f p
    here e s p a b = elim (cases_eq k p) [ inl x ↦ subst (λ j. g j ≡ f j) x e | inr x ↦ s p (omega arith) (omega arith) ]

more_rows : (k n : ℕ) (f g : ℕ → ℕ) → ((p : ℕ) → k ≤ p → p < k + n → (f p ≡ no_number) ⊎ (g p ≡ f p)) → More k n f g
more_rows k zero f g h = inl (λ p a b. absurd (omega arith), refl)
more_rows k (suc n) f g h =
    more_head k n f g (h k (omega arith) (omega arith)) (more_rows (suc k) n f g (λ p a b. h p (omega arith) (omega arith)))

module _ (m : Meaning) (law : Lawful m) (δ : Prog) where
  -- the rows after the rounds up to n
  rows : ℕ → ℕ
  rows n = row_count (numbers_to m δ n)

  rows_table : (n : ℕ) → rows n ≡ row_count (table_from 0 (positions m δ) (at m δ n))
  unfolding rows
  rows_table zero =
      ap row_count
      (table_from_same 0 (positions m δ) (λ q. cond (may_stop m δ q) 0 no_number) (at m δ 0) (λ p a b. sym (at_zero m law δ p (omega arith))))
  rows_table (suc n) =
      ap row_count
      (table_from_same 0 (positions m δ) (numbered_by m δ (suc n) (numbers_to m δ n)) (at m δ (suc n)) (λ p a b. sym (at_suc m law δ n p (omega arith))))

  rows_bound : (n : ℕ) → rows n ≤ positions m δ
  rows_bound n =
      let e = rows_table n in
      let b = row_count_bound (table_from 0 (positions m δ) (at m δ n)) in
      let l = length_table (positions m δ) (at m δ n) in
      omega arith

  -- a round adds a row, or none
  progress : (n : ℕ) → Still m law δ n ⊎ (rows n < rows (suc n))
  unfolding Still
  progress n =
      elim (more_rows 0 (positions m δ) (at m δ n) (at m δ (suc n))
      (λ p a b. elim (cases_eq (at m δ n p) no_number) [ inl x ↦ inl x | inr x ↦ inr (at_stays m law δ n p (omega arith) x) ])) [
        | inl (s, c) ↦ inl (λ p h. s p (omega arith) (omega arith))
        | inr c ↦ let d = rows_table n in let e = rows_table (suc n) in inr (omega arith)
      ]

  -- before n rounds one added none, or each added a row
  search_still : (n : ℕ) → ((r : ℕ) × (r < n) × Still m law δ r) ⊎ (n + rows 0 ≤ rows n)
  search_still zero = inr (omega arith)
  search_still (suc n) =
      elim (search_still n) [
        | inl (r, l, s) ↦ inl (r, omega arith, s)
        | inr x ↦ elim (progress n) [ inl s ↦ inl (n, omega arith, s) | inr y ↦ inr (omega arith) ]
      ]

  -- if each allowed act has a reaction, one comes to stop somewhere
  some_stop : Live m → (n p : ℕ) → p < positions m δ → Within m δ n p → (q : ℕ) × (q < positions m δ) × (may_stop m δ q ≡ true)
  some_stop live zero p h w = (p, h, w)
  some_stop live (suc n) p h (inl w) = (p, h, w)
  some_stop live (suc n) p h (inr (a, u, k)) =
      let al = (and_parts (m.allowed (state_of m p) a) (any_below (points δ) (next_by m δ p a)) u).0 in
      let (e, _, x) = any_found reactions (m.possible (state_of m p) a) (live (state_of m p) a al) in
      let (q, l, w) = k e x in
      some_stop live n q (lead_in m law δ p a e q x l) w

  stop_row : (q : ℕ) → q < positions m δ → may_stop m δ q ≡ true → 1 ≤ rows 0
  stop_row q h s =
      let e = at_zero m law δ q h ∙ cond-true (may_stop m δ q) 0 no_number s in
      let r = row_count_some 0 (positions m δ) (at m δ 0) q (omega arith) (omega arith) (λ x. omega arith) in
      let d = rows_table 0 in
      omega arith

  -- a number is below the count of positions
  number_below : positions m δ ≤ most_positions → Live m → (p : ℕ) → p < positions m δ →
      at m δ (positions m δ) p < no_number → at m δ (positions m δ) p < positions m δ
  number_below few live p h l =
      let n : ℕ = at m δ (positions m δ) p in
      let (w, least) = row_within m law δ (positions m δ) p (omega arith) h l in
      let (q, i, s) = some_stop live n p h w in
      let one = stop_row q i s in
      let b = rows_bound n in
      elim (search_still n) [
        | inr x ↦ omega arith
        | inl (r, k, s) ↦
            let c : n ≤ positions m δ = elim (at_bound m law δ (positions m δ) p h) [ inl y ↦ y | inr y ↦ absurd (omega arith) ] in
            let z = still_closed m law δ r (omega arith) s n p h w in
            let e = at_keeps m law δ (positions m δ - r) r p (positions m δ) (omega arith) h z in
            elim (at_bound m law δ r p h) [ inl y ↦ absurd (omega arith) | inr y ↦ absurd (omega arith) ]
      ]

pub numbers_are_least : NumbersAreLeast
numbers_are_least m law δ few p h =
    elim (cases_eq (at m δ (positions m δ) p) no_number) [
      | inr x ↦
          let b : at m δ (positions m δ) p ≤ positions m δ =
          elim (at_bound m law δ (positions m δ) p h) [ inl y ↦ y | inr y ↦ absurd (x y) ] in
          let (w, least) = row_within m law δ (positions m δ) p (omega arith) h (omega arith) in
          inl (b, λ live. number_below m law δ few live p h (omega arith), w, least)
      | inl x ↦
          inr (
            x,
            λ k w.
                elim (search_still m law δ (suc (positions m δ))) [
                  | inr y ↦ let z = rows_bound m law δ (suc (positions m δ)) in omega arith
                  | inl (r, l, s) ↦
                      let z = still_closed m law δ r (omega arith) s k p h w in
                      let e = at_keeps m law δ (positions m δ - r) r p (positions m δ) (omega arith) h z in
                      omega arith
                ],
          )
    ]
