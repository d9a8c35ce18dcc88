-- The plain job on an accepted sheet.
use Rattle.std.proofs.Common.{◌≡◌, ℕ, zero, suc, ◌+◌, ◌<◌, ◌≤◌, Bool, true, false, cond, ◌&&◌, ◌||◌, eqb, ltb, ◌⊎◌, List, [], ◌∷◌, ◌++◌, length, get_or, sym, refl, ap, ◌∙◌, subst, inl, inr, append_assoc, append-nil, zero-add, arith, length-append}
use mathlib.Core.Option.{none, some}
use Rattle.std.proofs.lemmas.Bool.{cases_Bool, cases_eq, and_parts, and_from, or_cases, ltb-true, lt-ltb, eqb-true, eq-eqb, ne_eqb, cond-true, cond-false, both_ways}
use Rattle.locks.specs.Meaning.{Meaning, Lawful, Live, reactions, any_below}
use Rattle.golog.specs.Search.{lowest}
use Rattle.golog.specs.Programs.{Prog, Step, Trans}
use Rattle.golog.specs.Points.{no_act, points, rem, goes_on}
use Rattle.golog.specs.Positions.{positions, point_of, state_of, first_position, facts_at, rem_at, may_stop, next_by, lead}
use Rattle.golog.specs.Positions.Lead.{to}
use Rattle.golog.specs.Standings.{History, ReachesFrom, Reaches}
use Rattle.golog.specs.Sheets.{no_number, number_bound, number_at, surely_below, true_row, sound_row, has_row, Accepts}
use Rattle.golog.specs.Jobs.{Phase, Plain, Call, Answer, standing_at, phase_at, plain_begin, possible_at, moves_to, plain_perform, plain_tell, plain_give_up, plain_call, plain_after, told_by, plain_told, Finishes}
use Rattle.golog.specs.Jobs.Phase.{ready, waiting, finished, given_up}
use Rattle.golog.specs.Jobs.Call.{perform, tell, ask, give_up}
use Rattle.golog.specs.Jobs.JobFault.{impossible}
use Rattle.golog.specs.Jobs.Answer.{taken, refused}
use Rattle.golog.specs.Sureness.{PlainFinishes, Tracks, PlainTracks}
use Rattle.golog.proofs.Searches.{any_found, lowest_some}
use Rattle.golog.proofs.Passing.{first_in}
use Rattle.golog.proofs.Numbers.{lead_found, number_in, surely_parts}
use Rattle.golog.proofs.Choosing.{point_position, state_position, next_by_step, first_standing}

-- one more act and reaction
reaches_more :
    (m : Meaning) (δ : Prog) (s : ℕ) (h : History) (δ₁ : Prog) (s₁ a e : ℕ) (δ₂ : Prog) (s₂ : ℕ) →
    ReachesFrom m δ s h δ₁ s₁ → Trans m δ₁ s₁ a e δ₂ s₂ → ReachesFrom m δ s (h ++ (a, e) ∷ []) δ₂ s₂
reaches_more m δ s [] δ₁ s₁ a e δ₂ s₂ (x, y) t =
    (δ₂, s₂, subst (λ r. Trans m r s a e δ₂ s₂) x (subst (λ r. Trans m δ₁ r a e δ₂ s₂) y t), (refl, refl))
reaches_more m δ s (c ∷ h) δ₁ s₁ a e δ₂ s₂ (δ₀, s₀, t₀, r) t = (δ₀, s₀, t₀, reaches_more m δ₀ s₀ h δ₁ s₁ a e δ₂ s₂ r t)

-- where a possible reaction leads there is a Trans step
pub lead_trans :
    (m : Meaning) → Lawful m → (δ : Prog) (p a e q : ℕ) → m.possible (state_of m p) a e ≡ true → lead m δ p a e ≡ to q →
    Trans m (rem_at m δ p) (state_of m p) a e (rem_at m δ q) (state_of m q)
lead_trans m law δ p a e q x l =
    let s : ℕ = m.after (state_of m p) a e in
    let t : ℕ → Bool = λ k. next_by m δ p a k && goes_on δ (m.holds s) k in
    let (j, lo, po) = lead_found m s (lowest (points δ) t) q l in
    let (_, z, _) = lowest_some (points δ) t j lo in
    let (b, _) = and_parts (next_by m δ p a j) (goes_on δ (m.holds s) j) z in
    let below = law.after_below (state_of m p) a e x in (
      subst (Step (facts_at m p) a (rem_at m δ p)) (ap (rem δ) (sym (ap (point_of m) (sym po) ∙ point_position m j s below))) (next_by_step m δ p a j b),
      x,
      ap (state_of m) (sym po) ∙ state_position m j s below,
    )

-- what a row of an accepted sheet says
row_bound : (m : Meaning) (δ : Prog) (N : List ℕ) (p v a : ℕ) → true_row m δ N p (record { number = v; act = a }) ≡ true → v < number_bound
row_bound m δ N p v a h =
    ltb-true v number_bound (and_parts (ltb v number_bound) ((eqb v 0 && (eqb a no_act && may_stop m δ p)) || surely_below m δ N v p a) h).0

row_says : (m : Meaning) (δ : Prog) (N : List ℕ) (p v a : ℕ) → true_row m δ N p (record { number = v; act = a }) ≡ true →
    ((v ≡ 0) × (may_stop m δ p ≡ true)) ⊎ (surely_below m δ N v p a ≡ true)
row_says m δ N p v a h =
    let (_, r) = and_parts (ltb v number_bound) ((eqb v 0 && (eqb a no_act && may_stop m δ p)) || surely_below m δ N v p a) h in
    elim (or_cases (eqb v 0 && (eqb a no_act && may_stop m δ p)) (surely_below m δ N v p a) r) [
      | inl x ↦
          let (y, z) = and_parts (eqb v 0) (eqb a no_act && may_stop m δ p) x in
          inl (eqb-true v 0 y, (and_parts (eqb a no_act) (may_stop m δ p) z).1)
      | inr x ↦ inr x
    ]

module _ (m : Meaning) (law : Lawful m) (live : Live m) (δ : Prog) (N A : List ℕ) (acc : Accepts m δ N A) where
  row_there : (p : ℕ) → p < positions m δ → (number_at m δ N p ≡ no_number → ⊥) →
      true_row m δ N p (record { number = number_at m δ N p; act = get_or A p no_act }) ≡ true
  row_there p h x =
      let e = cond-false (eqb (number_at m δ N p) no_number) none (some (record { number = number_at m δ N p; act = get_or A p no_act }))
      (ne_eqb (number_at m δ N p) no_number x) in
      subst (λ r. sound_row m δ N p r ≡ true) e (acc.2 p h)

  there : (p : ℕ) → p < positions m δ → number_at m δ N p < no_number →
      ((number_at m δ N p ≡ 0) × (may_stop m δ p ≡ true)) ⊎ (surely_below m δ N (number_at m δ N p) p (get_or A p no_act) ≡ true)
  there p h l = row_says m δ N p (number_at m δ N p) (get_or A p no_act) (row_there p h (λ x. omega arith))

  -- nothing surely leads below 0
  none_below_zero : (p a : ℕ) → surely_below m δ N 0 p a ≡ true → ⊥
  none_below_zero p a h =
      let (u, k) = surely_parts m δ N 0 p a law h in
      let al = (and_parts (m.allowed (state_of m p) a) (any_below (points δ) (next_by m δ p a)) u).0 in
      let (e, _, x) = any_found reactions (m.possible (state_of m p) a) (live (state_of m p) a al) in
      let (q, _, _, b) = k e x in
      omega arith

  -- what holds of the job in each phase
  Stands : Phase → Plain → Type 0
  Stands ready j = j.number ≡ 0 → ⊥
  Stands waiting j = surely_below m δ N j.number j.position j.act ≡ true
  Stands finished j = may_stop m δ j.position ≡ true
  Stands given_up j = Unit {0}

  abbrev Good : Plain → Type 0
  Good j =
      (j.position < positions m δ)
      × (j.number ≡ number_at m δ N j.position)
      × (j.number < no_number)
      × (j.count + j.number ≤ number_at m δ N (first_position m))
      × Stands j.phase j

  -- a job that comes to a position with a row
  good_at : (p c : ℕ) → p < positions m δ → number_at m δ N p < no_number → c + number_at m δ N p ≤ number_at m δ N (first_position m) →
      Good (standing_at m δ N p c)
  unfolding Stands
  good_at p c h l f = (h, refl, l, f, stands (eqb (number_at m δ N p) 0) refl)
    where
      stands : (b : Bool) → eqb (number_at m δ N p) 0 ≡ b → Stands (cond b finished ready) (standing_at m δ N p c)
      stands true e =
          elim (there p h l) [
            | inl (_, s) ↦ s
            | inr s ↦ absurd (none_below_zero p (get_or A p no_act) (subst (λ n. surely_below m δ N n p (get_or A p no_act) ≡ true) (eqb-true (number_at m δ N p) 0 e) s))
          ]
      stands false e = λ x. both_ways (eqb (number_at m δ N p) 0) e (eq-eqb (number_at m δ N p) 0 x)

  begin_good : Good (plain_begin m δ N)
  begin_good =
      let b : number_at m δ N (first_position m) < no_number = first_row (cases_eq (number_at m δ N (first_position m)) no_number) in
      good_at (first_position m) 0 (first_in m law δ) b (omega arith)
    where
      first_row : (number_at m δ N (first_position m) ≡ no_number) ⊎ (number_at m δ N (first_position m) ≡ no_number → ⊥) →
          number_at m δ N (first_position m) < no_number
      first_row (inl x) =
          let e = cond-true (eqb (number_at m δ N (first_position m)) no_number) none
          (some (record { number = number_at m δ N (first_position m); act = get_or A (first_position m) no_act }))
          (eq-eqb (number_at m δ N (first_position m)) no_number x) in
          absurd (both_ways false refl (subst (λ r. has_row r ≡ true) e acc.1))
      first_row (inr x) =
          let b = row_bound m δ N (first_position m) (number_at m δ N (first_position m)) (get_or A (first_position m) no_act)
          (row_there (first_position m) (first_in m law δ) x) in
          omega arith

  -- what a call keeps
  abbrev Kept : Plain → Plain → History → Type 0
  Kept j k t =
      Good k
      × (k.count ≡ j.count + length t)
      × ((h : History) → Reaches m δ h (rem_at m δ j.position) (state_of m j.position) →
      Reaches m δ (h ++ t) (rem_at m δ k.position) (state_of m k.position))

  kept_still : (j k : Plain) → Good k → k.count ≡ j.count → k.position ≡ j.position → Kept j k []
  kept_still j k g c e = (
    g,
    omega arith,
    λ h r.
        subst (λ i. Reaches m δ i (rem_at m δ k.position) (state_of m k.position)) (sym (append-nil h))
        (subst (λ q. Reaches m δ h (rem_at m δ q) (state_of m q)) (sym e) r),
  )

  perform_kept : (j : Plain) → Good j → (f : Phase) → j.phase ≡ f → Kept j (plain_perform m A j f).0 []
  unfolding Stands
  perform_kept j g ready e =
      let (i, n, r, l, s) = g in
      let s' : j.number ≡ 0 → ⊥ = subst (λ f. Stands f j) e s in
      let b : surely_below m δ N j.number j.position (get_or A j.position no_act) ≡ true =
      elim (there j.position i (omega arith)) [
        | inl (x, _) ↦ absurd (s' (n ∙ x))
        | inr x ↦ subst (λ v. surely_below m δ N v j.position (get_or A j.position no_act) ≡ true) (sym n) x
      ] in
      kept_still j (plain_perform m A j ready).0 (i, n, r, l, b) refl refl
  perform_kept j g waiting e = kept_still j j g refl refl
  perform_kept j g finished e = kept_still j j g refl refl
  perform_kept j g given_up e = kept_still j j g refl refl

  -- a tell of a possible reaction
  tell_moves : (j : Plain) → Good j → j.phase ≡ waiting → (e : ℕ) → m.possible (state_of m j.position) j.act e ≡ true →
      Kept j (standing_at m δ N (moves_to j.position (lead m δ j.position j.act e)) (suc j.count)) ((j.act, e) ∷ [])
      × (number_at m δ N (moves_to j.position (lead m δ j.position j.act e)) < j.number)
  unfolding Stands
  tell_moves j g w e x =
      let (i, n, r, l, s) = g in
      let b : surely_below m δ N j.number j.position j.act ≡ true = subst (λ f. Stands f j) w s in
      let (u, k) = surely_parts m δ N j.number j.position j.act law b in
      let (q, f, h, c) = k e x in
      let d = number_in m δ N q h in
      let v : ℕ → Type 0 =
      λ p. Kept j (standing_at m δ N p (suc j.count)) ((j.act, e) ∷ []) × (number_at m δ N p < j.number) in
      subst v (sym (ap (moves_to j.position) f)) (
        (
          good_at q (suc j.count) h (omega arith) (omega arith),
          omega arith,
          λ h r. reaches_more m δ m.first h _ _ j.act e _ _ r (lead_trans m law δ j.position j.act e q x f),
        ),
        omega arith,
      )

  tell_kept : (j : Plain) → Good j → (e : ℕ) (f : Phase) → j.phase ≡ f →
      Kept j (plain_tell m δ N e j f).0 (told_by (tell e) (plain_tell m δ N e j f).1 j)
  tell_kept j g e ready w = kept_still j j g refl refl
  tell_kept j g e waiting w = by (possible_at m δ j.position j.act e) refl
    where
      turn : Bool → Plain × Answer
      turn b =
          elim b [
            | true ↦ (standing_at m δ N (moves_to j.position (lead m δ j.position j.act e)) (suc j.count), taken)
            | false ↦ (j, refused (impossible j.position))
          ]

      by : (b : Bool) → possible_at m δ j.position j.act e ≡ b → Kept j (turn b).0 (told_by (tell e) (turn b).1 j)
      by true x = (tell_moves j g w e (and_parts (ltb j.position (positions m δ)) (m.possible (state_of m j.position) j.act e) x).1).0
      by false x = kept_still j j g refl refl
  tell_kept j g e finished w = kept_still j j g refl refl
  tell_kept j g e given_up w = kept_still j j g refl refl

  give_up_kept : (j : Plain) → Good j → (f : Phase) → j.phase ≡ f → Kept j (plain_give_up j f).0 []
  unfolding Stands
  give_up_kept j g ready e = let (i, n, r, l, s) = g in kept_still j (plain_give_up j ready).0 (i, n, r, l, tt) refl refl
  give_up_kept j g waiting e = let (i, n, r, l, s) = g in kept_still j (plain_give_up j waiting).0 (i, n, r, l, tt) refl refl
  give_up_kept j g finished e = kept_still j j g refl refl
  give_up_kept j g given_up e = kept_still j j g refl refl

  call_kept : (j : Plain) → Good j → (c : Call) → Kept j (plain_call m δ N A c j).0 (told_by c (plain_call m δ N A c j).1 j)
  call_kept j g perform = perform_kept j g j.phase refl
  call_kept j g (tell e) = tell_kept j g e j.phase refl
  call_kept j g ask = kept_still j j g refl refl
  call_kept j g give_up = give_up_kept j g j.phase refl

  calls_kept : (cs : List Call) (j : Plain) → Good j → Kept j (plain_after m δ N A cs j) (plain_told m δ N A cs j)
  calls_kept [] j g = kept_still j j g refl refl
  calls_kept (c ∷ cs) j g =
      let k : Plain = (plain_call m δ N A c j).0 in
      let t : History = told_by c (plain_call m δ N A c j).1 j in
      let (a, b, r) = call_kept j g c in
      let (d, e, s) = calls_kept cs k a in
      let l = length-append t (plain_told m δ N A cs k) in (
        d,
        omega arith,
        λ h x.
            subst (λ i. Reaches m δ i (rem_at m δ (plain_after m δ N A cs k).position) (state_of m (plain_after m δ N A cs k).position))
            (append_assoc h t (plain_told m δ N A cs k)) (s (h ++ t) (r h x)),
      )

  tracks : (cs : List Call) → Tracks m δ N A cs
  unfolding Stands
  tracks cs =
      let (g, c, r) = calls_kept cs (plain_begin m δ N) begin_good in
      let (i, n, l, f, s) = g in
      let (x, y) = first_standing m law δ in
      record {
        counts = c ∙ zero-add _;
        falls = f;
        reached = r [] (x, y);
        final = λ e. subst (λ q. Stands q (plain_after m δ N A cs (plain_begin m δ N))) e s;
      }

  -- a job that has come to a position is ready or finished
  come_phase : (n : ℕ) → (phase_at n ≡ ready) ⊎ (phase_at n ≡ finished)
  come_phase n =
      elim (cases_Bool (eqb n 0)) [
        | inl x ↦ inr (cond-true (eqb n 0) finished ready x)
        | inr x ↦ inl (cond-false (eqb n 0) finished ready x)
      ]

  -- what follows on do from a phase
  abbrev Goes : ℕ → Plain → Phase → Type 0
  Goes n j f =
      (e : ℕ) → m.possible (state_of m j.position) (plain_perform m A j f).0.act e ≡ true →
      ((plain_call m δ N A (tell e) (plain_perform m A j f).0).1 ≡ taken)
      × Finishes m δ N A n (plain_call m δ N A (tell e) (plain_perform m A j f).0).0

  -- a good job that is ready or finished finishes
  finishes : (n : ℕ) (j : Plain) → Good j → j.number ≤ n → (j.phase ≡ ready) ⊎ (j.phase ≡ finished) → Finishes m δ N A n j
  unfolding Stands
  finishes zero j (i, n, r, l, s) h (inl p) = absurd (subst (λ f. Stands f j) p s (omega arith))
  finishes zero j (i, n, r, l, s) h (inr p) = (p, subst (λ f. Stands f j) p s)
  finishes (suc k) j (i, n, r, l, s) h (inr p) = inl (p, subst (λ f. Stands f j) p s)
  finishes (suc k) j g h (inl p) =
      inr (
        p,
        ap (λ f. (plain_perform m A j f).1) p,
        subst (Goes k j) (sym p)
            (λ e x.
            let w : Plain = (plain_perform m A j ready).0 in
            let gw = (perform_kept j g ready p).0 in
            let (t, b) = tell_moves w gw refl e x in
            let q : ℕ = moves_to w.position (lead m δ w.position w.act e) in
            let c : possible_at m δ w.position w.act e ≡ true =
            and_from (ltb w.position (positions m δ)) (m.possible (state_of m w.position) w.act e) (lt-ltb w.position (positions m δ) gw.0) x in
            let turn : Bool → Plain × Answer =
            λ b.
            elim b [
              | true ↦ (standing_at m δ N q (suc w.count), taken)
              | false ↦ (w, refused (impossible w.position))
            ] in
            let done : ((turn true).1 ≡ taken) × Finishes m δ N A k (turn true).0 =
            (refl, finishes k (standing_at m δ N q (suc w.count)) t.0 (omega arith) (come_phase (number_at m δ N q))) in
            subst (λ y. ((turn y).1 ≡ taken) × Finishes m δ N A k (turn y).0) (sym c) done),
      )

pub plain_tracks : PlainTracks
plain_tracks m law live δ N A acc cs = tracks m law live δ N A acc cs

pub plain_finishes : PlainFinishes
plain_finishes m law live δ N A acc =
    finishes m law live δ N A acc (number_at m δ N (first_position m)) (plain_begin m δ N) (begin_good m law live δ N A acc) (omega arith)
    (come_phase m law live δ N A acc (number_at m δ N (first_position m)))
