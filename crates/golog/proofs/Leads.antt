-- Where a reaction leads is where Trans leads, but for stuck remainders.
use Rattle.std.proofs.Common.{◌≡◌, ℕ, Bool, true, false, ◌&&◌, eqb, sym, ap, ◌∙◌, subst, inl, inr}
use Rattle.std.proofs.lemmas.Bool.{cases_Bool, and_parts, and_from, or_parts, eqb-true, eq-eqb, both_ways}
use Rattle.locks.specs.Meaning.{Meaning, Lawful, any_below}
use Rattle.golog.specs.Search.{lowest}
use Rattle.golog.specs.Programs.{Valuation, Prog, Final, Stuck}
use Rattle.golog.specs.Points.{points, word, rem, next, goes_on}
use Rattle.golog.specs.Positions.{position, point_of, state_of, facts_at, next_by, lead, LeadIsTrans}
use Rattle.golog.specs.Positions.Lead.{to}
use Rattle.golog.proofs.Bridge.{bridge, next_in}
use Rattle.golog.proofs.Searches.{lowest_some}
use Rattle.golog.proofs.Numbers.{lead_found, lead_in}
use Rattle.golog.proofs.Choosing.{one_remainder, point_position, state_position, step_goes_on, lead_goes}
use Rattle.golog.proofs.PlainJob.{lead_trans}

-- a point that does not go on has a stuck remainder
stuck : (δ : Prog) (v : Valuation) (q : ℕ) → goes_on δ v q ≡ false → Stuck (rem δ q) v
stuck δ v q h =
    ((or_parts (Final (rem δ q) v) (any_below (points δ) (next δ v q)) h).0, λ a δ' s. both_ways (goes_on δ v q) h (step_goes_on δ v q a δ' s))

lead_goes_on : (m : Meaning) → Lawful m → (δ : Prog) (p a e q : ℕ) → m.possible (state_of m p) a e ≡ true → lead m δ p a e ≡ to q →
    goes_on δ (facts_at m q) (point_of m q) ≡ true
lead_goes_on m law δ p a e q x l =
    let s : ℕ = m.after (state_of m p) a e in
    let t : ℕ → Bool = λ k. next_by m δ p a k && goes_on δ (m.holds s) k in
    let (j, lo, po) = lead_found m s (lowest (points δ) t) q l in
    let (_, z, _) = lowest_some (points δ) t j lo in
    let (_, g) = and_parts (next_by m δ p a j) (goes_on δ (m.holds s) j) z in
    let below = law.after_below (state_of m p) a e x in
    subst (λ i. goes_on δ (m.holds (state_of m q)) i ≡ true) (sym (ap (point_of m) (sym po) ∙ point_position m j s below))
    (subst (λ i. goes_on δ (m.holds i) j ≡ true) (sym (ap (state_of m) (sym po) ∙ state_position m j s below)) g)

pub lead_is_trans : LeadIsTrans
lead_is_trans m law δ one p a e x = (
  λ q l. (lead_in m law δ p a e q x l, lead_trans m law δ p a e q x l, lead_goes_on m law δ p a e q x l),
  λ δ' s' (t, _, es).
      let v : Valuation = facts_at m p in
      let s : ℕ = m.after (state_of m p) a e in
      let (q, n, w, r) = (bridge δ v (point_of m p) a δ').0 t in
      elim (cases_Bool (goes_on δ (m.holds s) q)) [
        | inl g ↦
            let b : next_by m δ p a q ≡ true = and_from (next δ v (point_of m p) q) (eqb (word δ q) a) n (eq-eqb (word δ q) a w) in
            let (k, l, bk, gk) = lead_goes m δ p a e q b g (next_in δ v (point_of m p) q n) in
            let (nk, wk) = and_parts (next δ v (point_of m p) k) (eqb (word δ k) a) bk in
            let below = law.after_below (state_of m p) a e x in
            inl (
              position m k s,
              l,
              ap (rem δ) (point_position m k s below)
                  ∙ (sym (one_remainder δ one v (m.holds s) (point_of m p) q k n nk (w ∙ sym (eqb-true (word δ k) a wk)) g gk) ∙ r),
              state_position m k s below ∙ sym es,
            )
        | inr g ↦ inr (subst (λ i. Stuck δ' (m.holds i)) (sym es) (subst (λ i. Stuck i (m.holds s)) r (stuck δ (m.holds s) q g)))
      ],
)
