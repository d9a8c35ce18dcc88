-- With more names listed, the words that led to a state lead to it still.
use Rattle.std.proofs.Common.{◌≡◌, ℕ, suc, Bool, true, false, eqb, List, [], ◌∷◌, ◌++◌, sym, refl, ap, ◌∙◌, subst, arith}
use mathlib.Core.Option.{Option, none, some}
use Rattle.std.proofs.lemmas.Bool.{and_from, eq-eqb}
use Rattle.words.specs.Names.{same_word}
use Rattle.golog.specs.Words.{Word}
use Rattle.golog.specs.Words.Word.{name, open_round, close_round, begins, behind, cond_begins, cond_behind, strange}
use Rattle.golog.specs.Grammar.{Names, one_up, number_of}
use Rattle.golog.specs.Reading.{Sofar, CondSofar, Frame, Base, Nest, State, act_word, fact_word, advance, with_act, with_fact}
use Rattle.golog.specs.Reading.State.{want, have, want_cond, have_cond}
use Rattle.golog.proofs.Complete.{Runs, moved, none_some}
use Rattle.golog.proofs.Complete.Runs.{stay, move}
use Rattle.golog.proofs.ReadBounds.{one_up_found}

-- every number in the first list is the same in the second
abbrev pub More : List (List ℕ) → List (List ℕ) → Type 0
More ns ms = (u : List ℕ) (i : ℕ) → number_of ns u ≡ some i → number_of ms u ≡ some i

-- a name added at the end changes no other number, and has one
pub one_more : (ns : List (List ℕ)) (w : List ℕ) → More ns (ns ++ w ∷ [])
one_more [] w u i e = let z : ◌≡◌ {A = ℕ} 0 1 = cc in absurd (omega arith)
one_more (n ∷ ns) w u i e = by (same_word n u) e (one_more ns w u)
  where
    by : (b : Bool) → ◌≡◌ {A = Option ℕ} (elim b [ true ↦ some 0 | false ↦ one_up (number_of ns u) ]) (some i) →
        ((j : ℕ) → number_of ns u ≡ some j → number_of (ns ++ w ∷ []) u ≡ some j) →
        ◌≡◌ {A = Option ℕ} (elim b [ true ↦ some 0 | false ↦ one_up (number_of (ns ++ w ∷ []) u) ]) (some i)
    by true e h = e
    by false e h = let (j, f, g) = one_up_found (number_of ns u) i e in ap one_up (h j f) ∙ ap (λ k. some k) (sym g)

same_self : (w : List ℕ) → same_word w w ≡ true
same_self [] = refl
same_self (b ∷ bs) = and_from (eqb b b) (same_word bs bs) (eq-eqb b b refl) (same_self bs)

pub added : (ns : List (List ℕ)) (w : List ℕ) → (i : ℕ) × (number_of (ns ++ w ∷ []) w ≡ some i)
added [] w = (0, ap (λ b. elim b [ true ↦ some 0 | false ↦ none ]) (same_self w))
added (n ∷ ns) w = by (same_word n w) (added ns w)
  where
    by : (b : Bool) → (i : ℕ) × (number_of (ns ++ w ∷ []) w ≡ some i) →
        (i : ℕ) × (◌≡◌ {A = Option ℕ} (elim b [ true ↦ some 0 | false ↦ one_up (number_of (ns ++ w ∷ []) w) ]) (some i))
    by true h = (0, refl)
    by false (i, e) = (suc i, ap one_up e)

act_more : (K : List Frame) (A : Sofar) (x y : Option ℕ) → ((i : ℕ) → x ≡ some i → y ≡ some i) → (r : State) →
    moved (act_word K A x) ≡ some r → moved (act_word K A y) ≡ some r
act_more K A none y h r e = absurd (none_some e)
act_more K A (some i) y h r e = subst (λ z. moved (act_word K A z) ≡ some r) (sym (h i refl)) e

fact_more : (K : List Frame) (A : Sofar) (B : Base) (L : List Nest) (O : CondSofar) (x y : Option ℕ) → ((i : ℕ) → x ≡ some i → y ≡ some i) → (r : State) →
    moved (fact_word K A B L O x) ≡ some r → moved (fact_word K A B L O y) ≡ some r
fact_more K A B L O none y h r e = absurd (none_some e)
fact_more K A B L O (some i) y h r e = subst (λ z. moved (fact_word K A B L O z) ≡ some r) (sym (h i refl)) e

module _ (N M : Names) (facts_more : More N.facts M.facts) (acts_more : More N.acts M.acts) where
  advance_more : (s : State) (w : Word) (r : State) → moved (advance N s w) ≡ some r → moved (advance M s w) ≡ some r
  advance_more (want K A) (name w) r e = act_more K A (number_of N.acts w) (number_of M.acts w) (acts_more w) r e
  advance_more (want K A) open_round r e = e
  advance_more (want K A) close_round r e = e
  advance_more (want K A) (begins b) r e = e
  advance_more (want K A) (behind b) r e = e
  advance_more (want K A) (cond_begins b) r e = e
  advance_more (want K A) (cond_behind b) r e = e
  advance_more (want K A) strange r e = e
  advance_more (have K A p) (name w) r e = e
  advance_more (have K A p) open_round r e = e
  advance_more (have K A p) close_round r e = e
  advance_more (have K A p) (begins b) r e = e
  advance_more (have K A p) (behind b) r e = e
  advance_more (have K A p) (cond_begins b) r e = e
  advance_more (have K A p) (cond_behind b) r e = e
  advance_more (have K A p) strange r e = e
  advance_more (want_cond K A B L O) (name w) r e =
      fact_more K A B L O (number_of N.facts w) (number_of M.facts w) (facts_more w) r e
  advance_more (want_cond K A B L O) open_round r e = e
  advance_more (want_cond K A B L O) close_round r e = e
  advance_more (want_cond K A B L O) (begins b) r e = e
  advance_more (want_cond K A B L O) (behind b) r e = e
  advance_more (want_cond K A B L O) (cond_begins b) r e = e
  advance_more (want_cond K A B L O) (cond_behind b) r e = e
  advance_more (want_cond K A B L O) strange r e = e
  advance_more (have_cond K A B L O c) (name w) r e = e
  advance_more (have_cond K A B L O c) open_round r e = e
  advance_more (have_cond K A B L O c) close_round r e = e
  advance_more (have_cond K A B L O c) (begins b) r e = e
  advance_more (have_cond K A B L O c) (behind b) r e = e
  advance_more (have_cond K A B L O c) (cond_begins b) r e = e
  advance_more (have_cond K A B L O c) (cond_behind b) r e = e
  advance_more (have_cond K A B L O c) strange r e = e

  pub runs_more : {s r : State} {ws : List Word} → Runs N s ws r → Runs M s ws r
  runs_more stay = stay
  runs_more (move {s = s} {r = q} {w = w} e x) = move (advance_more s w q e) (runs_more x)

pub runs_with_act : (N : Names) (w : List ℕ) {s r : State} {ws : List Word} → Runs N s ws r → Runs (with_act N w) s ws r
runs_with_act N w x = runs_more N (with_act N w) (λ u i e. e) (one_more N.acts w) x

pub runs_with_fact : (N : Names) (w : List ℕ) {s r : State} {ws : List Word} → Runs N s ws r → Runs (with_fact N w) s ws r
runs_with_fact N w x = runs_more N (with_fact N w) (one_more N.facts w) (λ u i e. e) x
