-- Reading goes through every list of words that the grammar gives a tree.
use Rattle.std.proofs.Common.{◌≡◌, ℕ, List, [], ◌∷◌, ◌++◌, sym, refl, ap, ◌∙◌, subst, arith}
use mathlib.Core.Option.{Option, none, some}
use Rattle.golog.specs.Programs.{Cond, Prog, if_then_else, while_do}
use Rattle.golog.specs.Programs.Cond.{any}
use Rattle.golog.specs.Programs.Prog.{test, alt}
use Rattle.golog.specs.Words.{Word}
use Rattle.golog.specs.Grammar.{Names, Sort, CondSort, Reads, CondReads}
use Rattle.golog.specs.Grammar.Sort.{choice, sequence, item, atom}
use Rattle.golog.specs.Grammar.CondSort.{disjunction, conjunction, literal}
use Rattle.golog.specs.Reading.{Sofar, CondSofar, Frame, Base, Nest, State, Advance, then_also, whole, and_also, whole_cond, nothing, nothing_cond, operand, act_word, fact_word, advance}
use Rattle.golog.specs.Reading.Frame.{in_round, in_then, in_else, in_do}
use Rattle.golog.specs.Reading.Base.{of_test, of_if, of_while}
use Rattle.golog.specs.Reading.Nest.{bracket, negation}
use Rattle.golog.specs.Reading.State.{want, have, want_cond, have_cond}
use Rattle.golog.specs.Reading.Advance.{goes, goes_by_act, misfit, unfamiliar}

-- the state that a word leads to, by an act or not
abbrev pub moved : Advance → Option State
moved (goes s) = some s
moved (goes_by_act s) = some s
moved misfit = none
moved unfamiliar = none

-- words lead from a state to a state
pub data Runs (N : Names) : State → List Word → State → Type 0 where
  stay : {s : State} → Runs N s [] s
  move : {s r u : State} {w : Word} {ws : List Word} → moved (advance N s w) ≡ some r → Runs N r ws u → Runs N s (w ∷ ws) u

pub runs_on : {N : Names} {s r u : State} {ws us : List Word} → Runs N s ws r → Runs N r us u → Runs N s (ws ++ us) u
runs_on stay y = y
runs_on (move e x) y = move e (runs_on x y)

pub same_state : {s r : State} → ◌≡◌ {A = Option State} (some s) (some r) → s ≡ r
same_state e = cc

pub none_some : {s : State} → ◌≡◌ {A = Option State} none (some s) → ⊥
none_some {s} e = let z : ◌≡◌ {A = ℕ} 0 1 = cc in omega arith

pub runs_once : {N : Names} {s r u : State} {ws : List Word} → Runs N s ws r → Runs N s ws u → r ≡ u
runs_once stay stay = refl
runs_once {N = N} {u = u} (move {ws = ws} e x) (move f y) = runs_once x (subst (λ t. Runs N t ws u) (same_state (sym f ∙ e)) y)

-- no not waits for the operand
abbrev pub Settled : List Nest → Type 0
Settled [] = Unit {0}
Settled (bracket P ∷ L) = Unit {0}
Settled (negation P ∷ L) = ⊥

settled : (K : List Frame) (A : Sofar) (B : Base) (L : List Nest) → Settled L → (O : CondSofar) (c : Cond) → operand K A B L O c ≡ have_cond K A B L O c
settled K A B [] x O c = refl
settled K A B (bracket P ∷ L) x O c = refl
settled K A B (negation P ∷ L) x O c = absurd x

-- what the words of a condition do, by its sort
abbrev CondRuns : Names → CondSort → List Word → Cond → Type 0
CondRuns N literal ws c =
    (K : List Frame) (A : Sofar) (B : Base) (L : List Nest) (O : CondSofar) → Runs N (want_cond K A B L O) ws (operand K A B L O c)
CondRuns N conjunction ws c =
    (K : List Frame) (A : Sofar) (B : Base) (L : List Nest) → Settled L → (o : Option Cond) →
    (n : Option Cond) × (d : Cond) × Runs N (want_cond K A B L (o, none)) ws (have_cond K A B L (o, n) d) × (and_also n d ≡ c)
CondRuns N disjunction ws c =
    (K : List Frame) (A : Sofar) (B : Base) (L : List Nest) → Settled L →
    (O : CondSofar) × (d : Cond) × Runs N (want_cond K A B L nothing_cond) ws (have_cond K A B L O d) × (whole_cond O d ≡ c)

cond_runs : {N : Names} {k : CondSort} {ws : List Word} {c : Cond} → CondReads N k ws c → CondRuns N k ws c
cond_runs (CondReads.a_fact e) = λ K A B L O. move (ap (λ o. moved (fact_word K A B L O o)) e) stay
cond_runs CondReads.a_true = λ K A B L O. move refl stay
cond_runs CondReads.a_false = λ K A B L O. move refl stay
cond_runs (CondReads.a_not x) = λ K A B L O. move refl (cond_runs x K A B (negation O ∷ L) nothing_cond)
cond_runs (CondReads.in_brackets x) =
    λ K A B L O.
    let (P, d, r, e) = cond_runs x K A B (bracket O ∷ L) tt in
    move refl (runs_on r (move (ap (λ y. some (operand K A B L O y)) e) stay))
cond_runs {N} (CondReads.one_literal {ws = ws} {c = c} x) =
    λ K A B L h o. (none, c, subst (Runs N (want_cond K A B L (o, none)) ws) (settled K A B L h (o, none) c) (cond_runs x K A B L (o, none)), refl)
cond_runs {N} (CondReads.an_and {us = us} {c = c} {d = d} x y) =
    λ K A B L h o.
    let (n, e, r, f) = cond_runs x K A B L h o in (
      some c,
      d,
      runs_on r (move (ap (λ z. some (want_cond K A B L (o, some z))) f)
          (subst (Runs N (want_cond K A B L (o, some c)) us) (settled K A B L h (o, some c) d) (cond_runs y K A B L (o, some c)))),
      refl,
    )
cond_runs (CondReads.one_conjunction x) =
    λ K A B L h. let (n, d, r, e) = cond_runs x K A B L h none in ((none, n), d, r, e)
cond_runs (CondReads.an_or {c = c} x y) =
    λ K A B L h.
    let (O, d, r, e) = cond_runs x K A B L h in
    let (n, g, s, f) = cond_runs y K A B L h (some c) in
    ((some c, n), g, runs_on r (move (ap (λ z. some (want_cond K A B L (some z, none))) e) s), ap (any c) f)

-- what the words of a routine do, by its sort
abbrev pub ProgRuns : Names → Sort → List Word → Prog → Type 0
ProgRuns N atom ws p = (K : List Frame) (A : Sofar) → Runs N (want K A) ws (have K A p)
ProgRuns N item ws p = (K : List Frame) (A : Sofar) → Runs N (want K A) ws (have K A p)
ProgRuns N sequence ws p =
    (K : List Frame) (a : Option Prog) → (s : Option Prog) × (q : Prog) × Runs N (want K (a, none)) ws (have K (a, s) q) × (then_also s q ≡ p)
ProgRuns N choice ws p = (K : List Frame) → (A : Sofar) × (q : Prog) × Runs N (want K nothing) ws (have K A q) × (whole A q ≡ p)

pub prog_runs : {N : Names} {k : Sort} {ws : List Word} {p : Prog} → Reads N k ws p → ProgRuns N k ws p
prog_runs (Reads.an_act e) = λ K A. move (ap (λ o. moved (act_word K A o)) e) stay
prog_runs (Reads.a_test x) =
    λ K A.
    let (O, d, r, e) = cond_runs x K A of_test [] tt in
    move refl (runs_on r (move (ap (λ z. some (have K A (test z))) e) stay))
prog_runs Reads.a_nil = λ K A. move refl stay
prog_runs (Reads.in_brackets x) =
    λ K A.
    let (P, q, r, e) = prog_runs x (in_round A ∷ K) in
    move refl (runs_on r (move (ap (λ z. some (have K A z)) e) stay))
prog_runs (Reads.an_if {c = c} {p = p} x y z) =
    λ K A.
    let (O, d, r, e) = cond_runs x K A of_if [] tt in
    let (P, q, s, f) = prog_runs y (in_then A c ∷ K) in
    let (Q, u, t, g) = prog_runs z (in_else A c p ∷ K) in
    move refl
    (runs_on r (move (ap (λ v. some (want (in_then A v ∷ K) nothing)) e)
    (runs_on s (move (ap (λ v. some (want (in_else A c v ∷ K) nothing)) f)
    (runs_on t (move (ap (λ v. some (have K A (if_then_else c p v))) g) stay))))))
prog_runs (Reads.a_while {c = c} x y) =
    λ K A.
    let (O, d, r, e) = cond_runs x K A of_while [] tt in
    let (P, q, s, f) = prog_runs y (in_do A c ∷ K) in
    move refl
    (runs_on r (move (ap (λ v. some (want (in_do A v ∷ K) nothing)) e)
    (runs_on s (move (ap (λ v. some (have K A (while_do c v))) f) stay))))
prog_runs (Reads.one_atom x) = prog_runs x
prog_runs (Reads.a_star x) = λ K A. runs_on (prog_runs x K A) (move refl stay)
prog_runs (Reads.one_item {p = p} x) = λ K a. (none, p, prog_runs x K (a, none), refl)
prog_runs (Reads.a_semicolon {p = p} {q = q} x y) =
    λ K a.
    let (s, u, r, e) = prog_runs x K a in
    (some p, q, runs_on r (move (ap (λ z. some (want K (a, some z))) e) (prog_runs y K (a, some p))), refl)
prog_runs (Reads.one_sequence x) = λ K. let (s, q, r, e) = prog_runs x K none in ((none, s), q, r, e)
prog_runs (Reads.a_bar {p = p} x y) =
    λ K.
    let (A, u, r, e) = prog_runs x K in
    let (s, q, t, f) = prog_runs y K (some p) in
    ((some p, s), q, runs_on r (move (ap (λ z. some (want K (some z, none))) e) t), ap (alt p) f)

-- the tree of a state in which a whole text was read
abbrev result : State → Option Prog
result (want K A) = none
result (have [] A p) = some (whole A p)
result (have (x ∷ K) A p) = none
result (want_cond K A B L O) = none
result (have_cond K A B L O c) = none

same_some : {p q : Prog} → ◌≡◌ {A = Option Prog} (some p) (some q) → p ≡ q
same_some e = cc

pub one_tree : (N : Names) (ws : List Word) (t u : Prog) → Reads N choice ws t → Reads N choice ws u → t ≡ u
one_tree N ws t u x y =
    let (A, p, r, e) = prog_runs x [] in
    let (B, q, s, f) = prog_runs y [] in
    let g : ◌≡◌ {A = Option Prog} (some (whole A p)) (some (whole B q)) = ap result (runs_once r s) in
    sym e ∙ (same_some g ∙ f)
