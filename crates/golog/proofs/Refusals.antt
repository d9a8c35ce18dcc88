-- Where reading refuses a word, the grammar does.
use Rattle.std.proofs.Common.{◌≡◌, ℕ, suc, Bool, true, false, ◌⊎◌, List, [], ◌∷◌, ◌++◌, length, sym, refl, ap, ◌∙◌, subst, inl, inr, append_assoc, append-nil, arith}
use mathlib.Core.Option.{Option, none, some}
use Rattle.golog.specs.Programs.{Cond, Prog}
use Rattle.golog.specs.Words.{Word, Token, token, words_of, tokens}
use Rattle.golog.specs.Words.Word.{name, open_round, close_round, begins, behind, cond_begins, cond_behind, strange}
use Rattle.golog.specs.Words.Begin.{nil_word}
use Rattle.golog.specs.Words.Behind.{asterisk, semicolon, bar, else_word, fi_word, od_word}
use Rattle.golog.specs.Words.CondBegin.{true_word}
use Rattle.golog.specs.Words.CondBehind.{and_word, or_word, close_square, then_word, do_word}
use Rattle.golog.specs.Grammar.{Names, number_of, Reads, TextReads}
use Rattle.golog.specs.Grammar.Sort.{choice}
use Rattle.golog.specs.Reading.{Sofar, CondSofar, Frame, Base, Nest, State, Advance, TextFault, Reading, whole, operand, act_word, fact_word, close_choice, else_choice, fi_choice, od_choice, close_cond, square_cond, then_cond, do_cond, advance, in_limits, after_word, finish, read_on, start, Begins, BeginsNone, WordAt, with_act, with_fact, MisplacedIsFirst, UnknownIsFirst}
use Rattle.golog.specs.Reading.Frame.{in_round, in_then, in_else, in_do}
use Rattle.golog.specs.Reading.Base.{of_test, of_if, of_while}
use Rattle.golog.specs.Reading.Nest.{bracket, negation}
use Rattle.golog.specs.Reading.State.{want, have, want_cond, have_cond}
use Rattle.golog.specs.Reading.Advance.{goes, goes_by_act, misfit, unfamiliar}
use Rattle.golog.specs.Reading.TextFault.{misplaced, unknown, over_limit}
use Rattle.golog.specs.Reading.Reading.{tree, refused}
use Rattle.golog.proofs.Complete.{Runs, moved, Settled, none_some, runs_on, runs_once, prog_runs}
use Rattle.golog.proofs.Complete.Runs.{stay, move}
use Rattle.golog.proofs.Likeness.{Alike, Frames, runs_alike, misfits}
use Rattle.golog.proofs.MoreNames.{added, runs_with_act, runs_with_fact}
use Rattle.golog.proofs.Sound.{Holds, none_before, runs_hold, whole_text}

-- words lead from the state to the end of a routine
abbrev Ending : Names → State → Type 0
Ending N s = (vs : List Word) × (A : Sofar) × (p : Prog) × Runs N s vs (have [] A p)

by_word : {N : Names} {s r : State} (w : Word) → moved (advance N s w) ≡ some r → Ending N r → Ending N s
by_word w e (vs, A, p, r) = (w ∷ vs, A, p, move e r)

have_ends : (N : Names) (K : List Frame) (A : Sofar) (p : Prog) → Ending N (have K A p)
have_ends N [] A p = ([], A, p, stay)
have_ends N (in_round B ∷ K) A p = by_word close_round refl (have_ends N K B _)
have_ends N (in_then B c ∷ K) A p =
    by_word (behind else_word) refl (by_word (begins nil_word) refl (by_word (behind fi_word) refl (have_ends N K B _)))
have_ends N (in_else B c q ∷ K) A p = by_word (behind fi_word) refl (have_ends N K B _)
have_ends N (in_do B c ∷ K) A p = by_word (behind od_word) refl (have_ends N K B _)

want_ends : (N : Names) (K : List Frame) (A : Sofar) → Ending N (want K A)
want_ends N K A = by_word (begins nil_word) refl (have_ends N K A _)

base_ends : (N : Names) (K : List Frame) (A : Sofar) (B : Base) (O : CondSofar) (c : Cond) → Ending N (have_cond K A B [] O c)
base_ends N K A of_test O c = by_word (cond_behind close_square) refl (have_ends N K A _)
base_ends N K A of_if O c = by_word (cond_behind then_word) refl (want_ends N _ _)
base_ends N K A of_while O c = by_word (cond_behind do_word) refl (want_ends N _ _)

operand_ends : (N : Names) (K : List Frame) (A : Sofar) (B : Base) (L : List Nest) (O : CondSofar) (c : Cond) → Ending N (operand K A B L O c)
operand_ends N K A B [] O c = base_ends N K A B O c
operand_ends N K A B (bracket P ∷ L) O c = by_word close_round refl (operand_ends N K A B L P _)
operand_ends N K A B (negation P ∷ L) O c = operand_ends N K A B L P _

have_cond_ends : (N : Names) (K : List Frame) (A : Sofar) (B : Base) (L : List Nest) (O : CondSofar) (c : Cond) → Settled L → Ending N (have_cond K A B L O c)
have_cond_ends N K A B [] O c h = base_ends N K A B O c
have_cond_ends N K A B (bracket P ∷ L) O c h = operand_ends N K A B (bracket P ∷ L) O c
have_cond_ends N K A B (negation P ∷ L) O c h = absurd h

state_ends : (N : Names) (s : State) (ws : List Word) → Holds N s ws → Ending N s
state_ends N (want K A) ws h = want_ends N K A
state_ends N (have K A p) ws h = have_ends N K A p
state_ends N (want_cond K A B L O) ws h = by_word (cond_begins true_word) refl (operand_ends N K A B L O _)
state_ends N (have_cond K A B L O c) ws h = have_cond_ends N K A B L O c h.4.2

-- words that lead somewhere are the beginning of a routine
pub runs_begin : (N : Names) (ws : List Word) (s : State) → Runs N start ws s → Begins N ws
runs_begin N ws s r =
    let h = runs_hold N start s [] ws ([], [], refl, none_before N, refl) r in
    let (vs, A, p, u) = state_ends N s ws h in
    (vs, whole A p, whole_text N A p (ws ++ vs) (runs_on r u))

-- words that lead from a state, taken apart
first_word : {N : Names} {s r : State} {w : Word} {ws : List Word} → Runs N s (w ∷ ws) r → (q : State) × (moved (advance N s w) ≡ some q) × Runs N q ws r
first_word (move e x) = (_, e, x)

runs_split : (N : Names) (s : State) (ws us : List Word) (r : State) → Runs N s (ws ++ us) r → (q : State) × Runs N s ws q × Runs N q us r
runs_split N s [] us r x = (s, stay, x)
runs_split N s (w ∷ ws) us r x =
    let (q, e, y) = first_word x in
    let (u, a, b) = runs_split N q ws us r y in
    (u, move e a, b)

-- a word that leads nowhere goes on no routine
nowhere : (N : Names) (ws : List Word) (s : State) (w : Word) → Runs N start ws s → moved (advance N s w) ≡ none → BeginsNone N (ws ++ w ∷ [])
nowhere N ws s w r e vs t x =
    let (A, p, u, _) = prog_runs x [] in
    let v = subst (λ zs. Runs N start zs (have [] A p)) (append_assoc ws (w ∷ []) vs) u in
    let (q, y, z) = runs_split N start ws (w ∷ vs) (have [] A p) v in
    let (_, f, _) = first_word z in
    none_some (sym e ∙ (ap (λ i. moved (advance N i w)) (runs_once r y) ∙ f))

-- nor does one that does not fit, under any names
nowhere_else : (N M : Names) (ws : List Word) (s : State) (w : Word) → Runs N start ws s → advance N s w ≡ misfit → BeginsNone M (ws ++ w ∷ [])
nowhere_else N M ws s w r e vs t x =
    let (A, p, u, _) = prog_runs x [] in
    let v = subst (λ zs. Runs M start zs (have [] A p)) (append_assoc ws (w ∷ []) vs) u in
    let (q, y, z) = runs_split M start ws (w ∷ vs) (have [] A p) v in
    let (_, f, _) = first_word z in
    none_some (sym (misfits N M w (runs_alike (Alike.wants Frames.no_frames) r y) e) ∙ f)

-- what a refusal at a word comes from
abbrev Cause : ℕ → (ℕ → ℕ → State → Reading) → TextFault → Advance → Type 0
Cause o f F (goes s) = ((n : ℕ) × (k : ℕ) × (f n k s ≡ refused F)) ⊎ (over_limit o ≡ F)
Cause o f F (goes_by_act s) = ((n : ℕ) × (k : ℕ) × (f n k s ≡ refused F)) ⊎ (over_limit o ≡ F)
Cause o f F misfit = misplaced o ≡ F
Cause o f F unfamiliar = unknown o ≡ F

same_fault : {F G : TextFault} → ◌≡◌ {A = Reading} (refused F) (refused G) → F ≡ G
same_fault e = cc

limit_cause : (b : Bool) (n k o : ℕ) (f : ℕ → ℕ → State → Reading) (s : State) (F : TextFault) →
    ◌≡◌ {A = Reading} (elim b [ true ↦ f n k s | false ↦ refused (over_limit o) ]) (refused F) → ((n : ℕ) × (k : ℕ) × (f n k s ≡ refused F)) ⊎ (over_limit o ≡ F)
limit_cause true n k o f s F e = inl (n, k, e)
limit_cause false n k o f s F e = inr (same_fault e)

cause : (o n k : ℕ) (f : ℕ → ℕ → State → Reading) (F : TextFault) (y : Advance) → after_word o n k f y ≡ refused F → Cause o f F y
cause o n k f F (goes s) e = limit_cause (in_limits (suc n) k s) (suc n) k o f s F e
cause o n k f F (goes_by_act s) e = limit_cause (in_limits (suc n) (suc k) s) (suc n) (suc k) o f s F e
cause o n k f F misfit e = same_fault e
cause o n k f F unfamiliar e = same_fault e

pub words_append : (ts us : List Token) → words_of (ts ++ us) ≡ words_of ts ++ words_of us
words_append [] us = refl
words_append (t ∷ ts) us = ap (λ ws. t.word ∷ ws) (words_append ts us)

not_over : {o n : ℕ} → over_limit o ≡ misplaced n → ⊥
not_over {o} {n} e = let z : ◌≡◌ {A = ℕ} 0 1 = cc in omega arith

not_unknown : {o n : ℕ} → unknown o ≡ misplaced n → ⊥
not_unknown {o} {n} e = let z : ◌≡◌ {A = ℕ} 0 1 = cc in omega arith

same_place : {o n : ℕ} → misplaced o ≡ misplaced n → o ≡ n
same_place e = cc

not_refused : {t : Prog} {F : TextFault} → ◌≡◌ {A = Reading} (tree t) (refused F) → ⊥
not_refused {t} {F} e = let z : ◌≡◌ {A = ℕ} 0 1 = cc in omega arith

-- a state alike to one in which a whole routine was read is such a state
finished : (len : ℕ) {s : State} {A : Sofar} {p : Prog} → Alike s (have [] A p) → (t : Prog) × (finish len s ≡ tree t)
finished len (Alike.haves Frames.no_frames) = (_, refl)

-- at the end, words are missing unless a whole routine was read
missing : (N : Names) (len : ℕ) (ws : List Word) (s : State) (F : TextFault) → Runs N start ws s → finish len s ≡ refused F → (misplaced len ≡ F) × ((M : Names) (t : Prog) → Reads M choice ws t → ⊥)
missing N len ws s F r e = (
  place s e,
  λ M t x.
      let (A, p, u, _) = prog_runs x [] in
      let (q, f) = finished len (runs_alike (Alike.wants Frames.no_frames) r u) in
      not_refused (sym f ∙ e),
)
  where
    place : (s : State) → finish len s ≡ refused F → misplaced len ≡ F
    place (want K A) e = same_fault e
    place (have [] A p) e = absurd (not_refused e)
    place (have (x ∷ K) A p) e = same_fault e
    place (want_cond K A B L O) e = same_fault e
    place (have_cond K A B L O c) e = same_fault e

module _ (N : Names) (text : List ℕ) where
  abbrev Ground : ℕ → Type 0
  Ground o =
      ((o ≡ length text) × Begins N (words_of (tokens text)) × ((M : Names) (t : Prog) → TextReads M text t → ⊥))
      ⊎ ((ws : List Word) × (w : Word) × WordAt text o ws w × Begins N ws × ((M : Names) → BeginsNone M (ws ++ w ∷ [])))

  pub one_further : (ts : List Token) (x : Token) (s r : State) → Runs N start (words_of ts) s → moved (advance N s x.word) ≡ some r →
      Runs N start (words_of (ts ++ x ∷ [])) r
  one_further ts x s r u e = subst (λ ws. Runs N start ws r) (sym (words_append ts (x ∷ []))) (runs_on u (move e stay))

  ground :
      (us ts : List Token) (n k : ℕ) (s : State) (o : ℕ) → tokens text ≡ ts ++ us → Runs N start (words_of ts) s →
      read_on N (length text) us n k s ≡ refused (misplaced o) → Ground o
  ground [] ts n k s o e r f =
      let g : tokens text ≡ ts = e ∙ append-nil ts in
      let u : Runs N start (words_of (tokens text)) s = subst (λ i. Runs N start (words_of i) s) (sym g) r in
      let (a, b) = missing N (length text) (words_of (tokens text)) s (misplaced o) u f in
      inl (sym (same_place a), runs_begin N (words_of (tokens text)) s u, b)
  ground (x ∷ us) ts n k s o e r f =
      by (advance N s x.word) refl (cause x.offset n k (read_on N (length text) us) (misplaced o) (advance N s x.word) f)
      (λ n k q h g. ground us (ts ++ x ∷ []) n k q o (e ∙ sym (append_assoc ts (x ∷ []) us)) (one_further ts x s q r h) g)
    where
      by : (y : Advance) → advance N s x.word ≡ y → Cause x.offset (read_on N (length text) us) (misplaced o) y →
          ((n k : ℕ) (q : State) → moved (advance N s x.word) ≡ some q → read_on N (length text) us n k q ≡ refused (misplaced o) → Ground o) → Ground o
      by (goes q) h (inl (n, k, g)) go = go n k q (ap moved h) g
      by (goes q) h (inr g) go = absurd (not_over g)
      by (goes_by_act q) h (inl (n, k, g)) go = go n k q (ap moved h) g
      by (goes_by_act q) h (inr g) go = absurd (not_over g)
      by misfit h g go =
          inr (
            words_of ts,
            x.word,
            (ts, us, e ∙ ap (λ i. ts ++ token i x.word ∷ us) (same_place g), refl),
            runs_begin N (words_of ts) s r,
            λ M. nowhere_else N M (words_of ts) s x.word r h,
          )
      by unfamiliar h g go = absurd (not_unknown g)

pub misplaced_is_first : MisplacedIsFirst
misplaced_is_first N text o e = ground N text (tokens text) [] 0 0 start o refl stay e

-- what an unknown name stands for: an act or a fact that is not listed, and leads on where it is
abbrev NameGround : Names → State → Word → Type 0
NameGround N s w =
    (u : List ℕ) × (w ≡ name u)
    × (((number_of N.acts u ≡ none) × ((M : Names) (a : ℕ) → number_of M.acts u ≡ some a → (r : State) × (moved (advance M s (name u)) ≡ some r)))
    ⊎ ((number_of N.facts u ≡ none) × ((M : Names) (i : ℕ) → number_of M.facts u ≡ some i → (r : State) × (moved (advance M s (name u)) ≡ some r))))

abbrev IfUnfamiliar : Type 0 → Advance → Type 0
IfUnfamiliar X (goes s) = Unit {0}
IfUnfamiliar X (goes_by_act s) = Unit {0}
IfUnfamiliar X misfit = Unit {0}
IfUnfamiliar X unfamiliar = X

close_familiar : (X : Type 0) (K : List Frame) (p : Prog) → IfUnfamiliar X (close_choice K p)
close_familiar X [] p = tt
close_familiar X (in_round A ∷ K) p = tt
close_familiar X (in_then A c ∷ K) p = tt
close_familiar X (in_else A c q ∷ K) p = tt
close_familiar X (in_do A c ∷ K) p = tt

else_familiar : (X : Type 0) (K : List Frame) (p : Prog) → IfUnfamiliar X (else_choice K p)
else_familiar X [] p = tt
else_familiar X (in_round A ∷ K) p = tt
else_familiar X (in_then A c ∷ K) p = tt
else_familiar X (in_else A c q ∷ K) p = tt
else_familiar X (in_do A c ∷ K) p = tt

fi_familiar : (X : Type 0) (K : List Frame) (p : Prog) → IfUnfamiliar X (fi_choice K p)
fi_familiar X [] p = tt
fi_familiar X (in_round A ∷ K) p = tt
fi_familiar X (in_then A c ∷ K) p = tt
fi_familiar X (in_else A c q ∷ K) p = tt
fi_familiar X (in_do A c ∷ K) p = tt

od_familiar : (X : Type 0) (K : List Frame) (p : Prog) → IfUnfamiliar X (od_choice K p)
od_familiar X [] p = tt
od_familiar X (in_round A ∷ K) p = tt
od_familiar X (in_then A c ∷ K) p = tt
od_familiar X (in_else A c q ∷ K) p = tt
od_familiar X (in_do A c ∷ K) p = tt

close_cond_familiar : (X : Type 0) (K : List Frame) (A : Sofar) (B : Base) (L : List Nest) (c : Cond) → IfUnfamiliar X (close_cond K A B L c)
close_cond_familiar X K A B [] c = tt
close_cond_familiar X K A B (bracket P ∷ L) c = tt
close_cond_familiar X K A B (negation P ∷ L) c = tt

square_cond_familiar : (X : Type 0) (K : List Frame) (A : Sofar) (B : Base) (L : List Nest) (c : Cond) → IfUnfamiliar X (square_cond K A B L c)
square_cond_familiar X K A of_test [] c = tt
square_cond_familiar X K A of_test (x ∷ L) c = tt
square_cond_familiar X K A of_if L c = tt
square_cond_familiar X K A of_while L c = tt

then_cond_familiar : (X : Type 0) (K : List Frame) (A : Sofar) (B : Base) (L : List Nest) (c : Cond) → IfUnfamiliar X (then_cond K A B L c)
then_cond_familiar X K A of_test L c = tt
then_cond_familiar X K A of_if [] c = tt
then_cond_familiar X K A of_if (x ∷ L) c = tt
then_cond_familiar X K A of_while L c = tt

do_cond_familiar : (X : Type 0) (K : List Frame) (A : Sofar) (B : Base) (L : List Nest) (c : Cond) → IfUnfamiliar X (do_cond K A B L c)
do_cond_familiar X K A of_test L c = tt
do_cond_familiar X K A of_if L c = tt
do_cond_familiar X K A of_while [] c = tt
do_cond_familiar X K A of_while (x ∷ L) c = tt

act_unfamiliar : (N : Names) (K : List Frame) (A : Sofar) (u : List ℕ) (o : Option ℕ) → number_of N.acts u ≡ o →
    IfUnfamiliar (NameGround N (want K A) (name u)) (act_word K A o)
act_unfamiliar N K A u none e = (u, refl, inl (e, λ M a f. (_, ap (λ i. moved (act_word K A i)) f)))
act_unfamiliar N K A u (some a) e = tt

fact_unfamiliar : (N : Names) (K : List Frame) (A : Sofar) (B : Base) (L : List Nest) (O : CondSofar) (u : List ℕ) (o : Option ℕ) → number_of N.facts u ≡ o →
    IfUnfamiliar (NameGround N (want_cond K A B L O) (name u)) (fact_word K A B L O o)
fact_unfamiliar N K A B L O u none e = (u, refl, inr (e, λ M i f. (_, ap (λ j. moved (fact_word K A B L O j)) f)))
fact_unfamiliar N K A B L O u (some i) e = tt

unfamiliar_name : (N : Names) (s : State) (w : Word) → IfUnfamiliar (NameGround N s w) (advance N s w)
unfamiliar_name N (want K A) (name u) = act_unfamiliar N K A u (number_of N.acts u) refl
unfamiliar_name N (want K A) open_round = tt
unfamiliar_name N (want K A) close_round = tt
unfamiliar_name N (want K A) (begins b) = tt
unfamiliar_name N (want K A) (behind b) = tt
unfamiliar_name N (want K A) (cond_begins b) = tt
unfamiliar_name N (want K A) (cond_behind b) = tt
unfamiliar_name N (want K A) strange = tt
unfamiliar_name N (have K A p) (name u) = tt
unfamiliar_name N (have K A p) open_round = tt
unfamiliar_name N (have K A p) close_round = close_familiar _ K _
unfamiliar_name N (have K A p) (begins b) = tt
unfamiliar_name N (have K A p) (behind asterisk) = tt
unfamiliar_name N (have K A p) (behind semicolon) = tt
unfamiliar_name N (have K A p) (behind bar) = tt
unfamiliar_name N (have K A p) (behind else_word) = else_familiar _ K _
unfamiliar_name N (have K A p) (behind fi_word) = fi_familiar _ K _
unfamiliar_name N (have K A p) (behind od_word) = od_familiar _ K _
unfamiliar_name N (have K A p) (cond_begins b) = tt
unfamiliar_name N (have K A p) (cond_behind b) = tt
unfamiliar_name N (have K A p) strange = tt
unfamiliar_name N (want_cond K A B L O) (name u) = fact_unfamiliar N K A B L O u (number_of N.facts u) refl
unfamiliar_name N (want_cond K A B L O) open_round = tt
unfamiliar_name N (want_cond K A B L O) close_round = tt
unfamiliar_name N (want_cond K A B L O) (begins b) = tt
unfamiliar_name N (want_cond K A B L O) (behind b) = tt
unfamiliar_name N (want_cond K A B L O) (cond_begins b) = tt
unfamiliar_name N (want_cond K A B L O) (cond_behind b) = tt
unfamiliar_name N (want_cond K A B L O) strange = tt
unfamiliar_name N (have_cond K A B L O c) (name u) = tt
unfamiliar_name N (have_cond K A B L O c) open_round = tt
unfamiliar_name N (have_cond K A B L O c) close_round = close_cond_familiar _ K A B L _
unfamiliar_name N (have_cond K A B L O c) (begins b) = tt
unfamiliar_name N (have_cond K A B L O c) (behind b) = tt
unfamiliar_name N (have_cond K A B L O c) (cond_begins b) = tt
unfamiliar_name N (have_cond K A B L O c) (cond_behind and_word) = tt
unfamiliar_name N (have_cond K A B L O c) (cond_behind or_word) = tt
unfamiliar_name N (have_cond K A B L O c) (cond_behind close_square) = square_cond_familiar _ K A B L _
unfamiliar_name N (have_cond K A B L O c) (cond_behind then_word) = then_cond_familiar _ K A B L _
unfamiliar_name N (have_cond K A B L O c) (cond_behind do_word) = do_cond_familiar _ K A B L _
unfamiliar_name N (have_cond K A B L O c) strange = tt

unfamiliar_of : (N : Names) (s : State) (w : Word) → advance N s w ≡ unfamiliar → NameGround N s w
unfamiliar_of N s w e = subst (IfUnfamiliar (NameGround N s w)) e (unfamiliar_name N s w)

no_over : {o n : ℕ} → over_limit o ≡ unknown n → ⊥
no_over {o} {n} e = let z : ◌≡◌ {A = ℕ} 0 1 = cc in omega arith

no_misplaced : {o n : ℕ} → misplaced o ≡ unknown n → ⊥
no_misplaced {o} {n} e = let z : ◌≡◌ {A = ℕ} 0 1 = cc in omega arith

same_unknown : {o n : ℕ} → unknown o ≡ unknown n → o ≡ n
same_unknown e = cc

leads_on : (N : Names) (ws : List Word) (s : State) (u : List ℕ) → Runs N start ws s → (r : State) × (moved (advance N s (name u)) ≡ some r) →
    Begins N (ws ++ name u ∷ [])
leads_on N ws s u x (r, e) = runs_begin N (ws ++ name u ∷ []) r (runs_on x (move e stay))

module _ (N : Names) (text : List ℕ) where
  abbrev Unlisted : ℕ → Type 0
  Unlisted o =
      (ws : List Word) × (w : List ℕ) × WordAt text o ws (name w) × Begins N ws × BeginsNone N (ws ++ name w ∷ [])
      × (((number_of N.acts w ≡ none) × Begins (with_act N w) (ws ++ name w ∷ []))
      ⊎ ((number_of N.facts w ≡ none) × Begins (with_fact N w) (ws ++ name w ∷ [])))

  unlisted :
      (us ts : List Token) (n k : ℕ) (s : State) (o : ℕ) → tokens text ≡ ts ++ us → Runs N start (words_of ts) s →
      read_on N (length text) us n k s ≡ refused (unknown o) → Unlisted o
  unlisted [] ts n k s o e r f = absurd (no_misplaced (missing N (length text) (words_of ts) s (unknown o) r f).0)
  unlisted (x ∷ us) ts n k s o e r f =
      by (advance N s x.word) refl (cause x.offset n k (read_on N (length text) us) (unknown o) (advance N s x.word) f)
      (λ n k q h g. unlisted us (ts ++ x ∷ []) n k q o (e ∙ sym (append_assoc ts (x ∷ []) us)) (one_further N text ts x s q r h) g)
    where
      by : (y : Advance) → advance N s x.word ≡ y → Cause x.offset (read_on N (length text) us) (unknown o) y →
          ((n k : ℕ) (q : State) → moved (advance N s x.word) ≡ some q → read_on N (length text) us n k q ≡ refused (unknown o) → Unlisted o) → Unlisted o
      by (goes q) h (inl (n, k, g)) go = go n k q (ap moved h) g
      by (goes q) h (inr g) go = absurd (no_over g)
      by (goes_by_act q) h (inl (n, k, g)) go = go n k q (ap moved h) g
      by (goes_by_act q) h (inr g) go = absurd (no_over g)
      by misfit h g go = absurd (no_misplaced g)
      by unfamiliar h g go =
          let (u, i, d) = unfamiliar_of N s x.word h in
          let ws : List Word = words_of ts in (
            ws,
            u,
            (ts, us, e ∙ (ap (λ j. ts ++ token j x.word ∷ us) (same_unknown g) ∙ ap (λ j. ts ++ token o j ∷ us) i), refl),
            runs_begin N ws s r,
            subst (λ j. BeginsNone N (ws ++ j ∷ [])) i (nowhere N ws s x.word r (ap moved h)),
            elim d [
              | inl (a, b) ↦ let (j, m) = added N.acts u in inl (a, leads_on (with_act N u) ws s u (runs_with_act N u r) (b (with_act N u) j m))
              | inr (a, b) ↦ let (j, m) = added N.facts u in inr (a, leads_on (with_fact N u) ws s u (runs_with_fact N u r) (b (with_fact N u) j m))
            ],
          )

pub unknown_is_first : UnknownIsFirst
unknown_is_first N text o e = unlisted N text (tokens text) [] 0 0 start o refl stay e
