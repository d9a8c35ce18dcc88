-- Whether a word fits does not hang on which names are listed: the states that the same words lead to are alike.
use Rattle.std.proofs.Common.{◌≡◌, ℕ, List, [], ◌∷◌, sym, refl, ap, subst, arith}
use mathlib.Core.Option.{Option, none, some}
use Rattle.golog.specs.Programs.{Cond, Prog}
use Rattle.golog.specs.Words.{Word}
use Rattle.golog.specs.Words.Word.{name, open_round, close_round, begins, behind, cond_begins, cond_behind, strange}
use Rattle.golog.specs.Words.Begin.{open_square, nil_word, if_word, while_word}
use Rattle.golog.specs.Words.Behind.{asterisk, semicolon, bar, else_word, fi_word, od_word}
use Rattle.golog.specs.Words.CondBegin.{true_word, false_word, not_word}
use Rattle.golog.specs.Words.CondBehind.{and_word, or_word, close_square, then_word, do_word}
use Rattle.golog.specs.Grammar.{Names, number_of}
use Rattle.golog.specs.Reading.{Sofar, CondSofar, Frame, Base, Nest, State, Advance, operand, act_word, fact_word, close_choice, else_choice, fi_choice, od_choice, close_cond, square_cond, then_cond, do_cond, advance}
use Rattle.golog.specs.Reading.Frame.{in_round, in_then, in_else, in_do}
use Rattle.golog.specs.Reading.Base.{of_test, of_if, of_while}
use Rattle.golog.specs.Reading.Nest.{bracket, negation}
use Rattle.golog.specs.Reading.State.{want, have, want_cond, have_cond}
use Rattle.golog.specs.Reading.Advance.{goes, goes_by_act, misfit, unfamiliar}
use Rattle.golog.proofs.Complete.{Runs, moved, same_state, none_some}
use Rattle.golog.proofs.Complete.Runs.{stay, move}

-- the same parts are open, whatever was read in them
pub data Frames : List Frame → List Frame → Type 0 where
  no_frames : Frames [] []
  rounds : {A B : Sofar} {K M : List Frame} → Frames K M → Frames (in_round A ∷ K) (in_round B ∷ M)
  thens : {A B : Sofar} {c d : Cond} {K M : List Frame} → Frames K M → Frames (in_then A c ∷ K) (in_then B d ∷ M)
  elses : {A B : Sofar} {c d : Cond} {p q : Prog} {K M : List Frame} → Frames K M → Frames (in_else A c p ∷ K) (in_else B d q ∷ M)
  dos : {A B : Sofar} {c d : Cond} {K M : List Frame} → Frames K M → Frames (in_do A c ∷ K) (in_do B d ∷ M)

pub data Nests : List Nest → List Nest → Type 0 where
  no_nests : Nests [] []
  brackets : {O P : CondSofar} {L M : List Nest} → Nests L M → Nests (bracket O ∷ L) (bracket P ∷ M)
  negations : {O P : CondSofar} {L M : List Nest} → Nests L M → Nests (negation O ∷ L) (negation P ∷ M)

pub data Alike : State → State → Type 0 where
  wants : {K M : List Frame} {A B : Sofar} → Frames K M → Alike (want K A) (want M B)
  haves : {K M : List Frame} {A B : Sofar} {p q : Prog} → Frames K M → Alike (have K A p) (have M B q)
  want_conds : {K M : List Frame} {A B : Sofar} {b : Base} {L J : List Nest} {O P : CondSofar} → Frames K M → Nests L J →
      Alike (want_cond K A b L O) (want_cond M B b J P)
  have_conds : {K M : List Frame} {A B : Sofar} {b : Base} {L J : List Nest} {O P : CondSofar} {c d : Cond} → Frames K M → Nests L J →
      Alike (have_cond K A b L O c) (have_cond M B b J P d)

-- a word does alike under two lists of names, but where one of them lacks its name
pub data Does : Advance → Advance → Type 0 where
  both_go : {s r : State} → Alike s r → Does (goes s) (goes r)
  both_act : {s r : State} → Alike s r → Does (goes_by_act s) (goes_by_act r)
  both_misfit : Does misfit misfit
  first_lacks : {y : Advance} → Does unfamiliar y
  second_goes : {s : State} → Does (goes s) unfamiliar
  second_acts : {s : State} → Does (goes_by_act s) unfamiliar

operands : {K M : List Frame} (A B : Sofar) (b : Base) {L J : List Nest} (O P : CondSofar) (c d : Cond) → Frames K M → Nests L J →
    Alike (operand K A b L O c) (operand M B b J P d)
operands A B b O P c d f no_nests = Alike.have_conds f no_nests
operands A B b O P c d f (brackets n) = Alike.have_conds f (brackets n)
operands A B b O P c d f (negations {O = Q} {P = R} n) = operands A B b Q R _ _ f n

acts : {K M : List Frame} (A B : Sofar) (i j : Option ℕ) → Frames K M → Does (act_word K A i) (act_word M B j)
acts A B none j f = Does.first_lacks
acts A B (some i) none f = Does.second_acts
acts A B (some i) (some j) f = Does.both_act (Alike.haves f)

facts : {K M : List Frame} (A B : Sofar) (b : Base) {L J : List Nest} (O P : CondSofar) (i j : Option ℕ) → Frames K M → Nests L J →
    Does (fact_word K A b L O i) (fact_word M B b J P j)
facts A B b O P none j f n = Does.first_lacks
facts A B b O P (some i) none f n = Does.second_goes
facts A B b O P (some i) (some j) f n = Does.both_go (operands A B b O P _ _ f n)

closes : {K M : List Frame} (p q : Prog) → Frames K M → Does (close_choice K p) (close_choice M q)
closes p q no_frames = Does.both_misfit
closes p q (rounds f) = Does.both_go (Alike.haves f)
closes p q (thens f) = Does.both_misfit
closes p q (elses f) = Does.both_misfit
closes p q (dos f) = Does.both_misfit

else_words : {K M : List Frame} (p q : Prog) → Frames K M → Does (else_choice K p) (else_choice M q)
else_words p q no_frames = Does.both_misfit
else_words p q (rounds f) = Does.both_misfit
else_words p q (thens f) = Does.both_go (Alike.wants (elses f))
else_words p q (elses f) = Does.both_misfit
else_words p q (dos f) = Does.both_misfit

fi_words : {K M : List Frame} (p q : Prog) → Frames K M → Does (fi_choice K p) (fi_choice M q)
fi_words p q no_frames = Does.both_misfit
fi_words p q (rounds f) = Does.both_misfit
fi_words p q (thens f) = Does.both_misfit
fi_words p q (elses f) = Does.both_go (Alike.haves f)
fi_words p q (dos f) = Does.both_misfit

od_words : {K M : List Frame} (p q : Prog) → Frames K M → Does (od_choice K p) (od_choice M q)
od_words p q no_frames = Does.both_misfit
od_words p q (rounds f) = Does.both_misfit
od_words p q (thens f) = Does.both_misfit
od_words p q (elses f) = Does.both_misfit
od_words p q (dos f) = Does.both_go (Alike.haves f)

cond_closes : {K M : List Frame} (A B : Sofar) (b : Base) {L J : List Nest} (c d : Cond) → Frames K M → Nests L J →
    Does (close_cond K A b L c) (close_cond M B b J d)
cond_closes A B b c d f no_nests = Does.both_misfit
cond_closes A B b c d f (brackets {O = O} {P = P} n) = Does.both_go (operands A B b O P c d f n)
cond_closes A B b c d f (negations n) = Does.both_misfit

squares : {K M : List Frame} (A B : Sofar) (b : Base) {L J : List Nest} (c d : Cond) → Frames K M → Nests L J →
    Does (square_cond K A b L c) (square_cond M B b J d)
squares A B of_test c d f no_nests = Does.both_go (Alike.haves f)
squares A B of_test c d f (brackets n) = Does.both_misfit
squares A B of_test c d f (negations n) = Does.both_misfit
squares A B of_if c d f n = Does.both_misfit
squares A B of_while c d f n = Does.both_misfit

then_words : {K M : List Frame} (A B : Sofar) (b : Base) {L J : List Nest} (c d : Cond) → Frames K M → Nests L J →
    Does (then_cond K A b L c) (then_cond M B b J d)
then_words A B of_test c d f n = Does.both_misfit
then_words A B of_if c d f no_nests = Does.both_go (Alike.wants (thens f))
then_words A B of_if c d f (brackets n) = Does.both_misfit
then_words A B of_if c d f (negations n) = Does.both_misfit
then_words A B of_while c d f n = Does.both_misfit

do_words : {K M : List Frame} (A B : Sofar) (b : Base) {L J : List Nest} (c d : Cond) → Frames K M → Nests L J →
    Does (do_cond K A b L c) (do_cond M B b J d)
do_words A B of_test c d f n = Does.both_misfit
do_words A B of_if c d f n = Does.both_misfit
do_words A B of_while c d f no_nests = Does.both_go (Alike.wants (dos f))
do_words A B of_while c d f (brackets n) = Does.both_misfit
do_words A B of_while c d f (negations n) = Does.both_misfit

advances : (N M : Names) {s r : State} (w : Word) → Alike s r → Does (advance N s w) (advance M r w)
advances N M (name w) (Alike.wants {A = A} {B = B} f) = acts A B (number_of N.acts w) (number_of M.acts w) f
advances N M open_round (Alike.wants f) = Does.both_go (Alike.wants (rounds f))
advances N M close_round (Alike.wants f) = Does.both_misfit
advances N M (begins open_square) (Alike.wants f) = Does.both_go (Alike.want_conds f no_nests)
advances N M (begins nil_word) (Alike.wants f) = Does.both_go (Alike.haves f)
advances N M (begins if_word) (Alike.wants f) = Does.both_go (Alike.want_conds f no_nests)
advances N M (begins while_word) (Alike.wants f) = Does.both_go (Alike.want_conds f no_nests)
advances N M (behind b) (Alike.wants f) = Does.both_misfit
advances N M (cond_begins b) (Alike.wants f) = Does.both_misfit
advances N M (cond_behind b) (Alike.wants f) = Does.both_misfit
advances N M strange (Alike.wants f) = Does.both_misfit
advances N M (name w) (Alike.haves f) = Does.both_misfit
advances N M open_round (Alike.haves f) = Does.both_misfit
advances N M close_round (Alike.haves f) = closes _ _ f
advances N M (begins b) (Alike.haves f) = Does.both_misfit
advances N M (behind asterisk) (Alike.haves f) = Does.both_go (Alike.haves f)
advances N M (behind semicolon) (Alike.haves f) = Does.both_go (Alike.wants f)
advances N M (behind bar) (Alike.haves f) = Does.both_go (Alike.wants f)
advances N M (behind else_word) (Alike.haves f) = else_words _ _ f
advances N M (behind fi_word) (Alike.haves f) = fi_words _ _ f
advances N M (behind od_word) (Alike.haves f) = od_words _ _ f
advances N M (cond_begins b) (Alike.haves f) = Does.both_misfit
advances N M (cond_behind b) (Alike.haves f) = Does.both_misfit
advances N M strange (Alike.haves f) = Does.both_misfit
advances N M (name w) (Alike.want_conds {A = A} {B = B} {b = b} {O = O} {P = P} f n) =
    facts A B b O P (number_of N.facts w) (number_of M.facts w) f n
advances N M open_round (Alike.want_conds f n) = Does.both_go (Alike.want_conds f (brackets n))
advances N M close_round (Alike.want_conds f n) = Does.both_misfit
advances N M (begins b) (Alike.want_conds f n) = Does.both_misfit
advances N M (behind b) (Alike.want_conds f n) = Does.both_misfit
advances N M (cond_begins true_word) (Alike.want_conds {A = A} {B = B} {b = b} {O = O} {P = P} f n) =
    Does.both_go (operands A B b O P _ _ f n)
advances N M (cond_begins false_word) (Alike.want_conds {A = A} {B = B} {b = b} {O = O} {P = P} f n) =
    Does.both_go (operands A B b O P _ _ f n)
advances N M (cond_begins not_word) (Alike.want_conds f n) = Does.both_go (Alike.want_conds f (negations n))
advances N M (cond_behind b) (Alike.want_conds f n) = Does.both_misfit
advances N M strange (Alike.want_conds f n) = Does.both_misfit
advances N M (name w) (Alike.have_conds f n) = Does.both_misfit
advances N M open_round (Alike.have_conds f n) = Does.both_misfit
advances N M close_round (Alike.have_conds {A = A} {B = B} {b = b} f n) = cond_closes A B b _ _ f n
advances N M (begins b) (Alike.have_conds f n) = Does.both_misfit
advances N M (behind b) (Alike.have_conds f n) = Does.both_misfit
advances N M (cond_begins b) (Alike.have_conds f n) = Does.both_misfit
advances N M (cond_behind and_word) (Alike.have_conds f n) = Does.both_go (Alike.want_conds f n)
advances N M (cond_behind or_word) (Alike.have_conds f n) = Does.both_go (Alike.want_conds f n)
advances N M (cond_behind close_square) (Alike.have_conds {A = A} {B = B} {b = b} f n) = squares A B b _ _ f n
advances N M (cond_behind then_word) (Alike.have_conds {A = A} {B = B} {b = b} f n) = then_words A B b _ _ f n
advances N M (cond_behind do_word) (Alike.have_conds {A = A} {B = B} {b = b} f n) = do_words A B b _ _ f n
advances N M strange (Alike.have_conds f n) = Does.both_misfit

-- where both go on, the states are alike
both_moved : {x y : Advance} {s r : State} → Does x y → moved x ≡ some s → moved y ≡ some r → Alike s r
both_moved {r = r} (Does.both_go a) e f = subst (λ i. Alike i r) (same_state e) (subst (Alike _) (same_state f) a)
both_moved {r = r} (Does.both_act a) e f = subst (λ i. Alike i r) (same_state e) (subst (Alike _) (same_state f) a)
both_moved Does.both_misfit e f = absurd (none_some e)
both_moved Does.first_lacks e f = absurd (none_some e)
both_moved Does.second_goes e f = absurd (none_some f)
both_moved Does.second_acts e f = absurd (none_some f)

pub runs_alike : {N M : Names} {s r t u : State} {ws : List Word} → Alike s r → Runs N s ws t → Runs M r ws u → Alike t u
runs_alike a stay stay = a
runs_alike {N} {M} a (move {w = w} e x) (move f y) = runs_alike (both_moved (advances N M w a) e f) x y

-- a word that does not fit leads nowhere from any state alike
if_misfit : {x y : Advance} → Does x y → x ≡ misfit → moved y ≡ none
if_misfit (Does.both_go a) e = absurd (none_some (ap moved (sym e)))
if_misfit (Does.both_act a) e = absurd (none_some (ap moved (sym e)))
if_misfit Does.both_misfit e = refl
if_misfit Does.first_lacks e = absurd (lacks e)
  where
    lacks : unfamiliar ≡ misfit → ⊥
    lacks e = let z : ◌≡◌ {A = ℕ} 0 1 = cc in omega arith
if_misfit Does.second_goes e = refl
if_misfit Does.second_acts e = refl

pub misfits : (N M : Names) {s r : State} (w : Word) → Alike s r → advance N s w ≡ misfit → moved (advance M r w) ≡ none
misfits N M w a e = if_misfit (advances N M w a) e
