-- What the tree of a text that is read keeps to.
use Rattle.std.proofs.Common.{◌≡◌, ℕ, suc, ◌+◌, ◌<◌, ◌≤◌, Bool, true, false, ◌&&◌, leb, List, [], ◌∷◌, length, refl, ap, subst, arith, length-append}
use mathlib.Core.Option.{Option, none, some}
use Rattle.std.proofs.lemmas.Bool.{and_parts, and_from, lt-ltb, leb-true}
use Rattle.golog.specs.Programs.{Cond, Prog, cond_names_below, names_below, acts_below}
use Rattle.golog.specs.Programs.Prog.{seq, alt}
use Rattle.golog.specs.Points.{act_words, words}
use Rattle.words.specs.Names.{same_word}
use Rattle.golog.specs.Words.{Word, Token, tokens}
use Rattle.golog.specs.Words.Word.{name, open_round, close_round, begins, behind, cond_begins, cond_behind, strange}
use Rattle.golog.specs.Words.Begin.{open_square, nil_word, if_word, while_word}
use Rattle.golog.specs.Words.Behind.{asterisk, semicolon, bar, else_word, fi_word, od_word}
use Rattle.golog.specs.Words.CondBegin.{true_word, false_word, not_word}
use Rattle.golog.specs.Words.CondBehind.{and_word, or_word, close_square, then_word, do_word}
use Rattle.golog.specs.Grammar.{Names, one_up, number_of, Sort, CondSort, Reads, CondReads}
use Rattle.golog.specs.Reading.{Sofar, CondSofar, Frame, Base, Nest, State, Advance, Reading, then_also, or_else, whole, operand, act_word, fact_word, close_choice, else_choice, fi_choice, od_choice, close_cond, square_cond, then_cond, do_cond, advance, depth, most_words, most_act_words, most_depth, in_limits, after_word, finish, read_on, read, start}
use Rattle.golog.specs.Reading.Frame.{in_round, in_then, in_else, in_do}
use Rattle.golog.specs.Reading.Base.{of_test, of_if, of_while}
use Rattle.golog.specs.Reading.Nest.{bracket, negation}
use Rattle.golog.specs.Reading.State.{want, have, want_cond, have_cond}
use Rattle.golog.specs.Reading.Advance.{goes, goes_by_act, misfit, unfamiliar}
use Rattle.golog.specs.Reading.TextFault.{over_limit}
use Rattle.golog.specs.Reading.Reading.{tree, refused}
use Rattle.golog.proofs.ReadingProof.{reading_is_grammar, not_a_tree, same_tree}

pub one_up_found : (x : Option ℕ) (i : ℕ) → one_up x ≡ some i → (j : ℕ) × (x ≡ some j) × (i ≡ suc j)
one_up_found none i e = let z : ◌≡◌ {A = ℕ} 0 1 = cc in absurd (omega arith)
one_up_found (some j) i e = (j, refl, cc)

same_found : {i j : ℕ} → ◌≡◌ {A = Option ℕ} (some i) (some j) → i ≡ j
same_found e = cc

pub number_below : (ns : List (List ℕ)) (w : List ℕ) (i : ℕ) → number_of ns w ≡ some i → i < length ns
number_below [] w i e = let z : ◌≡◌ {A = ℕ} 0 1 = cc in absurd (omega arith)
number_below (n ∷ ns) w i e = by (same_word n w) e (number_below ns w)
  where
    by : (b : Bool) → ◌≡◌ {A = Option ℕ} (elim b [ true ↦ some 0 | false ↦ one_up (number_of ns w) ]) (some i) →
        ((j : ℕ) → number_of ns w ≡ some j → j < length ns) → i < suc (length ns)
    by true e h = let x = same_found e in omega arith
    by false e h = let (j, f, g) = one_up_found (number_of ns w) i e in let l = h j f in omega arith

cond_known : {N : Names} {k : CondSort} {ws : List Word} {c : Cond} → CondReads N k ws c → cond_names_below (length N.facts) c ≡ true
cond_known {N} (CondReads.a_fact {w = w} {i = i} e) = lt-ltb i (length N.facts) (number_below N.facts w i e)
cond_known CondReads.a_true = refl
cond_known CondReads.a_false = refl
cond_known (CondReads.a_not x) = cond_known x
cond_known (CondReads.in_brackets x) = cond_known x
cond_known (CondReads.one_literal x) = cond_known x
cond_known (CondReads.an_and x y) = and_from _ _ (cond_known x) (cond_known y)
cond_known (CondReads.one_conjunction x) = cond_known x
cond_known (CondReads.an_or x y) = and_from _ _ (cond_known x) (cond_known y)

facts_known : {N : Names} {k : Sort} {ws : List Word} {p : Prog} → Reads N k ws p → names_below (length N.facts) p ≡ true
facts_known (Reads.an_act e) = refl
facts_known (Reads.a_test x) = cond_known x
facts_known Reads.a_nil = refl
facts_known (Reads.in_brackets x) = facts_known x
facts_known (Reads.an_if x y z) = and_from _ _ (and_from _ _ (cond_known x) (facts_known y)) (and_from _ _ (cond_known x) (facts_known z))
facts_known (Reads.a_while x y) = and_from _ _ (and_from _ _ (cond_known x) (facts_known y)) (cond_known x)
facts_known (Reads.one_atom x) = facts_known x
facts_known (Reads.a_star x) = facts_known x
facts_known (Reads.one_item x) = facts_known x
facts_known (Reads.a_semicolon x y) = and_from _ _ (facts_known x) (facts_known y)
facts_known (Reads.one_sequence x) = facts_known x
facts_known (Reads.a_bar x y) = and_from _ _ (facts_known x) (facts_known y)

acts_known : {N : Names} {k : Sort} {ws : List Word} {p : Prog} → Reads N k ws p → acts_below (length N.acts) p ≡ true
acts_known {N} (Reads.an_act {w = w} {a = a} e) = lt-ltb a (length N.acts) (number_below N.acts w a e)
acts_known (Reads.a_test x) = refl
acts_known Reads.a_nil = refl
acts_known (Reads.in_brackets x) = acts_known x
acts_known (Reads.an_if x y z) = and_from _ _ (acts_known y) (acts_known z)
acts_known (Reads.a_while x y) = and_from _ _ (acts_known y) refl
acts_known (Reads.one_atom x) = acts_known x
acts_known (Reads.a_star x) = acts_known x
acts_known (Reads.one_item x) = acts_known x
acts_known (Reads.a_semicolon x y) = and_from _ _ (acts_known x) (acts_known y)
acts_known (Reads.one_sequence x) = acts_known x
acts_known (Reads.a_bar x y) = and_from _ _ (acts_known x) (acts_known y)

-- the act words of what was read up to a state
abbrev words_before : Option Prog → ℕ
words_before none = 0
words_before (some p) = words p

abbrev words_so_far : Sofar → ℕ
words_so_far A = words_before A.0 + words_before A.1

abbrev frame_words : Frame → ℕ
frame_words (in_round A) = words_so_far A
frame_words (in_then A c) = words_so_far A
frame_words (in_else A c p) = words_so_far A + words p
frame_words (in_do A c) = words_so_far A

abbrev frames_words : List Frame → ℕ
frames_words [] = 0
frames_words (f ∷ K) = frame_words f + frames_words K

abbrev state_words : State → ℕ
state_words (want K A) = frames_words K + words_so_far A
state_words (have K A p) = frames_words K + words_so_far A + words p
state_words (want_cond K A B L O) = frames_words K + words_so_far A
state_words (have_cond K A B L O c) = frames_words K + words_so_far A

words_seq : (p q : Prog) → words (seq p q) ≡ words p + words q
words_seq p q = length-append (act_words p) (act_words q)

words_alt : (p q : Prog) → words (alt p q) ≡ words p + words q
words_alt p q = length-append (act_words p) (act_words q)

words_then : (s : Option Prog) (p : Prog) → words (then_also s p) ≡ words_before s + words p
words_then none p = omega arith
words_then (some s) p = words_seq s p

words_or : (a : Option Prog) (p : Prog) → words (or_else a p) ≡ words_before a + words p
words_or none p = omega arith
words_or (some a) p = words_alt a p

words_whole : (A : Sofar) (p : Prog) → words (whole A p) ≡ words_so_far A + words p
words_whole A p = let x = words_or A.0 (then_also A.1 p) in let y = words_then A.1 p in omega arith

operand_words : (K : List Frame) (A : Sofar) (B : Base) (L : List Nest) (O : CondSofar) (c : Cond) →
    state_words (operand K A B L O c) ≡ frames_words K + words_so_far A
operand_words K A B [] O c = refl
operand_words K A B (bracket P ∷ L) O c = refl
operand_words K A B (negation P ∷ L) O c = operand_words K A B L P _

-- a word keeps the count of act words, and an act word adds one
abbrev WordsAfter : ℕ → Advance → Type 0
WordsAfter n (goes s) = state_words s ≡ n
WordsAfter n (goes_by_act s) = state_words s ≡ suc n
WordsAfter n misfit = Unit {0}
WordsAfter n unfamiliar = Unit {0}

close_words : (K : List Frame) (p : Prog) → WordsAfter (frames_words K + words p) (close_choice K p)
close_words [] p = tt
close_words (in_round A ∷ K) p = omega arith
close_words (in_then A c ∷ K) p = tt
close_words (in_else A c q ∷ K) p = tt
close_words (in_do A c ∷ K) p = tt

else_words : (K : List Frame) (p : Prog) → WordsAfter (frames_words K + words p) (else_choice K p)
else_words [] p = tt
else_words (in_round A ∷ K) p = tt
else_words (in_then A c ∷ K) p = omega arith
else_words (in_else A c q ∷ K) p = tt
else_words (in_do A c ∷ K) p = tt

fi_words : (K : List Frame) (p : Prog) → WordsAfter (frames_words K + words p) (fi_choice K p)
fi_words [] p = tt
fi_words (in_round A ∷ K) p = tt
fi_words (in_then A c ∷ K) p = tt
fi_words (in_else A c q ∷ K) p = let x = length-append (act_words q) (act_words p) in omega arith
fi_words (in_do A c ∷ K) p = tt

od_words : (K : List Frame) (p : Prog) → WordsAfter (frames_words K + words p) (od_choice K p)
od_words [] p = tt
od_words (in_round A ∷ K) p = tt
od_words (in_then A c ∷ K) p = tt
od_words (in_else A c q ∷ K) p = tt
od_words (in_do A c ∷ K) p = let x = length-append (act_words p) [] in omega arith

act_adds : (K : List Frame) (A : Sofar) (o : Option ℕ) → WordsAfter (frames_words K + words_so_far A) (act_word K A o)
act_adds K A none = tt
act_adds K A (some a) = omega arith

fact_keeps : (K : List Frame) (A : Sofar) (B : Base) (L : List Nest) (O : CondSofar) (o : Option ℕ) →
    WordsAfter (frames_words K + words_so_far A) (fact_word K A B L O o)
fact_keeps K A B L O none = tt
fact_keeps K A B L O (some i) = operand_words K A B L O _

close_cond_keeps : (K : List Frame) (A : Sofar) (B : Base) (L : List Nest) (c : Cond) → WordsAfter (frames_words K + words_so_far A) (close_cond K A B L c)
close_cond_keeps K A B [] c = tt
close_cond_keeps K A B (bracket P ∷ L) c = operand_words K A B L P c
close_cond_keeps K A B (negation P ∷ L) c = tt

square_cond_keeps : (K : List Frame) (A : Sofar) (B : Base) (L : List Nest) (c : Cond) → WordsAfter (frames_words K + words_so_far A) (square_cond K A B L c)
square_cond_keeps K A of_test [] c = omega arith
square_cond_keeps K A of_test (x ∷ L) c = tt
square_cond_keeps K A of_if L c = tt
square_cond_keeps K A of_while L c = tt

then_cond_keeps : (K : List Frame) (A : Sofar) (B : Base) (L : List Nest) (c : Cond) → WordsAfter (frames_words K + words_so_far A) (then_cond K A B L c)
then_cond_keeps K A of_test L c = tt
then_cond_keeps K A of_if [] c = omega arith
then_cond_keeps K A of_if (x ∷ L) c = tt
then_cond_keeps K A of_while L c = tt

do_cond_keeps : (K : List Frame) (A : Sofar) (B : Base) (L : List Nest) (c : Cond) → WordsAfter (frames_words K + words_so_far A) (do_cond K A B L c)
do_cond_keeps K A of_test L c = tt
do_cond_keeps K A of_if L c = tt
do_cond_keeps K A of_while [] c = omega arith
do_cond_keeps K A of_while (x ∷ L) c = tt

whole_keeps : (K : List Frame) (A : Sofar) (p : Prog) (y : Advance) → WordsAfter (frames_words K + words (whole A p)) y →
    WordsAfter (frames_words K + words_so_far A + words p) y
whole_keeps K A p y h =
    let e = words_whole A p in
    let f : frames_words K + words (whole A p) ≡ frames_words K + words_so_far A + words p = omega arith in
    subst (λ n. WordsAfter n y) f h

advance_words : (N : Names) (s : State) (w : Word) → WordsAfter (state_words s) (advance N s w)
advance_words N (want K A) (name w) = act_adds K A (number_of N.acts w)
advance_words N (want K A) open_round = omega arith
advance_words N (want K A) close_round = tt
advance_words N (want K A) (begins open_square) = refl
advance_words N (want K A) (begins nil_word) = omega arith
advance_words N (want K A) (begins if_word) = refl
advance_words N (want K A) (begins while_word) = refl
advance_words N (want K A) (behind b) = tt
advance_words N (want K A) (cond_begins b) = tt
advance_words N (want K A) (cond_behind b) = tt
advance_words N (want K A) strange = tt
advance_words N (have K A p) (name w) = tt
advance_words N (have K A p) open_round = tt
advance_words N (have K A p) close_round = whole_keeps K A p (close_choice K (whole A p)) (close_words K (whole A p))
advance_words N (have K A p) (begins b) = tt
advance_words N (have K A p) (behind asterisk) = refl
advance_words N (have K A p) (behind semicolon) = let x = words_then A.1 p in omega arith
advance_words N (have K A p) (behind bar) = let x = words_whole A p in omega arith
advance_words N (have K A p) (behind else_word) = whole_keeps K A p (else_choice K (whole A p)) (else_words K (whole A p))
advance_words N (have K A p) (behind fi_word) = whole_keeps K A p (fi_choice K (whole A p)) (fi_words K (whole A p))
advance_words N (have K A p) (behind od_word) = whole_keeps K A p (od_choice K (whole A p)) (od_words K (whole A p))
advance_words N (have K A p) (cond_begins b) = tt
advance_words N (have K A p) (cond_behind b) = tt
advance_words N (have K A p) strange = tt
advance_words N (want_cond K A B L O) (name w) = fact_keeps K A B L O (number_of N.facts w)
advance_words N (want_cond K A B L O) open_round = refl
advance_words N (want_cond K A B L O) close_round = tt
advance_words N (want_cond K A B L O) (begins b) = tt
advance_words N (want_cond K A B L O) (behind b) = tt
advance_words N (want_cond K A B L O) (cond_begins true_word) = operand_words K A B L O _
advance_words N (want_cond K A B L O) (cond_begins false_word) = operand_words K A B L O _
advance_words N (want_cond K A B L O) (cond_begins not_word) = refl
advance_words N (want_cond K A B L O) (cond_behind b) = tt
advance_words N (want_cond K A B L O) strange = tt
advance_words N (have_cond K A B L O c) (name w) = tt
advance_words N (have_cond K A B L O c) open_round = tt
advance_words N (have_cond K A B L O c) close_round = close_cond_keeps K A B L _
advance_words N (have_cond K A B L O c) (begins b) = tt
advance_words N (have_cond K A B L O c) (behind b) = tt
advance_words N (have_cond K A B L O c) (cond_begins b) = tt
advance_words N (have_cond K A B L O c) (cond_behind and_word) = refl
advance_words N (have_cond K A B L O c) (cond_behind or_word) = refl
advance_words N (have_cond K A B L O c) (cond_behind close_square) = square_cond_keeps K A B L _
advance_words N (have_cond K A B L O c) (cond_behind then_word) = then_cond_keeps K A B L _
advance_words N (have_cond K A B L O c) (cond_behind do_word) = do_cond_keeps K A B L _
advance_words N (have_cond K A B L O c) strange = tt

limit_words : (b : Bool) (n k : ℕ) (s : State) (x : Reading) (o : ℕ) (t : Prog) → in_limits n k s ≡ b →
    ◌≡◌ {A = Reading} (elim b [ true ↦ x | false ↦ refused (over_limit o) ]) (tree t) → (k ≤ most_act_words) × (x ≡ tree t)
limit_words true n k s x o t e f = (
  leb-true k most_act_words
      (and_parts (leb k most_act_words) (leb (depth s) most_depth)
      (and_parts (leb n most_words) (leb k most_act_words && leb (depth s) most_depth) e).1).0,
  f,
)
limit_words false n k s x o t e f = absurd (not_a_tree f)

word_bound :
    (o n k : ℕ) (f : ℕ → ℕ → State → Reading) (t : Prog) (y : Advance) → WordsAfter k y →
    ((n k : ℕ) (s : State) → state_words s ≡ k → k ≤ most_act_words → f n k s ≡ tree t → words t ≤ most_act_words) →
    k ≤ most_act_words → after_word o n k f y ≡ tree t → words t ≤ most_act_words
word_bound o n k f t (goes s) w h l e =
    let (_, x) = limit_words (in_limits (suc n) k s) (suc n) k s (f (suc n) k s) o t refl e in h (suc n) k s w l x
word_bound o n k f t (goes_by_act s) w h l e =
    let (b, x) = limit_words (in_limits (suc n) (suc k) s) (suc n) (suc k) s (f (suc n) (suc k) s) o t refl e in h (suc n) (suc k) s w b x
word_bound o n k f t misfit w h l e = absurd (not_a_tree e)
word_bound o n k f t unfamiliar w h l e = absurd (not_a_tree e)

end_bound : (len k : ℕ) (s : State) (t : Prog) → state_words s ≡ k → k ≤ most_act_words → finish len s ≡ tree t → words t ≤ most_act_words
end_bound len k (want K A) t w l e = absurd (not_a_tree e)
end_bound len k (have [] A p) t w l e = let x = words_whole A p in let y = ap words (same_tree e) in omega arith
end_bound len k (have (x ∷ K) A p) t w l e = absurd (not_a_tree e)
end_bound len k (want_cond K A B L O) t w l e = absurd (not_a_tree e)
end_bound len k (have_cond K A B L O c) t w l e = absurd (not_a_tree e)

read_bound : (N : Names) (len : ℕ) (ts : List Token) (t : Prog) (n k : ℕ) (s : State) → state_words s ≡ k → k ≤ most_act_words →
    read_on N len ts n k s ≡ tree t → words t ≤ most_act_words
read_bound N len [] t n k s w l e = end_bound len k s t w l e
read_bound N len (x ∷ ts) t n k s w l e =
    word_bound x.offset n k (read_on N len ts) t (advance N s x.word) (subst (λ i. WordsAfter i (advance N s x.word)) w (advance_words N s x.word))
    (read_bound N len ts t) l e

-- a text that is read has at most 63 act words in its tree
pub tree_bound : (N : Names) (text : List ℕ) (t : Prog) → read N text ≡ tree t →
    (names_below (length N.facts) t ≡ true) × (acts_below (length N.acts) t ≡ true) × (words t ≤ most_act_words)
tree_bound N text t e =
    let r = (reading_is_grammar N text t).0 e in
    (facts_known r, acts_known r, read_bound N (length text) (tokens text) t 0 0 start refl (omega arith) e)
