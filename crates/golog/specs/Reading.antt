-- Reading a routine's text word by word, front to back, with the fault of the first word that has one.
use Rattle.std.specs.Prelude.{◌≡◌, ℕ, suc, ◌+◌, ◌<◌, ◌≤◌, Bool, true, false, ◌&&◌, ◌⊎◌, List, [], ◌∷◌, ◌++◌, length, nat_le}
use Rattle.std.proofs.Math.Option.{Option, none, some}
use Rattle.golog.specs.Faults.{Fault, text_layer}
use Rattle.golog.specs.Programs.{Cond, Prog, nil, if_then_else, while_do, names_below, acts_below}
use Rattle.golog.specs.Programs.Cond.{always, never, fact, negated, both, any}
use Rattle.golog.specs.Programs.Prog.{act, test, seq, alt, star}
use Rattle.golog.specs.Points.{words}
use Rattle.golog.specs.Words.{Word, Begin, Behind, CondBegin, CondBehind, Token, token, tokens, words_of, text_words}
use Rattle.golog.specs.Words.Word.{name, open_round, close_round, begins, behind, cond_begins, cond_behind, strange}
use Rattle.golog.specs.Words.Begin.{open_square, nil_word, if_word, while_word}
use Rattle.golog.specs.Words.Behind.{asterisk, semicolon, bar, else_word, fi_word, od_word}
use Rattle.golog.specs.Words.CondBegin.{true_word, false_word, not_word}
use Rattle.golog.specs.Words.CondBehind.{and_word, or_word, close_square, then_word, do_word}
use Rattle.golog.specs.Counts.{acts_among, nesting}
use Rattle.golog.specs.Grammar.{Names, number_of, Reads, TextReads}
use Rattle.golog.specs.Grammar.Sort.{choice}

-- What was read of a choice before the item at hand: the sequences before the last |, and the items of this sequence before the last ;.
abbrev pub Sofar : Type 0
Sofar = Option Prog × Option Prog

abbrev pub CondSofar : Type 0
CondSofar = Option Cond × Option Cond

-- the same with the item at hand, grouped from the left
abbrev pub then_also : Option Prog → Prog → Prog
then_also none p = p
then_also (some s) p = seq s p

abbrev pub or_else : Option Prog → Prog → Prog
or_else none p = p
or_else (some a) p = alt a p

abbrev pub whole : Sofar → Prog → Prog
whole f p = or_else f.0 (then_also f.1 p)

abbrev pub and_also : Option Cond → Cond → Cond
and_also none c = c
and_also (some b) c = both b c

abbrev pub or_also : Option Cond → Cond → Cond
or_also none c = c
or_also (some b) c = any b c

abbrev pub whole_cond : CondSofar → Cond → Cond
whole_cond f c = or_also f.0 (and_also f.1 c)

-- an open part of a routine, with what was read before it: round brackets; then with its condition;
-- else with the condition and what stood between then and else; do with its condition
pub data Frame : Type 0 where
  in_round : Sofar → Frame
  in_then : Sofar → Cond → Frame
  in_else : Sofar → Cond → Prog → Frame
  in_do : Sofar → Cond → Frame

-- which condition is open: of a test, an if or a while
pub data Base : Type 0 where
  of_test of_if of_while : Base

-- an open part of a condition: round brackets, or a not that waits for its operand
pub data Nest : Type 0 where
  bracket : CondSofar → Nest
  negation : CondSofar → Nest

-- Where the reading stands: an atom is wanted, or an item was read; an operand of a condition is wanted, or a condition was read.
pub data State : Type 0 where
  want : List Frame → Sofar → State
  have : List Frame → Sofar → Prog → State
  want_cond : List Frame → Sofar → Base → List Nest → CondSofar → State
  have_cond : List Frame → Sofar → Base → List Nest → CondSofar → Cond → State

-- at the beginning nothing was read
abbrev pub nothing : Sofar
nothing = (none, none)

abbrev pub nothing_cond : CondSofar
nothing_cond = (none, none)

abbrev pub start : State
start = want [] nothing

-- What a word does: the reading goes on; it goes on by an act word; the word is not of the grammar here; its name is not known.
pub data Advance : Type 0 where
  goes : State → Advance
  goes_by_act : State → Advance
  misfit : Advance
  unfamiliar : Advance

-- an operand of a condition was read: a not that waited for it takes it
abbrev pub operand : List Frame → Sofar → Base → List Nest → CondSofar → Cond → State
operand K A B [] O c = have_cond K A B [] O c
operand K A B (bracket P ∷ L) O c = have_cond K A B (bracket P ∷ L) O c
operand K A B (negation P ∷ L) O c = operand K A B L P (negated c)

abbrev pub act_word : List Frame → Sofar → Option ℕ → Advance
act_word K A none = unfamiliar
act_word K A (some a) = goes_by_act (have K A (act a))

abbrev pub fact_word : List Frame → Sofar → Base → List Nest → CondSofar → Option ℕ → Advance
fact_word K A B L O none = unfamiliar
fact_word K A B L O (some i) = goes (operand K A B L O (fact i))

abbrev pub begin_word : List Frame → Sofar → Begin → State
begin_word K A open_square = want_cond K A of_test [] nothing_cond
begin_word K A nil_word = have K A nil
begin_word K A if_word = want_cond K A of_if [] nothing_cond
begin_word K A while_word = want_cond K A of_while [] nothing_cond

abbrev pub cond_begin_word : List Frame → Sofar → Base → List Nest → CondSofar → CondBegin → State
cond_begin_word K A B L O true_word = operand K A B L O always
cond_begin_word K A B L O false_word = operand K A B L O never
cond_begin_word K A B L O not_word = want_cond K A B (negation O ∷ L) nothing_cond

-- a choice was read up to a closing round bracket, else, fi or od
abbrev pub close_choice : List Frame → Prog → Advance
close_choice [] p = misfit
close_choice (in_round A ∷ K) p = goes (have K A p)
close_choice (in_then A c ∷ K) p = misfit
close_choice (in_else A c q ∷ K) p = misfit
close_choice (in_do A c ∷ K) p = misfit

abbrev pub else_choice : List Frame → Prog → Advance
else_choice [] p = misfit
else_choice (in_round A ∷ K) p = misfit
else_choice (in_then A c ∷ K) p = goes (want (in_else A c p ∷ K) nothing)
else_choice (in_else A c q ∷ K) p = misfit
else_choice (in_do A c ∷ K) p = misfit

abbrev pub fi_choice : List Frame → Prog → Advance
fi_choice [] p = misfit
fi_choice (in_round A ∷ K) p = misfit
fi_choice (in_then A c ∷ K) p = misfit
fi_choice (in_else A c q ∷ K) p = goes (have K A (if_then_else c q p))
fi_choice (in_do A c ∷ K) p = misfit

abbrev pub od_choice : List Frame → Prog → Advance
od_choice [] p = misfit
od_choice (in_round A ∷ K) p = misfit
od_choice (in_then A c ∷ K) p = misfit
od_choice (in_else A c q ∷ K) p = misfit
od_choice (in_do A c ∷ K) p = goes (have K A (while_do c p))

abbrev pub behind_word : List Frame → Sofar → Prog → Behind → Advance
behind_word K A p asterisk = goes (have K A (star p))
behind_word K A p semicolon = goes (want K (A.0, some (then_also A.1 p)))
behind_word K A p bar = goes (want K (some (whole A p), none))
behind_word K A p else_word = else_choice K (whole A p)
behind_word K A p fi_word = fi_choice K (whole A p)
behind_word K A p od_word = od_choice K (whole A p)

-- a condition was read up to a closing round bracket
abbrev pub close_cond : List Frame → Sofar → Base → List Nest → Cond → Advance
close_cond K A B [] c = misfit
close_cond K A B (bracket P ∷ L) c = goes (operand K A B L P c)
close_cond K A B (negation P ∷ L) c = misfit

-- a condition was read up to ], then or do: no brackets are open in it, and it is that of a test, an if or a while
abbrev pub square_cond : List Frame → Sofar → Base → List Nest → Cond → Advance
square_cond K A of_test [] c = goes (have K A (test c))
square_cond K A of_test (x ∷ L) c = misfit
square_cond K A of_if L c = misfit
square_cond K A of_while L c = misfit

abbrev pub then_cond : List Frame → Sofar → Base → List Nest → Cond → Advance
then_cond K A of_test L c = misfit
then_cond K A of_if [] c = goes (want (in_then A c ∷ K) nothing)
then_cond K A of_if (x ∷ L) c = misfit
then_cond K A of_while L c = misfit

abbrev pub do_cond : List Frame → Sofar → Base → List Nest → Cond → Advance
do_cond K A of_test L c = misfit
do_cond K A of_if L c = misfit
do_cond K A of_while [] c = goes (want (in_do A c ∷ K) nothing)
do_cond K A of_while (x ∷ L) c = misfit

abbrev pub cond_behind_word : List Frame → Sofar → Base → List Nest → CondSofar → Cond → CondBehind → Advance
cond_behind_word K A B L O c and_word = goes (want_cond K A B L (O.0, some (and_also O.1 c)))
cond_behind_word K A B L O c or_word = goes (want_cond K A B L (some (whole_cond O c), none))
cond_behind_word K A B L O c close_square = square_cond K A B L (whole_cond O c)
cond_behind_word K A B L O c then_word = then_cond K A B L (whole_cond O c)
cond_behind_word K A B L O c do_word = do_cond K A B L (whole_cond O c)

-- one word
abbrev pub advance : Names → State → Word → Advance
advance N (want K A) (name w) = act_word K A (number_of N.acts w)
advance N (want K A) open_round = goes (want (in_round A ∷ K) nothing)
advance N (want K A) close_round = misfit
advance N (want K A) (begins b) = goes (begin_word K A b)
advance N (want K A) (behind b) = misfit
advance N (want K A) (cond_begins b) = misfit
advance N (want K A) (cond_behind b) = misfit
advance N (want K A) strange = misfit
advance N (have K A p) (name w) = misfit
advance N (have K A p) open_round = misfit
advance N (have K A p) close_round = close_choice K (whole A p)
advance N (have K A p) (begins b) = misfit
advance N (have K A p) (behind b) = behind_word K A p b
advance N (have K A p) (cond_begins b) = misfit
advance N (have K A p) (cond_behind b) = misfit
advance N (have K A p) strange = misfit
advance N (want_cond K A B L O) (name w) = fact_word K A B L O (number_of N.facts w)
advance N (want_cond K A B L O) open_round = goes (want_cond K A B (bracket O ∷ L) nothing_cond)
advance N (want_cond K A B L O) close_round = misfit
advance N (want_cond K A B L O) (begins b) = misfit
advance N (want_cond K A B L O) (behind b) = misfit
advance N (want_cond K A B L O) (cond_begins b) = goes (cond_begin_word K A B L O b)
advance N (want_cond K A B L O) (cond_behind b) = misfit
advance N (want_cond K A B L O) strange = misfit
advance N (have_cond K A B L O c) (name w) = misfit
advance N (have_cond K A B L O c) open_round = misfit
advance N (have_cond K A B L O c) close_round = close_cond K A B L (whole_cond O c)
advance N (have_cond K A B L O c) (begins b) = misfit
advance N (have_cond K A B L O c) (behind b) = misfit
advance N (have_cond K A B L O c) (cond_begins b) = misfit
advance N (have_cond K A B L O c) (cond_behind b) = cond_behind_word K A B L O c b
advance N (have_cond K A B L O c) strange = misfit

-- how deep the reading stands in brackets of both sorts, if, while and not
abbrev pub depth : State → ℕ
depth (want K A) = length K
depth (have K A p) = length K
depth (want_cond K A B L O) = suc (length K + length L)
depth (have_cond K A B L O c) = suc (length K + length L)

-- the limits of a text
abbrev pub most_words : ℕ
most_words = 512

abbrev pub most_act_words : ℕ
most_act_words = 63

abbrev pub most_depth : ℕ
most_depth = 32

-- after so many words and act words, and in this state, no limit is passed
abbrev pub in_limits : ℕ → ℕ → State → Bool
in_limits n k s = nat_le n most_words && (nat_le k most_act_words && nat_le (depth s) most_depth)

-- Why a text is refused, with the offset of the word, or the text's length where words are missing:
-- a word not of the grammar; an act or a fact that is not known; a limit passed.
pub data TextFault : Type 0 where
  misplaced : ℕ → TextFault
  unknown : ℕ → TextFault
  over_limit : ℕ → TextFault

-- faults 7, 8 and 9
abbrev pub text_fault : TextFault → Fault
text_fault (misplaced o) = record { number = 7; layer = text_layer; place = o }
text_fault (unknown o) = record { number = 8; layer = text_layer; place = o }
text_fault (over_limit o) = record { number = 9; layer = text_layer; place = o }

-- what reading a text answers: its tree, or why it is refused
pub data Reading : Type 0 where
  tree : Prog → Reading
  refused : TextFault → Reading

-- the end of a text of so many bytes
abbrev pub finish : ℕ → State → Reading
finish len (want K A) = refused (misplaced len)
finish len (have [] A p) = tree (whole A p)
finish len (have (x ∷ K) A p) = refused (misplaced len)
finish len (want_cond K A B L O) = refused (misplaced len)
finish len (have_cond K A B L O c) = refused (misplaced len)

-- what becomes of a word at the offset o, after n words and k act words; f reads on. The faults are tried by rising number.
abbrev pub in_limit : ℕ → ℕ → ℕ → (ℕ → ℕ → State → Reading) → State → Reading
in_limit o n k f s = elim (in_limits n k s) [ true ↦ f n k s | false ↦ refused (over_limit o) ]

abbrev pub after_word : ℕ → ℕ → ℕ → (ℕ → ℕ → State → Reading) → Advance → Reading
after_word o n k f (goes s) = in_limit o (suc n) k f s
after_word o n k f (goes_by_act s) = in_limit o (suc n) (suc k) f s
after_word o n k f misfit = refused (misplaced o)
after_word o n k f unfamiliar = refused (unknown o)

-- the words of a text of so many bytes, after n words and k act words
abbrev pub read_on : Names → ℕ → List Token → ℕ → ℕ → State → Reading
read_on N len [] n k s = finish len s
read_on N len (t ∷ ts) n k s = after_word t.offset n k (read_on N len ts) (advance N s t.word)

abbrev pub read : Names → List ℕ → Reading
read N text = read_on N (length text) (tokens text) 0 0 start

-- Reading finds the tree that the grammar gives, and of a text that the grammar gives a tree only a limit can stop it.
abbrev pub ReadingIsGrammar : Type 0
ReadingIsGrammar =
    (N : Names) (text : List ℕ) (t : Prog) →
    (read N text ≡ tree t → TextReads N text t)
    × (TextReads N text t → (read N text ≡ tree t) ⊎ ((o : ℕ) × (read N text ≡ refused (over_limit o))))

-- some routine begins with these words
abbrev pub Begins : Names → List Word → Type 0
Begins N ws = (vs : List Word) × (t : Prog) × Reads N choice (ws ++ vs) t

-- no routine begins with these words
abbrev pub BeginsNone : Names → List Word → Type 0
BeginsNone N ws = (vs : List Word) (t : Prog) → Reads N choice (ws ++ vs) t → ⊥

-- the word of a text at an offset, behind the words ws
abbrev pub WordAt : List ℕ → ℕ → List Word → Word → Type 0
WordAt text o ws w =
    (ts : List Token) × (us : List Token) × (tokens text ≡ ts ++ token o w ∷ us) × (words_of ts ≡ ws)

-- A misplaced word is the first with which no routine goes on; at the end of the text, words are missing: both whatever names are listed.
abbrev pub MisplacedIsFirst : Type 0
MisplacedIsFirst =
    (N : Names) (text : List ℕ) (o : ℕ) → read N text ≡ refused (misplaced o) →
    ((o ≡ length text) × Begins N (text_words text) × ((M : Names) (t : Prog) → TextReads M text t → ⊥))
    ⊎ ((ws : List Word) × (w : Word) × WordAt text o ws w × Begins N ws × ((M : Names) → BeginsNone M (ws ++ w ∷ [])))

-- the names with one act more, or one fact more
abbrev pub with_act : Names → List ℕ → Names
with_act N w = record { facts = N.facts; acts = N.acts ++ w ∷ [] }

abbrev pub with_fact : Names → List ℕ → Names
with_fact N w = record { facts = N.facts ++ w ∷ []; acts = N.acts }

-- An unknown name is the first with which no routine goes on, though one would if it were listed: as an act, or as a fact.
abbrev pub UnknownIsFirst : Type 0
UnknownIsFirst =
    (N : Names) (text : List ℕ) (o : ℕ) → read N text ≡ refused (unknown o) →
    (ws : List Word) × (w : List ℕ) × WordAt text o ws (name w) × Begins N ws × BeginsNone N (ws ++ name w ∷ [])
    × (((number_of N.acts w ≡ none) × Begins (with_act N w) (ws ++ name w ∷ []))
    ⊎ ((number_of N.facts w ≡ none) × Begins (with_fact N w) (ws ++ name w ∷ [])))

-- the limits are kept behind these words; they are kept all along; one is passed
abbrev pub Within : List Word → Type 0
Within ws = (length ws ≤ most_words) × (acts_among ws ≤ most_act_words) × (nesting ws ≤ most_depth)

abbrev pub Bounded : List Word → Type 0
Bounded ws = (vs us : List Word) → ws ≡ vs ++ us → Within vs

abbrev pub Passed : List Word → Type 0
Passed ws = (most_words < length ws) ⊎ ((most_act_words < acts_among ws) ⊎ (most_depth < nesting ws))

-- A word over the limits goes on a routine, and is the first with which a limit is passed: of words, of act words, or of nesting.
abbrev pub OverLimitIsFirst : Type 0
OverLimitIsFirst =
    (N : Names) (text : List ℕ) (o : ℕ) → read N text ≡ refused (over_limit o) →
    (ws : List Word) × (w : Word) × WordAt text o ws w × Begins N (ws ++ w ∷ []) × Bounded ws × Passed (ws ++ w ∷ [])

-- A text within the limits that the grammar gives a tree is read.
abbrev pub BoundedIsRead : Type 0
BoundedIsRead = (N : Names) (text : List ℕ) (t : Prog) → TextReads N text t → Bounded (text_words text) → read N text ≡ tree t

-- The tree of a text that is read has only facts and acts that are listed, and at most 63 act words; and the text keeps the limits all along.
abbrev pub ReadIsBounded : Type 0
ReadIsBounded =
    (N : Names) (text : List ℕ) (t : Prog) → read N text ≡ tree t →
    (names_below (length N.facts) t ≡ true) × (acts_below (length N.acts) t ≡ true) × (words t ≤ most_act_words)
    × Bounded (text_words text)
