-- What was read up to a state is what the grammar says.
use Rattle.std.proofs.Common.{◌≡◌, ℕ, List, [], ◌∷◌, ◌++◌, sym, refl, ap, ◌∙◌, subst, append_assoc, append-nil}
use mathlib.Core.Option.{Option, none, some}
use Rattle.golog.specs.Programs.{Cond, Prog}
use Rattle.golog.specs.Programs.Cond.{always, never, fact, negated}
use Rattle.golog.specs.Words.{Word}
use Rattle.golog.specs.Words.Word.{name, open_round, close_round, begins, behind, cond_begins, cond_behind, strange}
use Rattle.golog.specs.Words.Begin.{open_square, nil_word, if_word, while_word}
use Rattle.golog.specs.Words.Behind.{asterisk, semicolon, bar, else_word, fi_word, od_word}
use Rattle.golog.specs.Words.CondBegin.{true_word, false_word, not_word}
use Rattle.golog.specs.Words.CondBehind.{and_word, or_word, close_square, then_word, do_word}
use Rattle.golog.specs.Grammar.{Names, number_of, Reads, CondReads}
use Rattle.golog.specs.Grammar.Sort.{choice, sequence, item}
use Rattle.golog.specs.Grammar.CondSort.{disjunction, conjunction, literal}
use Rattle.golog.specs.Reading.{Sofar, CondSofar, Frame, Base, Nest, State, Advance, then_also, or_else, whole, and_also, or_also, whole_cond, operand, act_word, fact_word, close_choice, else_choice, fi_choice, od_choice, close_cond, square_cond, then_cond, do_cond, advance, start}
use Rattle.golog.specs.Reading.Frame.{in_round, in_then, in_else, in_do}
use Rattle.golog.specs.Reading.Base.{of_test, of_if, of_while}
use Rattle.golog.specs.Reading.Nest.{bracket, negation}
use Rattle.golog.specs.Reading.State.{want, have, want_cond, have_cond}
use Rattle.golog.specs.Reading.Advance.{goes, goes_by_act, misfit, unfamiliar}
use Rattle.golog.proofs.Complete.{Runs, moved, Settled, same_state, none_some}
use Rattle.golog.proofs.Complete.Runs.{stay, move}

-- the words of what was read before the item at hand
abbrev pub BeforeBar : Names → Option Prog → List Word → Type 0
BeforeBar N none vs = vs ≡ []
BeforeBar N (some a) vs = (ws : List Word) × Reads N choice ws a × (vs ≡ ws ++ behind bar ∷ [])

abbrev pub BeforeSemicolon : Names → Option Prog → List Word → Type 0
BeforeSemicolon N none vs = vs ≡ []
BeforeSemicolon N (some s) vs = (ws : List Word) × Reads N sequence ws s × (vs ≡ ws ++ behind semicolon ∷ [])

abbrev pub Before : Names → Sofar → List Word → Type 0
Before N A vs = (ms : List Word) × (ns : List Word) × BeforeBar N A.0 ms × BeforeSemicolon N A.1 ns × (vs ≡ ms ++ ns)

abbrev pub BeforeOr : Names → Option Cond → List Word → Type 0
BeforeOr N none vs = vs ≡ []
BeforeOr N (some a) vs = (ws : List Word) × CondReads N disjunction ws a × (vs ≡ ws ++ cond_behind or_word ∷ [])

abbrev pub BeforeAnd : Names → Option Cond → List Word → Type 0
BeforeAnd N none vs = vs ≡ []
BeforeAnd N (some s) vs = (ws : List Word) × CondReads N conjunction ws s × (vs ≡ ws ++ cond_behind and_word ∷ [])

abbrev pub BeforeCond : Names → CondSofar → List Word → Type 0
BeforeCond N O vs = (ms : List Word) × (ns : List Word) × BeforeOr N O.0 ms × BeforeAnd N O.1 ns × (vs ≡ ms ++ ns)

-- the words up to and with those that opened the parts
abbrev pub Opened : Names → List Frame → List Word → Type 0
Opened N [] us = us ≡ []
Opened N (in_round A ∷ K) us =
    (xs : List Word) × (vs : List Word) × Opened N K xs × Before N A vs × (us ≡ xs ++ (vs ++ open_round ∷ []))
Opened N (in_then A c ∷ K) us =
    (xs : List Word) × (vs : List Word) × Opened N K xs × Before N A vs
    × ((cs : List Word) × CondReads N disjunction cs c × (us ≡ xs ++ (vs ++ begins if_word ∷ (cs ++ cond_behind then_word ∷ []))))
Opened N (in_else A c p ∷ K) us =
    (xs : List Word) × (vs : List Word) × Opened N K xs × Before N A vs
    × ((cs : List Word) × (ps : List Word) × CondReads N disjunction cs c × Reads N choice ps p
    × (us ≡ xs ++ (vs ++ begins if_word ∷ (cs ++ cond_behind then_word ∷ (ps ++ behind else_word ∷ [])))))
Opened N (in_do A c ∷ K) us =
    (xs : List Word) × (vs : List Word) × Opened N K xs × Before N A vs
    × ((cs : List Word) × CondReads N disjunction cs c × (us ≡ xs ++ (vs ++ begins while_word ∷ (cs ++ cond_behind do_word ∷ []))))

abbrev pub base_word : Base → Word
base_word of_test = begins open_square
base_word of_if = begins if_word
base_word of_while = begins while_word

-- behind a not nothing was read yet
abbrev pub Fresh : List Nest → List Word → Type 0
Fresh [] vs = Unit {0}
Fresh (bracket O ∷ L) vs = Unit {0}
Fresh (negation O ∷ L) vs = vs ≡ []

abbrev pub OpenedCond : Names → List Frame → Sofar → Base → List Nest → List Word → Type 0
OpenedCond N K A B [] us = (xs : List Word) × (vs : List Word) × Opened N K xs × Before N A vs × (us ≡ xs ++ (vs ++ base_word B ∷ []))
OpenedCond N K A B (bracket O ∷ L) us =
    (xs : List Word) × (vs : List Word) × OpenedCond N K A B L xs × BeforeCond N O vs × (Fresh L vs × (us ≡ xs ++ (vs ++ open_round ∷ [])))
OpenedCond N K A B (negation O ∷ L) us =
    (xs : List Word) × (vs : List Word) × OpenedCond N K A B L xs × BeforeCond N O vs × (Fresh L vs × (us ≡ xs ++ (vs ++ cond_begins not_word ∷ [])))

-- these words lead to the state
abbrev pub Holds : Names → State → List Word → Type 0
Holds N (want K A) ws = (us : List Word) × (vs : List Word) × Opened N K us × Before N A vs × (ws ≡ us ++ vs)
Holds N (have K A p) ws =
    (us : List Word) × (vs : List Word) × Opened N K us × Before N A vs × ((xs : List Word) × Reads N item xs p × (ws ≡ us ++ (vs ++ xs)))
Holds N (want_cond K A B L O) ws =
    (us : List Word) × (vs : List Word) × OpenedCond N K A B L us × BeforeCond N O vs × (Fresh L vs × (ws ≡ us ++ vs))
Holds N (have_cond K A B L O c) ws =
    (us : List Word) × (vs : List Word) × OpenedCond N K A B L us × BeforeCond N O vs
    × ((xs : List Word) × CondReads N literal xs c × Settled L × (ws ≡ us ++ (vs ++ xs)))

abbrev HoldsAfter : Names → Advance → List Word → Type 0
HoldsAfter N (goes s) ws = Holds N s ws
HoldsAfter N (goes_by_act s) ws = Holds N s ws
HoldsAfter N misfit ws = Unit {0}
HoldsAfter N unfamiliar ws = Unit {0}

-- what was read with the item at hand
sequence_so_far : (N : Names) (s : Option Prog) (ns xs : List Word) (p : Prog) → BeforeSemicolon N s ns → Reads N item xs p →
    Reads N sequence (ns ++ xs) (then_also s p)
sequence_so_far N none ns xs p b r = rw b (Reads.one_item r)
sequence_so_far N (some s) ns xs p (ws, q, e) r = rw (e, append_assoc) (Reads.a_semicolon q r)

choice_so_far : (N : Names) (a : Option Prog) (ms xs : List Word) (p : Prog) → BeforeBar N a ms → Reads N sequence xs p →
    Reads N choice (ms ++ xs) (or_else a p)
choice_so_far N none ms xs p b r = rw b (Reads.one_sequence r)
choice_so_far N (some a) ms xs p (ws, q, e) r = rw (e, append_assoc) (Reads.a_bar q r)

so_far : (N : Names) (A : Sofar) (vs xs : List Word) (p : Prog) → Before N A vs → Reads N item xs p → Reads N choice (vs ++ xs) (whole A p)
so_far N A vs xs p (ms, ns, b, s, e) r =
    rw (e, append_assoc) (choice_so_far N A.0 ms (ns ++ xs) _ b (sequence_so_far N A.1 ns xs p s r))

conjunction_so_far : (N : Names) (s : Option Cond) (ns xs : List Word) (c : Cond) → BeforeAnd N s ns → CondReads N literal xs c →
    CondReads N conjunction (ns ++ xs) (and_also s c)
conjunction_so_far N none ns xs c b r = rw b (CondReads.one_literal r)
conjunction_so_far N (some s) ns xs c (ws, q, e) r = rw (e, append_assoc) (CondReads.an_and q r)

disjunction_so_far : (N : Names) (a : Option Cond) (ms xs : List Word) (c : Cond) → BeforeOr N a ms → CondReads N conjunction xs c →
    CondReads N disjunction (ms ++ xs) (or_also a c)
disjunction_so_far N none ms xs c b r = rw b (CondReads.one_conjunction r)
disjunction_so_far N (some a) ms xs c (ws, q, e) r = rw (e, append_assoc) (CondReads.an_or q r)

cond_so_far : (N : Names) (O : CondSofar) (vs xs : List Word) (c : Cond) → BeforeCond N O vs → CondReads N literal xs c →
    CondReads N disjunction (vs ++ xs) (whole_cond O c)
cond_so_far N O vs xs c (ms, ns, b, s, e) r =
    rw (e, append_assoc) (disjunction_so_far N O.0 ms (ns ++ xs) _ b (conjunction_so_far N O.1 ns xs c s r))

settled_fresh : (L : List Nest) (vs : List Word) → Settled L → Fresh L vs
settled_fresh [] vs x = tt
settled_fresh (bracket O ∷ L) vs x = tt
settled_fresh (negation O ∷ L) vs x = absurd x

pub none_before : (N : Names) → Before N (none, none) []
none_before N = ([], [], refl, refl, refl)

none_before_cond : (N : Names) → BeforeCond N (none, none) []
none_before_cond N = ([], [], refl, refl, refl)

-- one word more
one_more : {ws : List Word} (us vs : List Word) (w : Word) → ws ≡ us ++ vs → ws ++ w ∷ [] ≡ us ++ (vs ++ w ∷ [])
one_more us vs w e = ap (λ z. z ++ w ∷ []) e ∙ append_assoc us vs (w ∷ [])

-- one word more, with the words that opened the innermost part written out
one_more_in : {ws us zs : List Word} (vs : List Word) (w : Word) → ws ≡ us ++ vs → us ≡ zs → ws ++ w ∷ [] ≡ (zs ++ vs) ++ w ∷ []
one_more_in vs w e f = ap (λ z. z ++ w ∷ []) (e ∙ ap (λ u. u ++ vs) f)

operand_holds :
    (N : Names) (K : List Frame) (A : Sofar) (B : Base) (L : List Nest) (O : CondSofar) (us vs xs ws : List Word) (c : Cond) →
    OpenedCond N K A B L us → BeforeCond N O vs → Fresh L vs → CondReads N literal xs c → ws ≡ us ++ (vs ++ xs) → Holds N (operand K A B L O c) ws
operand_holds N K A B [] O us vs xs ws c o b f r e = (us, vs, o, b, (xs, r, tt, e))
operand_holds N K A B (bracket P ∷ L) O us vs xs ws c o b f r e = (us, vs, o, b, (xs, r, tt, e))
operand_holds N K A B (negation P ∷ L) O us vs xs ws c (ys, zs, o, b, (g, h)) _ f r e =
    operand_holds N K A B L P ys zs (cond_begins not_word ∷ xs) ws (negated c) o b g (CondReads.a_not r)
    (e ∙ (ap (λ v. us ++ (v ++ xs)) f ∙ (ap (λ u. u ++ xs) h ∙ simp append_assoc)))

act_holds : (N : Names) (K : List Frame) (A : Sofar) (w : List ℕ) (ws : List Word) (o : Option ℕ) → number_of N.acts w ≡ o →
    Holds N (want K A) ws → HoldsAfter N (act_word K A o) (ws ++ name w ∷ [])
act_holds N K A w ws none e h = tt
act_holds N K A w ws (some a) e (us, vs, o, b, f) = (us, vs, o, b, (name w ∷ [], Reads.one_atom (Reads.an_act e), one_more us vs _ f))

fact_holds : (N : Names) (K : List Frame) (A : Sofar) (B : Base) (L : List Nest) (O : CondSofar) (w : List ℕ) (ws : List Word) (o : Option ℕ) →
    number_of N.facts w ≡ o → Holds N (want_cond K A B L O) ws → HoldsAfter N (fact_word K A B L O o) (ws ++ name w ∷ [])
fact_holds N K A B L O w ws none e h = tt
fact_holds N K A B L O w ws (some i) e (us, vs, o, b, (f, g)) =
    operand_holds N K A B L O us vs (name w ∷ []) (ws ++ name w ∷ []) (fact i) o b f (CondReads.a_fact e) (one_more us vs _ g)

-- a closing word ends the innermost part
close_holds : (N : Names) (K : List Frame) (us xs ws : List Word) (p : Prog) → Opened N K us → Reads N choice xs p → ws ≡ us ++ xs →
    HoldsAfter N (close_choice K p) (ws ++ close_round ∷ [])
close_holds N [] us xs ws p o r e = tt
close_holds N (in_round A ∷ K) us xs ws p (ys, vs, o, b, f) r e =
    (ys, vs, o, b, (open_round ∷ (xs ++ close_round ∷ []), Reads.one_atom (Reads.in_brackets r), one_more_in xs _ e f ∙ simp append_assoc))
close_holds N (in_then A c ∷ K) us xs ws p o r e = tt
close_holds N (in_else A c q ∷ K) us xs ws p o r e = tt
close_holds N (in_do A c ∷ K) us xs ws p o r e = tt

else_holds : (N : Names) (K : List Frame) (us xs ws : List Word) (p : Prog) → Opened N K us → Reads N choice xs p → ws ≡ us ++ xs →
    HoldsAfter N (else_choice K p) (ws ++ behind else_word ∷ [])
else_holds N [] us xs ws p o r e = tt
else_holds N (in_round A ∷ K) us xs ws p o r e = tt
else_holds N (in_then A c ∷ K) us xs ws p (ys, vs, o, b, (cs, d, f)) r e =
    (ws ++ behind else_word ∷ [], [], (ys, vs, o, b, (cs, xs, d, r, one_more_in xs _ e f ∙ simp append_assoc)), none_before N, sym (append-nil _))
else_holds N (in_else A c q ∷ K) us xs ws p o r e = tt
else_holds N (in_do A c ∷ K) us xs ws p o r e = tt

fi_holds : (N : Names) (K : List Frame) (us xs ws : List Word) (p : Prog) → Opened N K us → Reads N choice xs p → ws ≡ us ++ xs →
    HoldsAfter N (fi_choice K p) (ws ++ behind fi_word ∷ [])
fi_holds N [] us xs ws p o r e = tt
fi_holds N (in_round A ∷ K) us xs ws p o r e = tt
fi_holds N (in_then A c ∷ K) us xs ws p o r e = tt
fi_holds N (in_else A c q ∷ K) us xs ws p (ys, vs, o, b, (cs, ps, d, s, f)) r e =
    (ys, vs, o, b, (_, Reads.one_atom (Reads.an_if d s r), one_more_in xs _ e f ∙ simp append_assoc))
fi_holds N (in_do A c ∷ K) us xs ws p o r e = tt

od_holds : (N : Names) (K : List Frame) (us xs ws : List Word) (p : Prog) → Opened N K us → Reads N choice xs p → ws ≡ us ++ xs →
    HoldsAfter N (od_choice K p) (ws ++ behind od_word ∷ [])
od_holds N [] us xs ws p o r e = tt
od_holds N (in_round A ∷ K) us xs ws p o r e = tt
od_holds N (in_then A c ∷ K) us xs ws p o r e = tt
od_holds N (in_else A c q ∷ K) us xs ws p o r e = tt
od_holds N (in_do A c ∷ K) us xs ws p (ys, vs, o, b, (cs, d, f)) r e =
    (ys, vs, o, b, (_, Reads.one_atom (Reads.a_while d r), one_more_in xs _ e f ∙ simp append_assoc))

close_cond_holds :
    (N : Names) (K : List Frame) (A : Sofar) (B : Base) (L : List Nest) (us xs ws : List Word) (c : Cond) →
    OpenedCond N K A B L us → CondReads N disjunction xs c → ws ≡ us ++ xs → HoldsAfter N (close_cond K A B L c) (ws ++ close_round ∷ [])
close_cond_holds N K A B [] us xs ws c o r e = tt
close_cond_holds N K A B (bracket P ∷ L) us xs ws c (ys, vs, o, b, (f, g)) r e =
    operand_holds N K A B L P ys vs (open_round ∷ (xs ++ close_round ∷ [])) (ws ++ close_round ∷ []) c o b f (CondReads.in_brackets r)
    (one_more_in xs _ e g ∙ simp append_assoc)
close_cond_holds N K A B (negation P ∷ L) us xs ws c o r e = tt

square_cond_holds :
    (N : Names) (K : List Frame) (A : Sofar) (B : Base) (L : List Nest) (us xs ws : List Word) (c : Cond) →
    OpenedCond N K A B L us → CondReads N disjunction xs c → ws ≡ us ++ xs → HoldsAfter N (square_cond K A B L c) (ws ++ cond_behind close_square ∷ [])
square_cond_holds N K A of_test [] us xs ws c (ys, vs, o, b, f) r e =
    (ys, vs, o, b, (_, Reads.one_atom (Reads.a_test r), one_more_in xs _ e f ∙ simp append_assoc))
square_cond_holds N K A of_test (x ∷ L) us xs ws c o r e = tt
square_cond_holds N K A of_if L us xs ws c o r e = tt
square_cond_holds N K A of_while L us xs ws c o r e = tt

then_cond_holds :
    (N : Names) (K : List Frame) (A : Sofar) (B : Base) (L : List Nest) (us xs ws : List Word) (c : Cond) →
    OpenedCond N K A B L us → CondReads N disjunction xs c → ws ≡ us ++ xs → HoldsAfter N (then_cond K A B L c) (ws ++ cond_behind then_word ∷ [])
then_cond_holds N K A of_test L us xs ws c o r e = tt
then_cond_holds N K A of_if [] us xs ws c (ys, vs, o, b, f) r e =
    (ws ++ cond_behind then_word ∷ [], [], (ys, vs, o, b, (xs, r, one_more_in xs _ e f ∙ simp append_assoc)), none_before N, sym (append-nil _))
then_cond_holds N K A of_if (x ∷ L) us xs ws c o r e = tt
then_cond_holds N K A of_while L us xs ws c o r e = tt

do_cond_holds :
    (N : Names) (K : List Frame) (A : Sofar) (B : Base) (L : List Nest) (us xs ws : List Word) (c : Cond) →
    OpenedCond N K A B L us → CondReads N disjunction xs c → ws ≡ us ++ xs → HoldsAfter N (do_cond K A B L c) (ws ++ cond_behind do_word ∷ [])
do_cond_holds N K A of_test L us xs ws c o r e = tt
do_cond_holds N K A of_if L us xs ws c o r e = tt
do_cond_holds N K A of_while [] us xs ws c (ys, vs, o, b, f) r e =
    (ws ++ cond_behind do_word ∷ [], [], (ys, vs, o, b, (xs, r, one_more_in xs _ e f ∙ simp append_assoc)), none_before N, sym (append-nil _))
do_cond_holds N K A of_while (x ∷ L) us xs ws c o r e = tt

-- each word keeps what was read in step with the grammar
word_holds : (N : Names) (s : State) (w : Word) (ws : List Word) → Holds N s ws → HoldsAfter N (advance N s w) (ws ++ w ∷ [])
word_holds N (want K A) (name w) ws h = act_holds N K A w ws (number_of N.acts w) refl h
word_holds N (want K A) open_round ws (us, vs, o, b, e) =
    (ws ++ open_round ∷ [], [], (us, vs, o, b, one_more us vs _ e), none_before N, sym (append-nil _))
word_holds N (want K A) close_round ws h = tt
word_holds N (want K A) (begins open_square) ws (us, vs, o, b, e) =
    (ws ++ begins open_square ∷ [], [], (us, vs, o, b, one_more us vs _ e), none_before_cond N, (tt, sym (append-nil _)))
word_holds N (want K A) (begins nil_word) ws (us, vs, o, b, e) =
    (us, vs, o, b, (begins nil_word ∷ [], Reads.one_atom Reads.a_nil, one_more us vs _ e))
word_holds N (want K A) (begins if_word) ws (us, vs, o, b, e) =
    (ws ++ begins if_word ∷ [], [], (us, vs, o, b, one_more us vs _ e), none_before_cond N, (tt, sym (append-nil _)))
word_holds N (want K A) (begins while_word) ws (us, vs, o, b, e) =
    (ws ++ begins while_word ∷ [], [], (us, vs, o, b, one_more us vs _ e), none_before_cond N, (tt, sym (append-nil _)))
word_holds N (want K A) (behind b) ws h = tt
word_holds N (want K A) (cond_begins b) ws h = tt
word_holds N (want K A) (cond_behind b) ws h = tt
word_holds N (want K A) strange ws h = tt
word_holds N (have K A p) (name w) ws h = tt
word_holds N (have K A p) open_round ws h = tt
word_holds N (have K A p) close_round ws (us, vs, o, b, (xs, r, e)) =
    close_holds N K us (vs ++ xs) ws (whole A p) o (so_far N A vs xs p b r) e
word_holds N (have K A p) (begins b) ws h = tt
word_holds N (have K A p) (behind asterisk) ws (us, vs, o, b, (xs, r, e)) =
    (us, vs, o, b, (xs ++ behind asterisk ∷ [], Reads.a_star r, one_more us (vs ++ xs) _ e ∙ simp append_assoc))
word_holds N (have K A p) (behind semicolon) ws (us, vs, o, (ms, ns, l, m, d), (xs, r, e)) = (
  us,
  ms ++ ((ns ++ xs) ++ behind semicolon ∷ []),
  o,
  (ms, (ns ++ xs) ++ behind semicolon ∷ [], l, (ns ++ xs, sequence_so_far N A.1 ns xs p m r, refl), refl),
  one_more us (vs ++ xs) _ e ∙ (ap (λ v. us ++ ((v ++ xs) ++ behind semicolon ∷ [])) d ∙ simp append_assoc),
)
word_holds N (have K A p) (behind bar) ws (us, vs, o, b, (xs, r, e)) = (
  us,
  (vs ++ xs) ++ behind bar ∷ [],
  o,
  ((vs ++ xs) ++ behind bar ∷ [], [], (vs ++ xs, so_far N A vs xs p b r, refl), refl, sym (append-nil _)),
  one_more us (vs ++ xs) _ e,
)
word_holds N (have K A p) (behind else_word) ws (us, vs, o, b, (xs, r, e)) =
    else_holds N K us (vs ++ xs) ws (whole A p) o (so_far N A vs xs p b r) e
word_holds N (have K A p) (behind fi_word) ws (us, vs, o, b, (xs, r, e)) =
    fi_holds N K us (vs ++ xs) ws (whole A p) o (so_far N A vs xs p b r) e
word_holds N (have K A p) (behind od_word) ws (us, vs, o, b, (xs, r, e)) =
    od_holds N K us (vs ++ xs) ws (whole A p) o (so_far N A vs xs p b r) e
word_holds N (have K A p) (cond_begins b) ws h = tt
word_holds N (have K A p) (cond_behind b) ws h = tt
word_holds N (have K A p) strange ws h = tt
word_holds N (want_cond K A B L O) (name w) ws h = fact_holds N K A B L O w ws (number_of N.facts w) refl h
word_holds N (want_cond K A B L O) open_round ws (us, vs, o, b, (f, e)) =
    (ws ++ open_round ∷ [], [], (us, vs, o, b, (f, one_more us vs _ e)), none_before_cond N, (tt, sym (append-nil _)))
word_holds N (want_cond K A B L O) close_round ws h = tt
word_holds N (want_cond K A B L O) (begins b) ws h = tt
word_holds N (want_cond K A B L O) (behind b) ws h = tt
word_holds N (want_cond K A B L O) (cond_begins true_word) ws (us, vs, o, b, (f, e)) =
    operand_holds N K A B L O us vs (cond_begins true_word ∷ []) _ always o b f CondReads.a_true (one_more us vs _ e)
word_holds N (want_cond K A B L O) (cond_begins false_word) ws (us, vs, o, b, (f, e)) =
    operand_holds N K A B L O us vs (cond_begins false_word ∷ []) _ never o b f CondReads.a_false (one_more us vs _ e)
word_holds N (want_cond K A B L O) (cond_begins not_word) ws (us, vs, o, b, (f, e)) =
    (ws ++ cond_begins not_word ∷ [], [], (us, vs, o, b, (f, one_more us vs _ e)), none_before_cond N, (refl, sym (append-nil _)))
word_holds N (want_cond K A B L O) (cond_behind b) ws h = tt
word_holds N (want_cond K A B L O) strange ws h = tt
word_holds N (have_cond K A B L O c) (name w) ws h = tt
word_holds N (have_cond K A B L O c) open_round ws h = tt
word_holds N (have_cond K A B L O c) close_round ws (us, vs, o, b, (xs, r, s, e)) =
    close_cond_holds N K A B L us (vs ++ xs) ws (whole_cond O c) o (cond_so_far N O vs xs c b r) e
word_holds N (have_cond K A B L O c) (begins b) ws h = tt
word_holds N (have_cond K A B L O c) (behind b) ws h = tt
word_holds N (have_cond K A B L O c) (cond_begins b) ws h = tt
word_holds N (have_cond K A B L O c) (cond_behind and_word) ws (us, vs, o, (ms, ns, l, m, d), (xs, r, s, e)) = (
  us,
  ms ++ ((ns ++ xs) ++ cond_behind and_word ∷ []),
  o,
  (ms, (ns ++ xs) ++ cond_behind and_word ∷ [], l, (ns ++ xs, conjunction_so_far N O.1 ns xs c m r, refl), refl),
  (settled_fresh L _ s, one_more us (vs ++ xs) _ e ∙ (ap (λ v. us ++ ((v ++ xs) ++ cond_behind and_word ∷ [])) d ∙ simp append_assoc)),
)
word_holds N (have_cond K A B L O c) (cond_behind or_word) ws (us, vs, o, b, (xs, r, s, e)) = (
  us,
  (vs ++ xs) ++ cond_behind or_word ∷ [],
  o,
  ((vs ++ xs) ++ cond_behind or_word ∷ [], [], (vs ++ xs, cond_so_far N O vs xs c b r, refl), refl, sym (append-nil _)),
  (settled_fresh L _ s, one_more us (vs ++ xs) _ e),
)
word_holds N (have_cond K A B L O c) (cond_behind close_square) ws (us, vs, o, b, (xs, r, s, e)) =
    square_cond_holds N K A B L us (vs ++ xs) ws (whole_cond O c) o (cond_so_far N O vs xs c b r) e
word_holds N (have_cond K A B L O c) (cond_behind then_word) ws (us, vs, o, b, (xs, r, s, e)) =
    then_cond_holds N K A B L us (vs ++ xs) ws (whole_cond O c) o (cond_so_far N O vs xs c b r) e
word_holds N (have_cond K A B L O c) (cond_behind do_word) ws (us, vs, o, b, (xs, r, s, e)) =
    do_cond_holds N K A B L us (vs ++ xs) ws (whole_cond O c) o (cond_so_far N O vs xs c b r) e
word_holds N (have_cond K A B L O c) strange ws h = tt

after_holds : (N : Names) (y : Advance) (r : State) (ws : List Word) → HoldsAfter N y ws → moved y ≡ some r → Holds N r ws
after_holds N (goes s) r ws h e = subst (λ x. Holds N x ws) (same_state e) h
after_holds N (goes_by_act s) r ws h e = subst (λ x. Holds N x ws) (same_state e) h
after_holds N misfit r ws h e = absurd (none_some e)
after_holds N unfamiliar r ws h e = absurd (none_some e)

pub runs_hold : (N : Names) (s r : State) (ws us : List Word) → Holds N s ws → Runs N s us r → Holds N r (ws ++ us)
runs_hold N s _ ws _ h stay = subst (Holds N s) (sym (append-nil ws)) h
runs_hold N s r ws _ h (move {r = q} {w = w} {ws = us} e x) =
    subst (Holds N r) (append_assoc ws (w ∷ []) us) (runs_hold N q r (ws ++ w ∷ []) us (after_holds N (advance N s w) q (ws ++ w ∷ []) (word_holds N s w ws h) e) x)

-- the words that lead to the end of a whole text are a choice
pub whole_text : (N : Names) (A : Sofar) (p : Prog) (ws : List Word) → Runs N start ws (have [] A p) → Reads N choice ws (whole A p)
whole_text N A p ws x =
    let (us, vs, o, b, (xs, r, e)) = runs_hold N start (have [] A p) [] ws ([], [], refl, none_before N, refl) x in
    subst (λ z. Reads N choice z (whole A p)) (sym (e ∙ ap (λ u. u ++ (vs ++ xs)) o)) (so_far N A vs xs p b r)
