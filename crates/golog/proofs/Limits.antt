-- What reading counts is what the words say, so a limit is passed where the words pass it.
use Rattle.std.proofs.Common.{◌≡◌, ℕ, suc, ◌+◌, ◌<◌, ◌≤◌, Bool, true, false, ◌&&◌, leb, ◌⊎◌, List, [], ◌∷◌, ◌++◌, length, sym, refl, ap, ◌∙◌, subst, inl, inr, append_assoc, append-nil, arith, length-append}
use mathlib.Core.Option.{Option, none, some}
use Rattle.std.proofs.lemmas.Bool.{and_parts, and_cases, leb-true, leb-false}
use Rattle.golog.specs.Programs.{Cond, Prog}
use Rattle.golog.specs.Words.{Word, Token, token, words_of, tokens, text_words}
use Rattle.golog.specs.Words.Word.{name, open_round, close_round, begins, behind, cond_begins, cond_behind, strange}
use Rattle.golog.specs.Words.Begin.{open_square, nil_word, if_word, while_word}
use Rattle.golog.specs.Words.Behind.{asterisk, semicolon, bar, else_word, fi_word, od_word}
use Rattle.golog.specs.Words.CondBegin.{true_word, false_word, not_word}
use Rattle.golog.specs.Words.CondBehind.{and_word, or_word, close_square, then_word, do_word}
use Rattle.golog.specs.Counts.{Level, cond_after, act_here, acts_from, acts_among, ended, levels_after, levels_from, nesting}
use Rattle.golog.specs.Counts.Level.{part, waiting}
use Rattle.golog.specs.Grammar.{Names, number_of}
use Rattle.golog.specs.Reading.{Sofar, CondSofar, Frame, Base, Nest, State, Advance, Reading, operand, act_word, fact_word, close_choice, else_choice, fi_choice, od_choice, close_cond, square_cond, then_cond, do_cond, advance, depth, most_words, most_act_words, most_depth, in_limits, after_word, finish, read_on, read, start, Begins, WordAt, Within, Bounded, Passed, OverLimitIsFirst, BoundedIsRead, ReadIsBounded}
use Rattle.golog.specs.Reading.Frame.{in_round, in_then, in_else, in_do}
use Rattle.golog.specs.Reading.Base.{of_test, of_if, of_while}
use Rattle.golog.specs.Reading.Nest.{bracket, negation}
use Rattle.golog.specs.Reading.State.{want, have, want_cond, have_cond}
use Rattle.golog.specs.Reading.Advance.{goes, goes_by_act, misfit, unfamiliar}
use Rattle.golog.specs.Reading.TextFault.{misplaced, unknown, over_limit}
use Rattle.golog.specs.Reading.Reading.{tree, refused}
use Rattle.golog.proofs.Complete.{Runs, moved, runs_on}
use Rattle.golog.proofs.Complete.Runs.{stay, move}
use Rattle.golog.proofs.ReadingProof.{reading_is_grammar}
use Rattle.golog.proofs.ReadBounds.{tree_bound}
use Rattle.golog.proofs.Refusals.{runs_begin, words_append, one_further}

-- the levels of a state, and whether it is in a condition
abbrev parts : List Frame → List Level
parts [] = []
parts (f ∷ K) = part ∷ parts K

abbrev nests : List Nest → List Level → List Level
nests [] ls = ls
nests (bracket P ∷ L) ls = part ∷ nests L ls
nests (negation P ∷ L) ls = waiting ∷ nests L ls

abbrev levels_of : State → List Level
levels_of (want K A) = parts K
levels_of (have K A p) = parts K
levels_of (want_cond K A B L O) = nests L (part ∷ parts K)
levels_of (have_cond K A B L O c) = nests L (part ∷ parts K)

abbrev in_cond : State → Bool
in_cond (want K A) = false
in_cond (have K A p) = false
in_cond (want_cond K A B L O) = true
in_cond (have_cond K A B L O c) = true

parts_length : (K : List Frame) → length (parts K) ≡ length K
parts_length [] = refl
parts_length (f ∷ K) = ap suc (parts_length K)

nests_length : (L : List Nest) (ls : List Level) → length (nests L ls) ≡ length L + length ls
nests_length [] ls = omega arith
nests_length (bracket P ∷ L) ls = let x = nests_length L ls in omega arith
nests_length (negation P ∷ L) ls = let x = nests_length L ls in omega arith

depth_levels : (s : State) → depth s ≡ length (levels_of s)
depth_levels (want K A) = sym (parts_length K)
depth_levels (have K A p) = sym (parts_length K)
depth_levels (want_cond K A B L O) = let x = parts_length K in let y = nests_length L (part ∷ parts K) in omega arith
depth_levels (have_cond K A B L O c) = let x = parts_length K in let y = nests_length L (part ∷ parts K) in omega arith

no_nots : (K : List Frame) → parts K ≡ ended (parts K)
no_nots [] = refl
no_nots (f ∷ K) = refl

operand_levels : (K : List Frame) (A : Sofar) (B : Base) (L : List Nest) (O : CondSofar) (c : Cond) →
    levels_of (operand K A B L O c) ≡ ended (nests L (part ∷ parts K))
operand_levels K A B [] O c = refl
operand_levels K A B (bracket P ∷ L) O c = refl
operand_levels K A B (negation P ∷ L) O c = operand_levels K A B L P _

operand_cond : (K : List Frame) (A : Sofar) (B : Base) (L : List Nest) (O : CondSofar) (c : Cond) → in_cond (operand K A B L O c) ≡ true
operand_cond K A B [] O c = refl
operand_cond K A B (bracket P ∷ L) O c = refl
operand_cond K A B (negation P ∷ L) O c = operand_cond K A B L P _

-- what a word does to a state is what it does to the counts
abbrev Counts : State → Word → ℕ → State → Type 0
Counts s w m r = (levels_of r ≡ levels_after (levels_of s) w) × (in_cond r ≡ cond_after (in_cond s) w) × (act_here w (in_cond s) ≡ m)

abbrev CountsAfter : State → Word → Advance → Type 0
CountsAfter s w (goes r) = Counts s w 0 r
CountsAfter s w (goes_by_act r) = Counts s w 1 r
CountsAfter s w misfit = Unit {0}
CountsAfter s w unfamiliar = Unit {0}

act_counts : (K : List Frame) (A : Sofar) (w : List ℕ) (o : Option ℕ) → CountsAfter (want K A) (name w) (act_word K A o)
act_counts K A w none = tt
act_counts K A w (some a) = (no_nots K, refl, refl)

fact_counts : (K : List Frame) (A : Sofar) (B : Base) (L : List Nest) (O : CondSofar) (w : List ℕ) (o : Option ℕ) →
    CountsAfter (want_cond K A B L O) (name w) (fact_word K A B L O o)
fact_counts K A B L O w none = tt
fact_counts K A B L O w (some i) = (operand_levels K A B L O _, operand_cond K A B L O _, refl)

close_counts : (K : List Frame) (A : Sofar) (p q : Prog) → CountsAfter (have K A p) close_round (close_choice K q)
close_counts [] A p q = tt
close_counts (in_round B ∷ K) A p q = (no_nots K, refl, refl)
close_counts (in_then B c ∷ K) A p q = tt
close_counts (in_else B c x ∷ K) A p q = tt
close_counts (in_do B c ∷ K) A p q = tt

else_counts : (K : List Frame) (A : Sofar) (p q : Prog) → CountsAfter (have K A p) (behind else_word) (else_choice K q)
else_counts [] A p q = tt
else_counts (in_round B ∷ K) A p q = tt
else_counts (in_then B c ∷ K) A p q = (refl, refl, refl)
else_counts (in_else B c x ∷ K) A p q = tt
else_counts (in_do B c ∷ K) A p q = tt

fi_counts : (K : List Frame) (A : Sofar) (p q : Prog) → CountsAfter (have K A p) (behind fi_word) (fi_choice K q)
fi_counts [] A p q = tt
fi_counts (in_round B ∷ K) A p q = tt
fi_counts (in_then B c ∷ K) A p q = tt
fi_counts (in_else B c x ∷ K) A p q = (no_nots K, refl, refl)
fi_counts (in_do B c ∷ K) A p q = tt

od_counts : (K : List Frame) (A : Sofar) (p q : Prog) → CountsAfter (have K A p) (behind od_word) (od_choice K q)
od_counts [] A p q = tt
od_counts (in_round B ∷ K) A p q = tt
od_counts (in_then B c ∷ K) A p q = tt
od_counts (in_else B c x ∷ K) A p q = tt
od_counts (in_do B c ∷ K) A p q = (no_nots K, refl, refl)

close_cond_counts : (K : List Frame) (A : Sofar) (B : Base) (L : List Nest) (O : CondSofar) (c d : Cond) →
    CountsAfter (have_cond K A B L O c) close_round (close_cond K A B L d)
close_cond_counts K A B [] O c d = tt
close_cond_counts K A B (bracket P ∷ L) O c d = (operand_levels K A B L P d, operand_cond K A B L P d, refl)
close_cond_counts K A B (negation P ∷ L) O c d = tt

square_counts : (K : List Frame) (A : Sofar) (B : Base) (L : List Nest) (O : CondSofar) (c d : Cond) →
    CountsAfter (have_cond K A B L O c) (cond_behind close_square) (square_cond K A B L d)
square_counts K A of_test [] O c d = (no_nots K, refl, refl)
square_counts K A of_test (x ∷ L) O c d = tt
square_counts K A of_if L O c d = tt
square_counts K A of_while L O c d = tt

then_counts : (K : List Frame) (A : Sofar) (B : Base) (L : List Nest) (O : CondSofar) (c d : Cond) →
    CountsAfter (have_cond K A B L O c) (cond_behind then_word) (then_cond K A B L d)
then_counts K A of_test L O c d = tt
then_counts K A of_if [] O c d = (refl, refl, refl)
then_counts K A of_if (x ∷ L) O c d = tt
then_counts K A of_while L O c d = tt

do_counts : (K : List Frame) (A : Sofar) (B : Base) (L : List Nest) (O : CondSofar) (c d : Cond) →
    CountsAfter (have_cond K A B L O c) (cond_behind do_word) (do_cond K A B L d)
do_counts K A of_test L O c d = tt
do_counts K A of_if L O c d = tt
do_counts K A of_while [] O c d = (refl, refl, refl)
do_counts K A of_while (x ∷ L) O c d = tt

counts : (N : Names) (s : State) (w : Word) → CountsAfter s w (advance N s w)
counts N (want K A) (name w) = act_counts K A w (number_of N.acts w)
counts N (want K A) open_round = (refl, refl, refl)
counts N (want K A) close_round = tt
counts N (want K A) (begins open_square) = (refl, refl, refl)
counts N (want K A) (begins nil_word) = (refl, refl, refl)
counts N (want K A) (begins if_word) = (refl, refl, refl)
counts N (want K A) (begins while_word) = (refl, refl, refl)
counts N (want K A) (behind b) = tt
counts N (want K A) (cond_begins b) = tt
counts N (want K A) (cond_behind b) = tt
counts N (want K A) strange = tt
counts N (have K A p) (name w) = tt
counts N (have K A p) open_round = tt
counts N (have K A p) close_round = close_counts K A p _
counts N (have K A p) (begins b) = tt
counts N (have K A p) (behind asterisk) = (refl, refl, refl)
counts N (have K A p) (behind semicolon) = (refl, refl, refl)
counts N (have K A p) (behind bar) = (refl, refl, refl)
counts N (have K A p) (behind else_word) = else_counts K A p _
counts N (have K A p) (behind fi_word) = fi_counts K A p _
counts N (have K A p) (behind od_word) = od_counts K A p _
counts N (have K A p) (cond_begins b) = tt
counts N (have K A p) (cond_behind b) = tt
counts N (have K A p) strange = tt
counts N (want_cond K A B L O) (name w) = fact_counts K A B L O w (number_of N.facts w)
counts N (want_cond K A B L O) open_round = (refl, refl, refl)
counts N (want_cond K A B L O) close_round = tt
counts N (want_cond K A B L O) (begins b) = tt
counts N (want_cond K A B L O) (behind b) = tt
counts N (want_cond K A B L O) (cond_begins true_word) = (operand_levels K A B L O _, operand_cond K A B L O _, refl)
counts N (want_cond K A B L O) (cond_begins false_word) = (operand_levels K A B L O _, operand_cond K A B L O _, refl)
counts N (want_cond K A B L O) (cond_begins not_word) = (refl, refl, refl)
counts N (want_cond K A B L O) (cond_behind b) = tt
counts N (want_cond K A B L O) strange = tt
counts N (have_cond K A B L O c) (name w) = tt
counts N (have_cond K A B L O c) open_round = tt
counts N (have_cond K A B L O c) close_round = close_cond_counts K A B L O c _
counts N (have_cond K A B L O c) (begins b) = tt
counts N (have_cond K A B L O c) (behind b) = tt
counts N (have_cond K A B L O c) (cond_begins b) = tt
counts N (have_cond K A B L O c) (cond_behind and_word) = (refl, refl, refl)
counts N (have_cond K A B L O c) (cond_behind or_word) = (refl, refl, refl)
counts N (have_cond K A B L O c) (cond_behind close_square) = square_counts K A B L O c _
counts N (have_cond K A B L O c) (cond_behind then_word) = then_counts K A B L O c _
counts N (have_cond K A B L O c) (cond_behind do_word) = do_counts K A B L O c _
counts N (have_cond K A B L O c) strange = tt

-- the counts of words with one more behind them
abbrev cond_from : Bool → List Word → Bool
cond_from b [] = b
cond_from b (w ∷ ws) = cond_from (cond_after b w) ws

levels_more : (ls : List Level) (ws : List Word) (w : Word) → levels_from ls (ws ++ w ∷ []) ≡ levels_after (levels_from ls ws) w
levels_more ls [] w = refl
levels_more ls (x ∷ ws) w = levels_more (levels_after ls x) ws w

cond_more : (b : Bool) (ws : List Word) (w : Word) → cond_from b (ws ++ w ∷ []) ≡ cond_after (cond_from b ws) w
cond_more b [] w = refl
cond_more b (x ∷ ws) w = cond_more (cond_after b x) ws w

acts_more : (b : Bool) (ws : List Word) (w : Word) → acts_from b (ws ++ w ∷ []) ≡ acts_from b ws + act_here w (cond_from b ws)
acts_more b [] w = omega arith
acts_more b (x ∷ ws) w = let e = acts_more (cond_after b x) ws w in omega arith

-- after the words ws, reading has counted n words and k act words, and stands in s
abbrev Counted : List Word → ℕ → ℕ → State → Type 0
Counted ws n k s = (length ws ≡ n) × (acts_among ws ≡ k) × (levels_from [] ws ≡ levels_of s) × (cond_from false ws ≡ in_cond s)

abbrev CountedAfter : List Word → ℕ → ℕ → Advance → Type 0
CountedAfter ws n k (goes r) = Counted ws (suc n) k r
CountedAfter ws n k (goes_by_act r) = Counted ws (suc n) (suc k) r
CountedAfter ws n k misfit = Unit {0}
CountedAfter ws n k unfamiliar = Unit {0}

counted_more : (ws : List Word) (w : Word) (n k m j : ℕ) (s r : State) → Counted ws n k s → Counts s w m r → j ≡ k + m → Counted (ws ++ w ∷ []) (suc n) j r
counted_more ws w n k m j s r (a, b, c, d) (e, f, g) h =
    let x = length-append ws (w ∷ []) in
    let y = acts_more false ws w in
    let z : act_here w (cond_from false ws) ≡ m = ap (act_here w) d ∙ g in (
      omega arith,
      omega arith,
      levels_more [] ws w ∙ (ap (λ i. levels_after i w) c ∙ sym e),
      cond_more false ws w ∙ (ap (λ i. cond_after i w) d ∙ sym f),
    )

counted_after : (ws : List Word) (w : Word) (n k : ℕ) (s : State) (y : Advance) → Counted ws n k s → CountsAfter s w y → CountedAfter (ws ++ w ∷ []) n k y
counted_after ws w n k s (goes r) c h = counted_more ws w n k 0 k s r c h (omega arith)
counted_after ws w n k s (goes_by_act r) c h = counted_more ws w n k 1 (suc k) s r c h (omega arith)
counted_after ws w n k s misfit c h = tt
counted_after ws w n k s unfamiliar c h = tt

nesting_depth : (ws : List Word) (n k : ℕ) (s : State) → Counted ws n k s → depth s ≡ nesting ws
nesting_depth ws n k s (a, b, c, d) = depth_levels s ∙ ap length (sym c)

within : (ws : List Word) (n k : ℕ) (s : State) → Counted ws n k s → in_limits n k s ≡ true → Within ws
within ws n k s c e =
    let (x, yz) = and_parts (leb n most_words) (leb k most_act_words && leb (depth s) most_depth) e in
    let (y, z) = and_parts (leb k most_act_words) (leb (depth s) most_depth) yz in (
      subst (λ i. i ≤ most_words) (sym c.0) (leb-true n most_words x),
      subst (λ i. i ≤ most_act_words) (sym c.1) (leb-true k most_act_words y),
      subst (λ i. i ≤ most_depth) (nesting_depth ws n k s c) (leb-true (depth s) most_depth z),
    )

passed : (ws : List Word) (n k : ℕ) (s : State) → Counted ws n k s → in_limits n k s ≡ false → Passed ws
passed ws n k s c e =
    elim (and_cases (leb n most_words) (leb k most_act_words && leb (depth s) most_depth) e) [
      | inl x ↦ inl (subst (λ i. most_words < i) (sym c.0) (leb-false n most_words x))
      | inr f ↦
          elim (and_cases (leb k most_act_words) (leb (depth s) most_depth) f) [
            | inl y ↦ inr (inl (subst (λ i. most_act_words < i) (sym c.1) (leb-false k most_act_words y)))
            | inr z ↦ inr (inr (subst (λ i. most_depth < i) (nesting_depth ws n k s c) (leb-false (depth s) most_depth z)))
          ]
    ]

not_both : (ws : List Word) → Within ws → Passed ws → ⊥
not_both ws (a, b, c) (inl x) = omega arith
not_both ws (a, b, c) (inr (inl x)) = omega arith
not_both ws (a, b, c) (inr (inr x)) = omega arith

-- the beginnings of words with one more behind them
same_head : {a b : Word} {x y : List Word} → a ∷ x ≡ b ∷ y → a ≡ b
same_head e = cc

same_tail : {a b : Word} {x y : List Word} → a ∷ x ≡ b ∷ y → x ≡ y
same_tail e = cc

no_head : {a : Word} {x : List Word} → ◌≡◌ {A = List Word} [] (a ∷ x) → ⊥
no_head {a} {x} e = let z : ◌≡◌ {A = ℕ} 0 1 = cc in omega arith

beginning : (ws : List Word) (w : Word) (vs us : List Word) → ws ++ w ∷ [] ≡ vs ++ us → (vs ≡ ws ++ w ∷ []) ⊎ ((xs : List Word) × (ws ≡ vs ++ xs))
beginning ws w [] us e = inr (ws, refl)
beginning [] w (v ∷ []) us e = inl (ap (λ i. i ∷ []) (sym (same_head e)))
beginning [] w (v ∷ (y ∷ vs)) us e = absurd (no_head (same_tail e))
beginning (x ∷ ws) w (v ∷ vs) us e =
    elim (beginning ws w vs us (same_tail e)) [
      | inl f ↦ let h = same_head e in inl cc
      | inr (xs, f) ↦ let h = same_head e in inr (xs, cc)
    ]

bounded_nothing : Bounded []
bounded_nothing [] us e = (omega arith, omega arith, omega arith)
bounded_nothing (v ∷ vs) us e = absurd (no_head e)

bounded_more : (ws : List Word) (w : Word) → Bounded ws → Within (ws ++ w ∷ []) → Bounded (ws ++ w ∷ [])
bounded_more ws w b h vs us e =
    elim (beginning ws w vs us e) [
      | inl f ↦ subst Within (sym f) h
      | inr (xs, f) ↦ b vs xs f
    ]

module _ (N : Names) (text : List ℕ) where
  abbrev Over : ℕ → Type 0
  Over o = (ws : List Word) × (w : Word) × WordAt text o ws w × Begins N (ws ++ w ∷ []) × Bounded ws × Passed (ws ++ w ∷ [])

  -- what an answer says of the limits
  abbrev Says : Reading → Type 0
  Says (tree t) = Bounded (text_words text)
  Says (refused (misplaced o)) = Unit {0}
  Says (refused (unknown o)) = Unit {0}
  Says (refused (over_limit o)) = Over o

  at_end : (s : State) → Bounded (text_words text) → Says (finish (length text) s)
  at_end (want K A) b = tt
  at_end (have [] A p) b = b
  at_end (have (x ∷ K) A p) b = tt
  at_end (want_cond K A B L O) b = tt
  at_end (have_cond K A B L O c) b = tt

  at_limit : (b : Bool) (x : Reading) (o : ℕ) → (b ≡ true → Says x) → (b ≡ false → Over o) → Says (elim b [ true ↦ x | false ↦ refused (over_limit o) ])
  at_limit true x o f g = f refl
  at_limit false x o f g = g refl

  at_word :
      (ws : List Word) (o n k : ℕ) (f : ℕ → ℕ → State → Reading) (y : Advance) → CountedAfter ws n k y →
      ((j : ℕ) (q : State) → moved y ≡ some q → Counted ws (suc n) j q → Within ws → Says (f (suc n) j q)) →
      ((q : State) → moved y ≡ some q → Passed ws → Over o) → Says (after_word o n k f y)
  at_word ws o n k f (goes q) c go stop =
      at_limit (in_limits (suc n) k q) (f (suc n) k q) o (λ e. go k q refl c (within ws (suc n) k q c e)) (λ e. stop q refl (passed ws (suc n) k q c e))
  at_word ws o n k f (goes_by_act q) c go stop =
      at_limit (in_limits (suc n) (suc k) q) (f (suc n) (suc k) q) o (λ e. go (suc k) q refl c (within ws (suc n) (suc k) q c e))
      (λ e. stop q refl (passed ws (suc n) (suc k) q c e))
  at_word ws o n k f misfit c go stop = tt
  at_word ws o n k f unfamiliar c go stop = tt

  says :
      (us ts : List Token) (n k : ℕ) (s : State) → tokens text ≡ ts ++ us → Runs N start (words_of ts) s →
      Counted (words_of ts) n k s → Bounded (words_of ts) → Says (read_on N (length text) us n k s)
  says [] ts n k s e r c b = at_end s (subst (λ i. Bounded (words_of i)) (sym (e ∙ append-nil ts)) b)
  says (x ∷ us) ts n k s e r c b =
      let ws : List Word = words_of ts in
      let more = sym (words_append ts (x ∷ [])) in
      at_word (ws ++ x.word ∷ []) x.offset n k (read_on N (length text) us) (advance N s x.word)
      (counted_after ws x.word n k s (advance N s x.word) c (counts N s x.word))
      (λ j q m d w.
      says us (ts ++ x ∷ []) (suc n) j q (e ∙ sym (append_assoc ts (x ∷ []) us)) (one_further N text ts x s q r m)
      (subst (λ i. Counted i (suc n) j q) more d) (subst Bounded more (bounded_more ws x.word b w)))
      (λ q m p. (ws, x.word, (ts, us, e, refl), runs_begin N (ws ++ x.word ∷ []) q (runs_on r (move m stay)), b, p))

  read_says : Says (read N text)
  read_says = says (tokens text) [] 0 0 start refl stay (refl, refl, refl, refl) bounded_nothing

pub over_limit_is_first : OverLimitIsFirst
over_limit_is_first N text o e = subst (Says N text) e (read_says N text)

pub bounded_is_read : BoundedIsRead
bounded_is_read N text t x b =
    elim ((reading_is_grammar N text t).1 x) [
      | inl e ↦ e
      | inr (o, e) ↦
          let (ws, w, (ts, us, f, g), _, _, p) = over_limit_is_first N text o e in
          let h : text_words text ≡ words_of ts ++ (w ∷ words_of us) = ap words_of f ∙ words_append ts (token o w ∷ us) in
          let i : text_words text ≡ ws ++ (w ∷ words_of us) = h ∙ ap (λ v. v ++ (w ∷ words_of us)) g in
          absurd (not_both (ws ++ w ∷ []) (b (ws ++ w ∷ []) (words_of us) (i ∙ sym (append_assoc ws (w ∷ []) (words_of us)))) p)
    ]

pub read_is_bounded : ReadIsBounded
read_is_bounded N text t e = let (a, b, c) = tree_bound N text t e in (a, b, c, subst (Says N text) e (read_says N text))
