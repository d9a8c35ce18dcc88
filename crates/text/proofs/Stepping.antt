-- Reading, one word on.
use Rattle.std.proofs.Common.{◌≡◌, ℕ, suc, ◌+◌, ◌<◌, ◌≤◌, Bool, true, false, leb, List, [], ◌∷◌, length, Some, None, sym, refl, ap, ◌∙◌, subst, ap₂, inl, inr, add-one, arith}
use mathlib.Core.Option.{Option, none, some}
use Rattle.std.proofs.lemmas.Bool.{true≢false, le-leb, lt-leb, and_from, and_left, and_right}
use Rattle.std.specs.Prelude.{Result, MatchResult}
use Rattle.std.specs.Result.{IsErrAnd}
use Rattle.std.proofs.lemmas.Result.{err_from_is_err_and}
use Rattle.golog.specs.Words as golog
use Rattle.golog.specs.Grammar.{Names}
use Rattle.golog.specs.Reading.{State, Reading, advance, depth, in_limits, after_word, finish, read_on, most_words, most_act_words, most_depth}
use Rattle.golog.specs.Reading.Advance.{goes, goes_by_act, unfamiliar}
use Rattle.golog.specs.Reading.Reading.{refused}
use Rattle.golog.specs.Reading.TextFault.{misplaced, unknown, over_limit}
use Rattle.text.specs.declared.word.Token.{Token}
use Rattle.text.specs.declared.word.Mark.{Mark}
use Rattle.text.specs.declared.reader.Level.{Level}
use Rattle.text.specs.declared.reader.Reader.{Reader}
use Rattle.text.specs.Said.{said, mark_word}
use Rattle.text.specs.declared.fault.TextFault.{TextFault}
use Rattle.text.specs.declared.fault.TextFault.TheVariants.{Memory}
use Rattle.text.specs.Faults.{Tells}
use Rattle.text.specs.Rest.{rest_from, rest, going, goes_on, Deeper, mark_of, next_mark}
use Rattle.text.specs.Built.{Nameless}
use Rattle.text.specs.Steps.{Passed, Full, Taken, OverDone, OverDoneAct, Takes, Unfit}

abbrev by_limit : Bool → ℕ → Reading → Reading
by_limit b o x = elim b [ true ↦ x | false ↦ refused (over_limit o) ]

within_limits : (n k : ℕ) (U : State) → n ≤ most_words → k ≤ most_act_words → depth U ≤ most_depth → in_limits n k U ≡ true
within_limits n k U a b d = and_from _ _ (le-leb n most_words a) (and_from _ _ (le-leb k most_act_words b) (le-leb (depth U) most_depth d))

pub too_many : (n k : ℕ) (U : State) → most_words < n → in_limits n k U ≡ false
too_many n k U h = and_left _ _ (lt-leb n most_words h)

pub too_many_acts : (n k : ℕ) (U : State) → most_act_words < k → in_limits n k U ≡ false
too_many_acts n k U h = and_right (leb n most_words) _ (and_left _ _ (lt-leb k most_act_words h))

pub too_deep : (n k : ℕ) (U : State) → most_depth < depth U → in_limits n k U ≡ false
too_deep n k U h = and_right (leb n most_words) _ (and_right (leb k most_act_words) _ (lt-leb (depth U) most_depth h))

module _ (N : Names) (len : ℕ) (o : ℕ) (w : golog.Word) (ts : List golog.Token) (n k : ℕ) (S U : State) where
  on : advance N S w ≡ goes U → n < most_words → k ≤ most_act_words → depth U ≤ most_depth →
      read_on N len (golog.token o w ∷ ts) n k S ≡ read_on N len ts (n + 1) k U
  on e a b d =
      ap (after_word o n k (read_on N len ts)) e
      ∙ (ap (λ t. by_limit t o (read_on N len ts (suc n) k U)) (within_limits (suc n) k U (omega arith) b d) ∙ ap (λ m. read_on N len ts m k U) (sym (add-one n)))

  on_act : advance N S w ≡ goes_by_act U → n < most_words → k < most_act_words → depth U ≤ most_depth →
      read_on N len (golog.token o w ∷ ts) n k S ≡ read_on N len ts (n + 1) (k + 1) U
  on_act e a b d =
      ap (after_word o n k (read_on N len ts)) e
      ∙ (ap (λ t. by_limit t o (read_on N len ts (suc n) (suc k) U)) (within_limits (suc n) (suc k) U (omega arith) (omega arith) d)
      ∙ ap₂ (λ m l. read_on N len ts m l U) (sym (add-one n)) (sym (add-one k)))

  off : advance N S w ≡ goes U → in_limits (suc n) k U ≡ false → read_on N len (golog.token o w ∷ ts) n k S ≡ refused (over_limit o)
  off e l = ap (after_word o n k (read_on N len ts)) e ∙ ap (λ t. by_limit t o (read_on N len ts (suc n) k U)) l

  off_act : advance N S w ≡ goes_by_act U → in_limits (suc n) (suc k) U ≡ false → read_on N len (golog.token o w ∷ ts) n k S ≡ refused (over_limit o)
  off_act e l = ap (after_word o n k (read_on N len ts)) e ∙ ap (λ t. by_limit t o (read_on N len ts (suc n) (suc k) U)) l

module _ (s t : Reader) (x : Token) (p : Passed s t x) where
  pub passed_fewer : length (rest t) < length (rest s)
  passed_fewer = let e = ap length p.rests in omega (arith, e)

  passed_on : (N : Names) (len : ℕ) (S U : State) → advance N S (said x.word) ≡ goes U → depth U ≤ most_depth →
      going N len s S ≡ going N len t U
  unfolding going
  passed_on N len S U e d =
      ap (λ ts. read_on N len ts s.taken s.acts S) p.rests
      ∙ (on N len x.at (said x.word) (rest t) s.taken s.acts S U e p.room s.few d
      ∙ ap₂ (λ m l. read_on N len (rest t) m l U) (sym p.counts) (sym p.acts))

  pub passed_taken : Taken s t (said x.word)
  passed_taken = record { fewer = passed_fewer; tree = p.tree; on = passed_on }

  -- then an act word is counted
  pub passed_act_on : (u : Reader) → rest u ≡ rest t → u.taken ≡ t.taken → u.acts ≡ t.acts + 1 → s.acts < most_act_words →
      (N : Names) (len : ℕ) (S U : State) → advance N S (said x.word) ≡ goes_by_act U → depth U ≤ most_depth → going N len s S ≡ going N len u U
  unfolding going
  passed_act_on u r i j b N len S U e d =
      ap (λ ts. read_on N len ts s.taken s.acts S) p.rests
      ∙ (on_act N len x.at (said x.word) (rest t) s.taken s.acts S U e p.room b d
      ∙ (ap (λ ts. read_on N len ts (s.taken + 1) (s.acts + 1) U) (sym r)
      ∙ ap₂ (λ m l. read_on N len (rest u) m l U) (sym (i ∙ p.counts)) (sym (j ∙ ap (λ l. l + 1) p.acts))))

module _ (s : Reader) (x : Token) (e : s.ahead ≡ Some x) where
  pub stopped : (N : Names) (len : ℕ) (S U : State) → advance N S (said x.word) ≡ goes U → in_limits (suc s.taken) s.acts U ≡ false →
      going N len s S ≡ refused (over_limit x.at)
  unfolding going
  stopped N len S U g l =
      ap (λ a. read_on N len (rest_from a s.words) s.taken s.acts S) e ∙ off N len x.at (said x.word) _ s.taken s.acts S U g l

  pub stopped_act : (N : Names) (len : ℕ) (S U : State) → advance N S (said x.word) ≡ goes_by_act U → in_limits (suc s.taken) (suc s.acts) U ≡ false →
      going N len s S ≡ refused (over_limit x.at)
  unfolding going
  stopped_act N len S U g l =
      ap (λ a. read_on N len (rest_from a s.words) s.taken s.acts S) e ∙ off_act N len x.at (said x.word) _ s.taken s.acts S U g l

  -- a word that is one too many
  pub full_over : (f : TextFault) → Full s x f → OverDone s (said x.word) f
  full_over f h N len S U g =
      subst (λ f. Tells f (going N len s S)) (sym h.0) (stopped N len S U g (too_many (suc s.taken) s.acts U (omega (arith, h.1))))

  pub full_over_act : (f : TextFault) → Full s x f → OverDoneAct s (said x.word) f
  full_over_act f h N len S U g =
      subst (λ f. Tells f (going N len s S)) (sym h.0) (stopped_act N len S U g (too_many (suc s.taken) (suc s.acts) U (omega (arith, h.1))))

  pub unfit_word : (N : Names) (len : ℕ) (S : State) → Unfit N len S (rest s) → going N len s S ≡ refused (misplaced x.at)
  unfolding going
  unfit_word N len S h =
      ap (λ a. read_on N len (rest_from a s.words) s.taken s.acts S) e
      ∙ ap (after_word x.at s.taken s.acts (read_on N len _)) (subst (λ a. Unfit N len S (rest_from a s.words)) e h)

pub unfit_end : (s : Reader) → s.ahead ≡ None → (N : Names) (len : ℕ) (S : State) → Unfit N len S (rest s) → going N len s S ≡ refused (misplaced len)
unfolding going
unfit_end s e N len S h =
    ap (λ a. read_on N len (rest_from a s.words) s.taken s.acts S) e ∙ subst (λ a. Unfit N len S (rest_from a s.words)) e h

-- a name that is not known
pub unknown_word : (s : Reader) (x : Token) → s.ahead ≡ Some x → (N : Names) (len : ℕ) (S : State) → advance N S (said x.word) ≡ unfamiliar →
    going N len s S ≡ refused (unknown x.at)
unfolding going
unknown_word s x e N len S h =
    ap (λ a. read_on N len (rest_from a s.words) s.taken s.acts S) e ∙ ap (after_word x.at s.taken s.acts (read_on N len _)) h

-- two states from which reading goes on alike
pub alike : (s : Reader) (N : Names) (len : ℕ) (S U : State) → finish len S ≡ finish len U →
    ((w : golog.Word) → (mark_of w ≡ next_mark (rest s)) → advance N S w ≡ advance N U w) → going N len s S ≡ going N len s U
unfolding going
alike s N len S U e h = by (rest s) h
  where
    by : (ts : List golog.Token) → ((w : golog.Word) → (mark_of w ≡ next_mark ts) → advance N S w ≡ advance N U w) →
        read_on N len ts s.taken s.acts S ≡ read_on N len ts s.taken s.acts U
    by [] h = e
    by (t ∷ ts) h = ap (after_word t.offset s.taken s.acts (read_on N len ts)) (h t.word refl)

-- reading goes on alike one level deeper
pub deeper_on : (V W : Level) → Deeper V W → (s : Reader) (S : State) → goes_on V s S ≡ goes_on W s S
deeper_on V W g s S = ap₂ (λ N len. going N len s S) (sym g.names) (sym g.end)

-- a `?` hands on what a call refused
pub hands_on : {T E : Type 0} (r : Result T E) (P : T → Type 0) (Q : E → Type 0) (e : E) → IsErrAnd r (λ f. f ≡ e) → Q e → MatchResult r P Q
hands_on r P Q e h q = let p = err_from_is_err_and r h in rw (p.1, p.2) q

pub refusal : (f : TextFault) (x y : Reading) → x ≡ y → Tells f y → Tells f x
refusal f x y e h = subst (Tells f) (sym e) h

pub memory_tells : (f : TextFault) (x : Reading) → f ≡ Memory → Tells f x
memory_tells f x e = subst (λ g. Tells g x) (sym e) tt

-- what a name that is not known tells
pub nameless_tells : (s : Reader) (x : Token) → s.ahead ≡ Some x → (N : Names) (len : ℕ) (S : State) (f : TextFault) (n : Option ℕ) → Nameless n x.at f →
    (n ≡ none → advance N S (said x.word) ≡ unfamiliar) → Tells f (going N len s S)
nameless_tells s x e N len S f n (inl m) h = memory_tells f _ m
nameless_tells s x e N len S f n (inr u) h = subst (λ g. Tells g (going N len s S)) (sym u.0) (unknown_word s x e N len S (h u.1))

-- whether a mark was taken
pub takes_yes : (b : Bool) (s t : Reader) (m : Mark) → b ≡ true → Takes b s t m → Taken s t (mark_word m)
takes_yes true s t m e h = h
takes_yes false s t m e h = absurd (true≢false (sym e))

pub takes_no : (b : Bool) (s t : Reader) (m : Mark) → b ≡ false → Takes b s t m → (t ≡ s) × (next_mark (rest s) ≡ some m → ⊥)
takes_no true s t m e h = absurd (true≢false e)
takes_no false s t m e h = h
