-- What taking a word does.
use Rattle.std.specs.Prelude.{◌≡◌, ℕ, ◌+◌, ◌<◌, ◌≤◌, Bool, true, false, List, [], ◌∷◌, length, ◌≢◌}
use Rattle.std.proofs.Math.Option.{some}
use Rattle.golog.specs.Words as golog
use Rattle.golog.specs.Grammar.{Names}
use Rattle.golog.specs.Reading.{State, advance, depth, finish, most_words, most_depth}
use Rattle.golog.specs.Reading.Advance.{goes, goes_by_act, misfit}
use Rattle.golog.specs.Reading.Reading.{refused}
use Rattle.golog.specs.Reading.TextFault.{misplaced}
use Rattle.text.specs.declared.word.Token.{Token}
use Rattle.text.specs.declared.word.Mark.{Mark}
use Rattle.text.specs.declared.fault.TextFault.{TextFault}
use Rattle.text.specs.declared.fault.TextFault.TheVariants.{OverLimit}
use Rattle.text.specs.declared.reader.Reader.{Reader}
use Rattle.text.specs.Said.{mark_word}
use Rattle.text.specs.Faults.{Tells}
use Rattle.text.specs.Left.{said_token}
use Rattle.text.specs.Rest.{rest, going, next_mark}

-- a word was taken, and is counted
pub record Passed (s t : Reader) (x : Token) : Type 0 where
  pub room : s.taken < most_words
  pub rests : rest s ≡ said_token x ∷ rest t
  pub counts : t.taken ≡ s.taken + 1
  pub acts : t.acts ≡ s.acts
  pub tree : t.tree ≡ s.tree

-- a word is one too many
abbrev pub Full : Reader → Token → TextFault → Type 0
Full s x f = (f ≡ OverLimit x.at) × (most_words ≤ s.taken)

-- the reading goes on behind a word
pub record Taken (s t : Reader) (w : golog.Word) : Type 0 where
  pub fewer : length (rest t) < length (rest s)
  pub tree : t.tree ≡ s.tree
  pub on : (N : Names) (len : ℕ) (S U : State) → advance N S w ≡ goes U → depth U ≤ most_depth → going N len s S ≡ going N len t U

pub record TakenAct (s t : Reader) (w : golog.Word) : Type 0 where
  pub fewer : length (rest t) < length (rest s)
  pub tree : t.tree ≡ s.tree
  pub on : (N : Names) (len : ℕ) (S U : State) → advance N S w ≡ goes_by_act U → depth U ≤ most_depth → going N len s S ≡ going N len t U

-- the word passes a limit
abbrev pub OverDone : Reader → golog.Word → TextFault → Type 0
OverDone s w f = (N : Names) (len : ℕ) (S U : State) → advance N S w ≡ goes U → Tells f (going N len s S)

abbrev pub OverDoneAct : Reader → golog.Word → TextFault → Type 0
OverDoneAct s w f = (N : Names) (len : ℕ) (S U : State) → advance N S w ≡ goes_by_act U → Tells f (going N len s S)

abbrev pub OverDeep : Reader → golog.Word → ℕ → TextFault → Type 0
OverDeep s w d f = (N : Names) (len : ℕ) (S U : State) → advance N S w ≡ goes U → depth U ≡ d + 1 → Tells f (going N len s S)

-- a mark is taken where it is next
abbrev pub Takes : Bool → Reader → Reader → Mark → Type 0
Takes true s t m = Taken s t (mark_word m)
Takes false s t m = (t ≡ s) × (next_mark (rest s) ≢ some m)

-- what is next has no place in a state
abbrev pub Unfit : Names → ℕ → State → List golog.Token → Type 0
Unfit N len S [] = finish len S ≡ refused (misplaced len)
Unfit N len S (t ∷ ts) = advance N S t.word ≡ misfit

abbrev pub Unplaced : Reader → ℕ → TextFault → Type 0
Unplaced s len f = (N : Names) (S : State) → Unfit N len S (rest s) → Tells f (going N len s S)

abbrev pub Unclosed : Reader → Mark → ℕ → TextFault → Type 0
Unclosed s m len f =
    (N : Names) (S U : State) → advance N S (mark_word m) ≡ goes U →
    ((next_mark (rest s) ≢ some m) → Unfit N len S (rest s)) → Tells f (going N len s S)
