-- The words of a routine's text.
use Rattle.std.specs.Prelude.{ℕ, suc, Bool, true, false, cond, ◌||◌, List, [], ◌∷◌, ◌++◌, codes, ◌==◌}
use Rattle.std.proofs.Math.Option.{Option, none, some}
use Rattle.words.specs.Names.{same_word, reserved_words, is_name_byte, name_shaped}

-- Words by where they may stand. These begin an atom: [ nil if while
pub data Begin : Type 0 where
  open_square nil_word if_word while_word : Begin

-- These stand behind an item: * ; | else fi od
pub data Behind : Type 0 where
  asterisk semicolon bar else_word fi_word od_word : Behind

-- These begin a condition: true false not
pub data CondBegin : Type 0 where
  true_word false_word not_word : CondBegin

-- These stand behind a condition: and or ] then do
pub data CondBehind : Type 0 where
  and_word or_word close_square then_word do_word : CondBehind

-- A word: a name; a sign or a reserved word; or strange, no word of any routine.
pub data Word : Type 0 where
  name : List ℕ → Word
  open_round : Word
  close_round : Word
  begins : Begin → Word
  behind : Behind → Word
  cond_begins : CondBegin → Word
  cond_behind : CondBehind → Word
  strange : Word

-- a word beside its offset in the text
pub record Token : Type 0 where
  pub offset : ℕ
  pub word : Word

-- the entry of a list that stands beside the word
abbrev pub beside : List (List ℕ × Word) → List ℕ → Option Word
beside [] w = none
beside (x ∷ xs) w = elim (same_word x.0 w) [ true ↦ some x.1 | false ↦ beside xs w ]

-- words beside what they are
abbrev pub paired : List (List ℕ) → List Word → List (List ℕ × Word)
paired [] ws = []
paired (n ∷ ns) [] = []
paired (n ∷ ns) (w ∷ ws) = (n, w) ∷ paired ns ws

-- what each reserved word is
abbrev pub reserved : List (List ℕ × Word)
reserved =
    paired reserved_words
    (begins if_word
    ∷ cond_behind then_word
    ∷ behind else_word
    ∷ behind fi_word
    ∷ begins while_word
    ∷ cond_behind do_word
    ∷ behind od_word
    ∷ begins nil_word
    ∷ cond_behind and_word
    ∷ cond_behind or_word
    ∷ cond_begins not_word
    ∷ cond_begins true_word
    ∷ cond_begins false_word
    ∷ [])

-- the signs
abbrev pub signs : List (List ℕ × Word)
signs =
    (codes "(", open_round)
    ∷ (codes ")", close_round)
    ∷ (codes "[", begins open_square)
    ∷ (codes "]", cond_behind close_square)
    ∷ (codes ";", behind semicolon)
    ∷ (codes "|", behind bar)
    ∷ (codes "*", behind asterisk)
    ∷ []

-- space, tab, CR and LF
abbrev pub blank : ℕ → Bool
blank b = b == 32 || (b == 9 || (b == 13 || b == 10))

-- A run of letters, digits and underscores is a reserved word, a name, or strange.
abbrev name_or_strange : List ℕ → Option Word → Word
name_or_strange w (some r) = r
name_or_strange w none = cond (name_shaped w) (name w) strange

abbrev pub run_word : List ℕ → Word
run_word w = name_or_strange w (beside reserved w)

-- A byte is blank, begins a comment, belongs to a run, or is a word of its own: a sign, or strange.
pub data Byte : Type 0 where
  space : Byte
  hash : Byte
  part : Byte
  lone : Word → Byte

abbrev lone_word : Option Word → Byte
lone_word none = lone strange
lone_word (some s) = lone s

abbrev pub byte_kind : ℕ → Byte
byte_kind b =
    elim (blank b) [
      | true ↦ space
      | false ↦ elim (b == 35) [ true ↦ hash | false ↦ elim (is_name_byte b) [ true ↦ part | false ↦ lone_word (beside signs (b ∷ [])) ] ]
    ]

-- Where the cutting of a text stands: between words, in a comment, or in a run that began at an offset, with its bytes so far.
pub data Cutting : Type 0 where
  gap : Cutting
  comment : Cutting
  run : ℕ → List ℕ → Cutting

abbrev pub token : ℕ → Word → Token
token o w = record { offset = o; word = w }

-- The words of a text, each with its offset. Blanks and comments part words; a comment goes up to LF or the end of the text;
-- a run goes as far as it can.
abbrev pub cut : Cutting → ℕ → List ℕ → List Token
cut gap o [] = []
cut gap o (b ∷ bs) =
    elim (byte_kind b) [
      | space ↦ cut gap (suc o) bs
      | hash ↦ cut comment (suc o) bs
      | part ↦ cut (run o (b ∷ [])) (suc o) bs
      | lone w ↦ token o w ∷ cut gap (suc o) bs
    ]
cut comment o [] = []
cut comment o (b ∷ bs) = elim (b == 10) [ true ↦ cut gap (suc o) bs | false ↦ cut comment (suc o) bs ]
cut (run s w) o [] = token s (run_word w) ∷ []
cut (run s w) o (b ∷ bs) =
    elim (byte_kind b) [
      | space ↦ token s (run_word w) ∷ cut gap (suc o) bs
      | hash ↦ token s (run_word w) ∷ cut comment (suc o) bs
      | part ↦ cut (run s (w ++ b ∷ [])) (suc o) bs
      | lone x ↦ token s (run_word w) ∷ token o x ∷ cut gap (suc o) bs
    ]

abbrev pub tokens : List ℕ → List Token
tokens text = cut gap 0 text

-- the words of a list of tokens, and of a text
abbrev pub words_of : List Token → List Word
words_of [] = []
words_of (t ∷ ts) = t.word ∷ words_of ts

abbrev pub text_words : List ℕ → List Word
text_words text = words_of (tokens text)
