-- Where the reading of a text stands.
use Rattle.std.specs.Prelude.{◌≡◌, ℕ, ◌+◌, List, [], ◌∷◌, Some, None, Option}
use Rattle.std.proofs.Math.Option as logic
use Rattle.std.proofs.Math.Option.{none, some}
use Rattle.words.specs.declared.names.Names as listed
use Rattle.words.specs.Listed.{name_list}
use Rattle.golog.specs.Words as golog
use Rattle.golog.specs.Words.Word.{name, open_round, close_round, begins, behind, cond_begins, cond_behind, strange}
use Rattle.golog.specs.Words.Behind.{asterisk, semicolon, bar, else_word, fi_word, od_word}
use Rattle.golog.specs.Words.CondBehind.{and_word, or_word, close_square, then_word, do_word}
use Rattle.golog.specs.Grammar.{Names}
use Rattle.golog.specs.Reading.{State, Reading, read_on}
use Rattle.text.specs.declared.word.Token.{Token}
use Rattle.text.specs.declared.word.Mark.{Mark}
use Rattle.text.specs.declared.word.Mark.TheVariants.{Close, CloseSquare, Semicolon, Bar, Star, Then, Else, Fi, Do, Od, And, Or}
use Rattle.text.specs.declared.lexer.Words.{Words}
use Rattle.text.specs.declared.reader.Level.{Level}
use Rattle.text.specs.declared.reader.Reader.{Reader}
use Rattle.text.specs.Left.{said_token, left}

-- the words that are not taken
abbrev pub rest_from : Option Token → Words → List golog.Token
rest_from None ws = []
rest_from (Some t) ws = said_token t ∷ left ws

abbrev pub rest : Reader → List golog.Token
rest r = rest_from r.ahead r.words

-- how the reading goes on from a state
unfoldable pub going : Names → ℕ → Reader → State → Reading
going N len r S = read_on N len (rest r) r.taken r.acts S

abbrev pub both_names : listed.Names → listed.Names → Names
both_names facts acts = record { facts = name_list facts; acts = name_list acts }

abbrev pub names_of : Level → Names
names_of v = both_names v.facts.now v.acts.now

-- how the reading goes on at a level
abbrev pub goes_on : Level → Reader → State → Reading
goes_on v r S = going (names_of v) v.end r S

-- one level deeper
pub record Deeper (v w : Level) : Type 0 where
  pub names : names_of w ≡ names_of v
  pub end : w.end ≡ v.end
  pub depth : w.depth ≡ v.depth + 1

-- which mark a word is, and which is next
abbrev pub mark_of : golog.Word → logic.Option Mark
mark_of (name w) = none
mark_of open_round = none
mark_of close_round = some Close
mark_of (begins b) = none
mark_of (behind asterisk) = some Star
mark_of (behind semicolon) = some Semicolon
mark_of (behind bar) = some Bar
mark_of (behind else_word) = some Else
mark_of (behind fi_word) = some Fi
mark_of (behind od_word) = some Od
mark_of (cond_begins b) = none
mark_of (cond_behind and_word) = some And
mark_of (cond_behind or_word) = some Or
mark_of (cond_behind close_square) = some CloseSquare
mark_of (cond_behind then_word) = some Then
mark_of (cond_behind do_word) = some Do
mark_of strange = none

abbrev pub next_mark : List golog.Token → logic.Option Mark
next_mark [] = none
next_mark (t ∷ ts) = mark_of t.word
