-- What a record of each kind says: its fields, in the order of its body.
use Rattle.std.specs.Prelude.{ℕ, ◌+◌, List, Some, None, Option, slice_index}
use Rattle.records.specs.Split.{two_bytes}
use Rattle.items.specs.declared.kind.Kind.{Kind}
use Rattle.items.specs.declared.kind.Kind.TheVariants.{Head, Fact, Act, Rule, Change, State, Move, Mark, Allowance, Routine}
use Rattle.items.specs.declared.item.Header.{Header}
use Rattle.items.specs.declared.item.Item.{Item}
use Rattle.items.specs.declared.item.Item.TheVariants as code

-- an item of a job file
pub data Entry : Type 0 where
  head : Header → Entry
  fact : (name : List ℕ) → Entry
  act : (name : List ℕ) → Entry
  rule : (act need lack : ℕ) → Entry
  change : (act reaction need lack set clear : ℕ) → Entry
  state : (valuation : ℕ) → Entry
  move : (state act reaction after : ℕ) → Entry
  mark : (act reaction : ℕ) → Entry
  allowance : (k : ℕ) → Entry
  routine : (text : List ℕ) → Entry

-- the byte, and the number of two bytes, at an offset
abbrev pub byte : List ℕ → ℕ → ℕ
byte body i = slice_index body i

abbrev pub word : List ℕ → ℕ → ℕ
word body i = two_bytes (slice_index body i) (slice_index body (i + 1))

abbrev pub header : List ℕ → Header
header b = record { form = byte b 0; facts = byte b 1; acts = byte b 2; states = word b 3; first = word b 5 }

abbrev pub entry : Kind → List ℕ → Entry
entry Head b = head (header b)
entry Fact b = fact b
entry Act b = act b
entry Rule b = rule (byte b 0) (word b 1) (word b 3)
entry Change b = change (byte b 0) (byte b 1) (word b 2) (word b 4) (word b 6) (word b 8)
entry State b = state (word b 0)
entry Move b = move (word b 0) (byte b 2) (byte b 3) (word b 4)
entry Mark b = mark (byte b 0) (byte b 1)
entry Allowance b = allowance (byte b 0)
entry Routine b = routine b

-- the kind of an item
abbrev pub kind_of_entry : Entry → Kind
kind_of_entry (head h) = Head
kind_of_entry (fact n) = Fact
kind_of_entry (act n) = Act
kind_of_entry (rule a n l) = Rule
kind_of_entry (change a e n l s c) = Change
kind_of_entry (state v) = State
kind_of_entry (move s a e t) = Move
kind_of_entry (mark a e) = Mark
kind_of_entry (allowance k) = Allowance
kind_of_entry (routine t) = Routine

-- the text of a routine
abbrev pub text_in : Entry → Option (List ℕ)
text_in (head h) = None
text_in (fact n) = None
text_in (act n) = None
text_in (rule a n l) = None
text_in (change a e n l s c) = None
text_in (state v) = None
text_in (move s a e t) = None
text_in (mark a e) = None
text_in (allowance k) = None
text_in (routine t) = Some t

-- what an item that the code holds says
abbrev pub said : Item → Entry
said (code.Head h) = head h
said (code.Fact n) = fact n.now
said (code.Act n) = act n.now
said (code.Rule a n l) = rule a n l
said (code.Change a e n l s c) = change a e n l s c
said (code.State v) = state v
said (code.Move s a e t) = move s a e t
said (code.Mark a e) = mark a e
said (code.Allowance k) = allowance k
said (code.Routine t) = routine t.now
