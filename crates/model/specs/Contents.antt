-- What the records of a job file say, sorted by kind.
use Rattle.std.specs.Prelude.{ℕ, Bool, false, cond, ◌&&◌, ◌||◌, List, [], ◌∷◌, ◌++◌, Some, None, Option, ◌==◌, slice_index}
use Rattle.items.specs.declared.item.Header.{Header}
use Rattle.items.specs.Layout.{Entry}
use Rattle.items.specs.Layout.Entry.{head, fact, act, rule, change, state, move, mark, allowance, routine}
use Rattle.locks.specs.Meaning.{Meaning}
use Rattle.locks.specs.Layer.{layered}
use Rattle.locks.specs.Allowed.{allowance as allowing}
use Rattle.lowest.specs.declared.facts.Rule.{Rule}
use Rattle.lowest.specs.declared.facts.Change.{Change}
use Rattle.lowest.specs.Facts.{fact_meaning}
use Rattle.lowest.specs.Listed.{listed_meaning}

-- What was said behind the head: the group of the last record, then what there is of each kind.
-- Names and valuations stand in the order of the file; of the others the last comes first.
pub record Contents : Type 0 where
  pub group : ℕ
  pub facts : List (List ℕ)
  pub acts : List (List ℕ)
  pub rules : List (ℕ × Rule)
  pub changes : List (ℕ × ℕ × Change)
  pub valuations : List ℕ
  pub moves : List (ℕ × ℕ × ℕ × ℕ)
  pub marks : List (ℕ × ℕ)
  pub allowances : List ℕ
  pub texts : List (List ℕ)

-- nothing said yet
abbrev pub silence : Contents
silence = record { group = 0; facts = []; acts = []; rules = []; changes = []; valuations = []; moves = []; marks = []; allowances = []; texts = [] }

-- one item more
abbrev pub with_item : Contents → Entry → Contents
with_item c (head h) = record { group = 0; facts = c.facts; acts = c.acts; rules = c.rules; changes = c.changes; valuations = c.valuations; moves = c.moves; marks = c.marks; allowances = c.allowances; texts = c.texts }
with_item c (fact name) = record { group = 1; facts = c.facts ++ name ∷ []; acts = c.acts; rules = c.rules; changes = c.changes; valuations = c.valuations; moves = c.moves; marks = c.marks; allowances = c.allowances; texts = c.texts }
with_item c (act name) = record { group = 2; facts = c.facts; acts = c.acts ++ name ∷ []; rules = c.rules; changes = c.changes; valuations = c.valuations; moves = c.moves; marks = c.marks; allowances = c.allowances; texts = c.texts }
with_item c (rule a need lack) = record { group = 3; facts = c.facts; acts = c.acts; rules = (a, record { need = need; lack = lack }) ∷ c.rules; changes = c.changes; valuations = c.valuations; moves = c.moves; marks = c.marks; allowances = c.allowances; texts = c.texts }
with_item c (change a e need lack set clear) = record { group = 3; facts = c.facts; acts = c.acts; rules = c.rules; changes = (a, e, record { need = need; lack = lack; set = set; clear = clear }) ∷ c.changes; valuations = c.valuations; moves = c.moves; marks = c.marks; allowances = c.allowances; texts = c.texts }
with_item c (state v) = record { group = 3; facts = c.facts; acts = c.acts; rules = c.rules; changes = c.changes; valuations = c.valuations ++ v ∷ []; moves = c.moves; marks = c.marks; allowances = c.allowances; texts = c.texts }
with_item c (move s a e t) = record { group = 3; facts = c.facts; acts = c.acts; rules = c.rules; changes = c.changes; valuations = c.valuations; moves = (s, a, e, t) ∷ c.moves; marks = c.marks; allowances = c.allowances; texts = c.texts }
with_item c (mark a e) = record { group = 4; facts = c.facts; acts = c.acts; rules = c.rules; changes = c.changes; valuations = c.valuations; moves = c.moves; marks = (a, e) ∷ c.marks; allowances = c.allowances; texts = c.texts }
with_item c (allowance k) = record { group = 4; facts = c.facts; acts = c.acts; rules = c.rules; changes = c.changes; valuations = c.valuations; moves = c.moves; marks = c.marks; allowances = k ∷ c.allowances; texts = c.texts }
with_item c (routine text) = record { group = 5; facts = c.facts; acts = c.acts; rules = c.rules; changes = c.changes; valuations = c.valuations; moves = c.moves; marks = c.marks; allowances = c.allowances; texts = text ∷ c.texts }

-- the rule of an act, the change of an act and a reaction, the state after a move, where they are said
abbrev pub rule_of : List (ℕ × Rule) → ℕ → Option Rule
rule_of [] a = None
rule_of ((b, r) ∷ more) a = cond (b == a) (Some r) (rule_of more a)

abbrev pub change_of : List (ℕ × ℕ × Change) → ℕ → ℕ → Option Change
change_of [] a e = None
change_of ((b, d, c) ∷ more) a e = cond (b == a && d == e) (Some c) (change_of more a e)

abbrev pub move_of : List (ℕ × ℕ × ℕ × ℕ) → ℕ → ℕ → ℕ → Option ℕ
move_of [] s a e = None
move_of ((r, b, d, t) ∷ more) s a e = cond (r == s && (b == a && d == e)) (Some t) (move_of more s a e)

-- whether a reaction of an act is marked
abbrev pub marked_of : List (ℕ × ℕ) → ℕ → ℕ → Bool
marked_of [] a e = false
marked_of ((b, d) ∷ more) a e = b == a && d == e || marked_of more a e

-- the first of a list, where it has one
abbrev pub first_of : {X : Type 0} → List X → Option X
first_of [] = None
first_of (x ∷ xs) = Some x

-- the allowance: 0 where none is said
abbrev pub borne : Contents → ℕ
borne c = slice_index c.allowances 0

-- the lowest lock: by rules and changes in form 1, by states and moves in form 2
abbrev pub lowest_said : Header → Contents → Meaning
lowest_said h c =
    cond (h.form == 1) (fact_meaning h.facts h.acts h.first (rule_of c.rules) (change_of c.changes))
    (listed_meaning h.facts h.acts h.first h.states (λ s. slice_index c.valuations s) (move_of c.moves))

-- the file's pile: one allowance over the lowest lock
abbrev pub pile_said : Header → Contents → Meaning
pile_said h c = layered (lowest_said h c) (allowing (marked_of c.marks) (borne c))
