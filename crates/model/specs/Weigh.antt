-- Whether a record may stand where it stands, and if not, which fault it is.
-- The grounds are tried by rising number: 2 of the record as such, 3 of its fields, 4 of its name, 5 of its being there at all.
use Rattle.std.specs.Prelude.{ℕ, ◌+◌, Bool, true, false, cond, ◌||◌, List, [], ◌∷◌, length, is_some, Some, None, Ok, Err, Option, Result, nat_le}
use Rattle.records.specs.Split.{Front, front}
use Rattle.records.specs.Split.Front.{cut, whole}
use Rattle.records.specs.declared.RecordFault.{RecordFault}
use Rattle.records.specs.declared.RecordFault.TheVariants.{Cut}
use Rattle.words.specs.Names.{is_name, among}
use Rattle.items.specs.declared.item.Header.{Header}
use Rattle.items.specs.Layout.{Entry}
use Rattle.items.specs.Layout.Entry.{head, fact, act, rule, change, state, move, mark, allowance, routine}
use Rattle.items.specs.Placed.{opened, placed}
use Rattle.items.specs.Ranges.{bad_field, head_field}
use Rattle.model.specs.Contents.{Contents, rule_of, change_of, move_of, marked_of, first_of}
use Rattle.model.specs.declared.fault.ModelFault.{ModelFault}
use Rattle.model.specs.declared.fault.ModelFault.TheVariants.{Record, Field, BadName, SameName, TooOften, Missing}

-- the bytes of a record before its body
abbrev pub prefix : ℕ
prefix = 4

-- a name that is malformed, or the same as one of its sort before it
abbrev pub misnamed : ℕ → List ℕ → List (List ℕ) → Option ModelFault
misnamed at name before =
    cond (is_name name) (cond (among name before) (Some (SameName (at + prefix))) None) (Some (BadName (at + prefix)))

abbrev pub name_fault : (facts acts : List (List ℕ)) → ℕ → Entry → Option ModelFault
name_fault facts acts at (head h) = None
name_fault facts acts at (fact name) = misnamed at name facts
name_fault facts acts at (act name) = misnamed at name acts
name_fault facts acts at (rule a n l) = None
name_fault facts acts at (change a e n l s k) = None
name_fault facts acts at (state v) = None
name_fault facts acts at (move s a e t) = None
name_fault facts acts at (mark a e) = None
name_fault facts acts at (allowance k) = None
name_fault facts acts at (routine t) = None

-- the most moves of a file
abbrev pub most_moves : ℕ
most_moves = 2048

-- whether there are as many of these already as there may be
abbrev pub too_often : Header → Contents → Entry → Bool
too_often h c (head g) = true
too_often h c (fact name) = nat_le h.facts (length c.facts)
too_often h c (act name) = nat_le h.acts (length c.acts)
too_often h c (rule a n l) = is_some (rule_of c.rules a)
too_often h c (change a e n l s k) = is_some (change_of c.changes a e)
too_often h c (state v) = nat_le h.states (length c.valuations)
too_often h c (move s a e t) = is_some (move_of c.moves s a e) || nat_le most_moves (length c.moves)
too_often h c (mark a e) = marked_of c.marks a e
too_often h c (allowance k) = is_some (first_of c.allowances)
too_often h c (routine t) = is_some (first_of c.texts)

-- an item that is no fault of its fields, of its name, or of its being there
abbrev pub weighed_often : Bool → ℕ → Entry → Result Entry ModelFault
weighed_often true at i = Err (TooOften at)
weighed_often false at i = Ok i

abbrev pub weighed_name : Option ModelFault → Header → Contents → ℕ → Entry → Result Entry ModelFault
weighed_name (Some f) h c at i = Err f
weighed_name None h c at i = weighed_often (too_often h c i) at i

abbrev pub weighed_field : Option ℕ → Header → Contents → ℕ → Entry → Result Entry ModelFault
weighed_field (Some o) h c at i = Err (Field (at + prefix + o))
weighed_field None h c at i = weighed_name (name_fault c.facts c.acts at i) h c at i

abbrev pub weighed : Header → Contents → ℕ → Result Entry RecordFault → Result Entry ModelFault
weighed h c at (Err f) = Err (Record f)
weighed h c at (Ok i) = weighed_field (bad_field h i) h c at i

-- the record of a kind and a body, at an offset, behind a head and what was said so far
abbrev pub weigh : Header → Contents → (at kind : ℕ) → List ℕ → Result Entry ModelFault
weigh h c at kind body = weighed h c at (placed h.form c.group at kind body)

-- the file's first record: a head with its fields in range
abbrev pub opening_field : Option ℕ → ℕ → Header → Result Header ModelFault
opening_field (Some o) at h = Err (Field (at + prefix + o))
opening_field None at h = Ok h

abbrev pub opening_as : ℕ → Result Header RecordFault → Result Header ModelFault
opening_as at (Err f) = Err (Record f)
opening_as at (Ok h) = opening_field (head_field h) at h

abbrev pub opening : (at kind : ℕ) → List ℕ → Result Header ModelFault
opening at kind body = opening_as at (opened at kind body)

-- what a record at the front of the bytes says, with the bytes behind it
abbrev pub turned : Result Entry ModelFault → List ℕ → Result (Entry × List ℕ) ModelFault
turned (Ok i) rest = Ok (i, rest)
turned (Err f) rest = Err f

abbrev pub turn_at : Front → Header → Contents → ℕ → Result (Entry × List ℕ) ModelFault
turn_at cut h c at = Err (Record (Cut at))
turn_at (whole kind body rest) h c at = turned (weigh h c at kind body) rest

abbrev pub turn : Header → Contents → ℕ → List ℕ → Result (Entry × List ℕ) ModelFault
turn h c at bytes = turn_at (front bytes) h c at

-- the head at the front of a file, with the bytes behind it; of a file without bytes the head is missing
abbrev pub begun : Result Header ModelFault → List ℕ → Result (Header × List ℕ) ModelFault
begun (Ok h) rest = Ok (h, rest)
begun (Err f) rest = Err f

abbrev pub begin_at : Front → Result (Header × List ℕ) ModelFault
begin_at cut = Err (Record (Cut 0))
begin_at (whole kind body rest) = begun (opening 0 kind body) rest

abbrev pub begin : List ℕ → Result (Header × List ℕ) ModelFault
begin [] = Err (Missing 0)
begin (b ∷ bytes) = begin_at (front (b ∷ bytes))
