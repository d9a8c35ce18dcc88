-- The range of each field, with the field's offset in the body.
use Rattle.std.specs.Prelude.{ℕ, ◌^◌, Bool, true, false, cond, ◌&&◌, ◌||◌, List, [], ◌∷◌, Some, None, Option, ◌==◌, nat_le, nat_lt}
use Rattle.locks.specs.Meaning.{most_facts, most_acts, reactions}
use Rattle.locks.specs.Allowed.{most_borne}
use Rattle.lowest.specs.Listed.{most_listed}
use Rattle.items.specs.declared.item.Header.{Header}
use Rattle.items.specs.Layout.{Entry}
use Rattle.items.specs.Layout.Entry.{head, fact, act, rule, change, state, move, mark, allowance, routine}

-- the first field, front to back, that fails its test
abbrev pub first_bad : List (ℕ × Bool) → Option ℕ
first_bad [] = None
first_bad ((at, true) ∷ more) = first_bad more
first_bad ((at, false) ∷ more) = Some at

-- no bit at or above the count of facts is set
abbrev pub within_facts : ℕ → ℕ → Bool
within_facts facts bits = nat_lt bits (2 ^ facts)

-- a lock of form 1 has a state for each set of facts; one of form 2 has 1 to 1,024
abbrev pub right_states : Header → Bool
right_states h = cond (h.form == 1) (h.states == 2 ^ h.facts) (nat_le 1 h.states && nat_le h.states most_listed)

-- each field of a head with its test
abbrev pub head_tests : Header → List (ℕ × Bool)
head_tests h =
    (0, (h.form == 1) || h.form == 2) ∷ ((1, nat_le 1 h.facts && nat_le h.facts most_facts) ∷ ((2, nat_le 1 h.acts && nat_le h.acts most_acts)
    ∷ ((3, right_states h) ∷ ((5, nat_lt h.first h.states) ∷ []))))

-- each field of an item with its test, under the head of its lock
abbrev pub field_tests : Header → Entry → List (ℕ × Bool)
field_tests h (head g) = head_tests g
field_tests h (fact name) = []
field_tests h (act name) = []
field_tests h (rule a need lack) =
    (0, nat_lt a h.acts) ∷ ((1, within_facts h.facts need) ∷ ((3, within_facts h.facts lack) ∷ []))
field_tests h (change a e need lack set clear) =
    (0, nat_lt a h.acts) ∷ ((1, nat_lt e reactions) ∷ ((2, within_facts h.facts need) ∷ ((4, within_facts h.facts lack)
    ∷ ((6, within_facts h.facts set) ∷ ((8, within_facts h.facts clear) ∷ [])))))
field_tests h (state v) = (0, within_facts h.facts v) ∷ []
field_tests h (move s a e t) = (0, nat_lt s h.states) ∷ ((2, nat_lt a h.acts) ∷ ((3, nat_lt e reactions) ∷ ((4, nat_lt t h.states) ∷ [])))
field_tests h (mark a e) = (0, nat_lt a h.acts) ∷ ((1, nat_lt e reactions) ∷ [])
field_tests h (allowance k) = (0, nat_le k most_borne) ∷ []
field_tests h (routine text) = []

-- the offset of the first field out of range
abbrev pub head_field : Header → Option ℕ
head_field h = first_bad (head_tests h)

abbrev pub bad_field : Header → Entry → Option ℕ
bad_field h i = first_bad (field_tests h i)
