-- The allowance: marked reactions, and how many of them are left to be borne.
use Rattle.std.specs.Prelude.{ℕ, ◌+◌, ◌-◌, ◌*◌, Bool, true, false, cond, not, ◌&&◌, ◌||◌, List, Some, None, Option, nat_lt, slice_index_or}
use Rattle.locks.specs.Meaning.{Meaning, most_acts, reactions, any_below}
use Rattle.locks.specs.Layer.{Memory, fits}
use Rattle.locks.specs.declared.marks.Marks.{Marks}
use Rattle.locks.specs.declared.allowance.LayerFault.{LayerFault}
use Rattle.locks.specs.declared.allowance.LayerFault.TheVariants.{Allowance, States}

-- the most marked reactions that an allowance may bear
abbrev pub most_borne : ℕ
most_borne = 7

-- the marks as a list, act by act, eight to an act
abbrev pub marks_list : Marks → List Bool
marks_list marks = marks.table

-- whether the act and the reaction can be marked
abbrev pub markable : ℕ → ℕ → Bool
markable a e = nat_lt a most_acts && nat_lt e reactions

-- whether the list marks the reaction of the act
abbrev pub marked_in : List Bool → ℕ → ℕ → Bool
marked_in xs a e = markable a e && slice_index_or xs (a * reactions + e) false

abbrev pub marked : Marks → ℕ → ℕ → Bool
marked marks = marked_in (marks_list marks)

-- whether some reaction of the act that is possible below has no mark
abbrev pub unmarked_possible : (ℕ → ℕ → Bool) → (ℕ → Bool) → ℕ → Bool
unmarked_possible mark below a = any_below reactions (λ e. below e && not (mark a e))

-- The memory is how many marked reactions are left, at first k. A marked reaction is admitted if some are left,
-- or if no unmarked one is possible below; it lowers what is left by one, down to 0. An unmarked one is admitted and changes nothing.
abbrev pub allowance : (ℕ → ℕ → Bool) → ℕ → Memory
allowance mark k = record {
  size = k + 1;
  start = k;
  may = λ left a. true;
  admits = λ below left a e. not (mark a e) || (nat_lt 0 left || not (unmarked_possible mark below a));
  next = λ left a e. cond (mark a e) (left - 1) left;
}

-- why an allowance over the lock is refused, if it is
abbrev pub layer_fault : Meaning → ℕ → Option LayerFault
layer_fault m k =
    cond (nat_lt most_borne k) (Some (Allowance k)) (cond (fits m (k + 1)) None (Some (States (m.states * (k + 1)))))
