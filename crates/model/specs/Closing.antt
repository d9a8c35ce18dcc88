-- The end of a file: records that never came, then acts that have no reaction, then the layer.
use Rattle.std.specs.Prelude.{◌≡◌, ℕ, zero, suc, Bool, true, false, cond, not, ◌&&◌, ◌||◌, length, is_some, Some, None, Option, ◌==◌, nat_lt}
use Rattle.words.specs.Listed.{name_list}
use Rattle.items.specs.declared.item.Header.{Header}
use Rattle.locks.specs.declared.allowance.LayerFault.{LayerFault}
use Rattle.locks.specs.Meaning.{Meaning}
use Rattle.locks.specs.Stuck.{stuck}
use Rattle.locks.specs.Allowed.{marked, layer_fault}
use Rattle.pile.specs.Pile.{pile_meaning}
use Rattle.model.specs.Contents.{Contents, rule_of, marked_of, first_of, borne, lowest_said, pile_said}
use Rattle.model.specs.declared.fault.ModelFault.{ModelFault}
use Rattle.model.specs.declared.fault.ModelFault.TheVariants.{Missing, Stuck, Layer}
use Rattle.model.specs.declared.model.Model.{Model}

-- whether all numbers below n pass the test
abbrev pub all_below : ℕ → (ℕ → Bool) → Bool
all_below zero p = true
all_below (suc n) p = p n && all_below n p

-- whether a rule of some act, in form 1, or a state, in form 2, never came
abbrev pub lock_lacking : Header → Contents → Bool
lock_lacking h c =
    cond (h.form == 1) (not (all_below h.acts (λ a. is_some (rule_of c.rules a)))) (nat_lt (length c.valuations) h.states)

-- whether a record that each file has never came
abbrev pub lacking : Header → Contents → Bool
lacking h c =
    nat_lt (length c.facts) h.facts || (nat_lt (length c.acts) h.acts || (lock_lacking h c || not (is_some (first_of c.texts))))

-- the lowest number below n that passes the test
abbrev pub or_here : Option ℕ → Bool → ℕ → Option ℕ
or_here (Some k) here n = Some k
or_here None true n = Some n
or_here None false n = None

abbrev pub lowest_below : ℕ → (ℕ → Bool) → Option ℕ
lowest_below zero p = None
lowest_below (suc n) p = or_here (lowest_below n p) (p n) n

-- the lowest act below n that is stuck somewhere, with the lowest state in which it is
abbrev pub or_stuck : Option (ℕ × ℕ) → ℕ → Option ℕ → Option (ℕ × ℕ)
or_stuck (Some x) a s = Some x
or_stuck None a (Some s) = Some (a, s)
or_stuck None a None = None

abbrev pub stuck_below : ℕ → Meaning → Option (ℕ × ℕ)
stuck_below zero m = None
stuck_below (suc a) m = or_stuck (stuck_below a m) a (lowest_below m.states (λ s. stuck m s a))

abbrev pub first_stuck : Meaning → Option (ℕ × ℕ)
first_stuck m = stuck_below m.acts m

-- the fault at the end of a file of this length, if there is one
abbrev pub closing_layer : Option LayerFault → Option ModelFault
closing_layer (Some f) = Some (Layer f)
closing_layer None = None

abbrev pub closing_live : Option (ℕ × ℕ) → Header → Contents → Option ModelFault
closing_live (Some (a, s)) h c = Some (Stuck a s)
closing_live None h c = closing_layer (layer_fault (lowest_said h c) (borne c))

abbrev pub closing : Header → Contents → ℕ → Option ModelFault
closing h c end = cond (lacking h c) (Some (Missing end)) (closing_live (first_stuck (lowest_said h c)) h c)

-- A model that is what was said: its lock, its names, its marks and allowance, and the routine's text.
pub record Modelled (m : Model) (h : Header) (c : Contents) : Type 0 where
  pub lock : pile_meaning m.lock ≡ pile_said h c
  pub facts : name_list m.facts ≡ c.facts
  pub acts : name_list m.acts ≡ c.acts
  pub marks : (a e : ℕ) → marked m.marks a e ≡ marked_of c.marks a e
  pub most : m.most ≡ borne c
  pub text : Some m.text.now ≡ first_of c.texts
