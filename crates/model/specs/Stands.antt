-- When the tables of a draft hold what was said.
use Rattle.std.specs.Prelude.{◌≡◌, ℕ, ◌≤◌, true, false, [], length, None, nat_le}
use Rattle.std.specs.Option.{option_map}
use Rattle.words.specs.Listed.{name_list}
use Rattle.items.specs.declared.item.Header.{Header}
use Rattle.items.specs.Kinds.{group_of, of_form}
use Rattle.items.specs.Layout.{Entry, kind_of_entry}
use Rattle.items.specs.Ranges.{bad_field}
use Rattle.locks.specs.Meaning.{most_acts}
use Rattle.locks.specs.Allowed.{marked}
use Rattle.lowest.specs.declared.facts.FactLock.{FactLock}
use Rattle.lowest.specs.declared.listed.ListedLock.{ListedLock}
use Rattle.lowest.specs.declared.lowest.Lowest.{Lowest}
use Rattle.lowest.specs.declared.lowest.Lowest.TheVariants.{Empty, Facts, Listed}
use Rattle.lowest.specs.Facts.{rule_in, change_in}
use Rattle.lowest.specs.FactViews.{fact_rules, fact_changes}
use Rattle.lowest.specs.Listed.{move_in}
use Rattle.lowest.specs.ListedViews.{listed_valuations, listed_moves}
use Rattle.model.specs.Contents.{Contents, rule_of, change_of, move_of, marked_of, first_of}
use Rattle.model.specs.Weigh.{too_often}
use Rattle.model.specs.declared.draft.Draft.{Draft}

-- a lock of form 1 that holds the rules and changes that were said
pub record FactsStand (l : FactLock) (h : Header) (c : Contents) : Type 0 where
  pub form : h.form ≡ 1
  pub facts : l.facts ≡ h.facts
  pub acts : l.acts ≡ h.acts
  pub first : l.first ≡ h.first
  pub rules : (a : ℕ) → rule_in (fact_rules l) a ≡ rule_of c.rules a
  pub changes : (a e : ℕ) → change_in (fact_changes l) a e ≡ change_of c.changes a e
  pub no_valuations : c.valuations ≡ []
  pub no_moves : c.moves ≡ []

-- a lock of form 2 that holds the states and moves that were said
pub record ListedStand (l : ListedLock) (h : Header) (c : Contents) : Type 0 where
  pub form : h.form ≡ 2
  pub facts : l.facts ≡ h.facts
  pub acts : l.acts ≡ h.acts
  pub first : l.first ≡ h.first
  pub states : l.states ≡ h.states
  pub valuations : listed_valuations l ≡ c.valuations
  pub moves : (s a e : ℕ) → move_in l.acts (listed_moves l) s a e ≡ move_of c.moves s a e
  pub no_rules : c.rules ≡ []
  pub no_changes : c.changes ≡ []

abbrev pub LowestStands : Lowest → Header → Contents → Type 0
LowestStands Empty h c = ⊥
LowestStands (Facts l) h c = FactsStand l h c
LowestStands (Listed l) h c = ListedStand l h c

pub record Stands (d : Draft) (c : Contents) : Type 0 where
  pub few_acts : d.head.acts ≤ most_acts
  pub group : d.group ≡ c.group
  pub facts : name_list d.facts ≡ c.facts
  pub acts : name_list d.acts ≡ c.acts
  pub lowest : LowestStands d.lowest d.head c
  pub moves : d.moves ≡ length c.moves
  pub marks : (a e : ℕ) → marked d.marks a e ≡ marked_of c.marks a e
  pub allowance : d.allowance ≡ first_of c.allowances
  pub text : option_map (λ x. x.now) d.text ≡ first_of c.texts

-- an item that may come next: of the lock's form, of no earlier group, its fields in range, and not once too often
pub record Fit (h : Header) (c : Contents) (i : Entry) : Type 0 where
  pub formed : of_form (kind_of_entry i) h.form ≡ true
  pub ordered : nat_le c.group (group_of (kind_of_entry i)) ≡ true
  pub ranged : bad_field h i ≡ None
  pub once : too_often h c i ≡ false
