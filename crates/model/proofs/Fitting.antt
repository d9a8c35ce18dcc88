-- An item that was weighed and found good fits where it stands.
use Rattle.std.proofs.Common.{◌≡◌, ℕ, Bool, true, false, leb, List, length, Some, None, Ok, Err, Option, Result, sym, refl, ap, ◌∙◌, subst}
use Rattle.records.specs.declared.RecordFault.{RecordFault}
use Rattle.items.specs.declared.kind.Kind.{Kind}
use Rattle.items.specs.declared.kind.Kind.TheVariants.{Head, Fact, Act, Rule, Change, State, Move, Mark, Allowance, Routine}
use Rattle.items.specs.declared.item.Header.{Header}
use Rattle.items.specs.Kinds.{kind_of, group_of, of_form, fits_length}
use Rattle.items.specs.Layout.{Entry, entry, kind_of_entry}
use Rattle.items.specs.Placed.{placed, placed_as}
use Rattle.items.specs.Ranges.{bad_field}
use Rattle.model.specs.Contents.{Contents}
use Rattle.records.specs.Split.{front}
use Rattle.records.specs.Split.Front.{whole}
use Rattle.model.specs.Weigh.{turn, turn_at, turned, weigh, weighed, weighed_field, weighed_name, weighed_often, name_fault, too_often}
use Rattle.model.specs.Stands.{Fit}
use Rattle.model.specs.declared.fault.ModelFault.{ModelFault}
use Rattle.model.proofs.Inside.{error_is_ok, passed}

kind_said : (k : Kind) (body : List ℕ) → kind_of_entry (entry k body) ≡ k
kind_said Head body = refl
kind_said Fact body = refl
kind_said Act body = refl
kind_said Rule body = refl
kind_said Change body = refl
kind_said State body = refl
kind_said Move body = refl
kind_said Mark body = refl
kind_said Allowance body = refl
kind_said Routine body = refl

-- a record that is placed is of the lock's form and of no earlier group
PlacedWell : (form group : ℕ) → Entry → Type 0
PlacedWell form group i = (of_form (kind_of_entry i) form ≡ true) × (leb group (group_of (kind_of_entry i)) ≡ true)

placed_well :
    (form group at : ℕ) (body : List ℕ) (k : Option Kind) (i : Entry) → placed_as form group at body k ≡ Ok i → PlacedWell form group i
unfolding PlacedWell
placed_well form group at body None i e = absurd (error_is_ok _ i e)
placed_well form group at body (Some k) i e =
    let p = passed (of_form k form) (leb group (group_of k)) (fits_length k (length body)) (entry k body) i _ _ _ e in
    let kind = ap kind_of_entry (sym p.1) ∙ kind_said k body in
    (ap (λ x. of_form x form) kind ∙ p.2, ap (λ x. leb group (group_of x)) kind ∙ p.3)

weighed_often_good : (b : Bool) (at : ℕ) (i j : Entry) → weighed_often b at i ≡ Ok j → (b ≡ false) × (i ≡ j)
weighed_often_good true at i j e = absurd (error_is_ok _ j e)
weighed_often_good false at i j e = (refl, cc)

weighed_name_good : (f : Option ModelFault) (h : Header) (c : Contents) (at : ℕ) (i j : Entry) → weighed_name f h c at i ≡ Ok j → (too_often h c i ≡ false) × (i ≡ j)
weighed_name_good (Some f) h c at i j e = absurd (error_is_ok _ j e)
weighed_name_good None h c at i j e = weighed_often_good (too_often h c i) at i j e

weighed_field_good : (o : Option ℕ) (h : Header) (c : Contents) (at : ℕ) (i j : Entry) → weighed_field o h c at i ≡ Ok j →
    (o ≡ None) × (too_often h c i ≡ false) × (i ≡ j)
weighed_field_good (Some o) h c at i j e = absurd (error_is_ok _ j e)
weighed_field_good None h c at i j e =
    let g = weighed_name_good (name_fault c.facts c.acts at i) h c at i j e in (refl, g.0, g.1)

weighed_fit :
    (p : Result Entry RecordFault) (h : Header) (c : Contents) (at : ℕ) (j : Entry) →
    ((i : Entry) → p ≡ Ok i → PlacedWell h.form c.group i) → weighed h c at p ≡ Ok j → Fit h c j
unfolding PlacedWell
weighed_fit (Err f) h c at j well e = absurd (error_is_ok _ j e)
weighed_fit (Ok i) h c at j well e =
    let g = weighed_field_good (bad_field h i) h c at i j e in
    let w = well i refl in
    subst (Fit h c) g.2 (record { formed = w.0; ordered = w.1; ranged = g.0; once = g.1 })

pub weigh_fit : (h : Header) (c : Contents) (at kind : ℕ) (body : List ℕ) (i : Entry) → weigh h c at kind body ≡ Ok i → Fit h c i
weigh_fit h c at kind body i e =
    weighed_fit (placed h.form c.group at kind body) h c at i
    (λ j q. placed_well h.form c.group at body (kind_of kind) j q) e

-- the turn of a whole record that was weighed and found good
pub turn_good :
    (h : Header) (c : Contents) (at place : ℕ) (bytes : List ℕ) (kind : ℕ) (body rest : List ℕ) (i : Entry) → at ≡ place →
    front bytes ≡ whole kind body rest → weigh h c at kind body ≡ Ok i → turn h c place bytes ≡ Ok (i, rest)
turn_good h c at place bytes kind body rest i here e w =
    ap (λ f. turn_at f h c place) e ∙ ap (λ r. turned r rest) (subst (λ p. weigh h c p kind body ≡ Ok i) here w)
