-- A field out of range stands inside the body of its record.
use Rattle.std.proofs.Common.{◌≡◌, ℕ, ◌<◌, Bool, true, false, cond, ◌&&◌, ltb, leb, List, [], ◌∷◌, length, Some, None, Ok, Err, Option, refl, ap, ◌∙◌, arith, ltb-true, eqb-true}
use Rattle.std.proofs.lemmas.Bool.{and_parts}
use Rattle.items.specs.declared.kind.Kind.{Kind}
use Rattle.items.specs.declared.kind.Kind.TheVariants.{Head, Fact, Act, Rule, Change, State, Move, Mark, Allowance, Routine}
use Rattle.items.specs.declared.item.Header.{Header}
use Rattle.items.specs.Kinds.{kind_of, group_of, of_form, fits_length}
use Rattle.items.specs.Layout.{Entry, entry}
use Rattle.items.specs.Placed.{placed, placed_as}
use Rattle.items.specs.Ranges.{first_bad, field_tests, bad_field}

-- whether every field that is tested stands before an offset
offsets_below : ℕ → List (ℕ × Bool) → Bool
offsets_below n [] = true
offsets_below n ((o, good) ∷ more) = ltb o n && offsets_below n more

pub nothing_is_some : {X : Type 0} (x : X) → None ≡ Some x → ⊥
nothing_is_some x e = let z : ◌≡◌ {A = ℕ} 0 1 = cc in omega arith

pub error_is_ok : {X Y : Type 0} (y : Y) (x : X) → Err y ≡ Ok x → ⊥
error_is_ok y x e = let z : ◌≡◌ {A = ℕ} 0 1 = cc in omega arith

first_bad_below : (n : ℕ) (ts : List (ℕ × Bool)) → offsets_below n ts ≡ true → (o : ℕ) → first_bad ts ≡ Some o → o < n
unfolding offsets_below
first_bad_below n [] h o e = absurd (nothing_is_some o e)
first_bad_below n ((a, true) ∷ ts) h o e = first_bad_below n ts (and_parts (ltb a n) (offsets_below n ts) h).1 o e
first_bad_below n ((a, false) ∷ ts) h o e =
    let same : a ≡ o = cc in
    omega (arith, ltb-true a n (and_parts (ltb a n) (offsets_below n ts) h).0, same)

-- the fields of a record of the right length
field_inside : (h : Header) (k : Kind) (body : List ℕ) (o : ℕ) → fits_length k (length body) ≡ true → bad_field h (entry k body) ≡ Some o → o < length body
unfolding offsets_below
field_inside h Head body o l e =
    omega (arith, eqb-true (length body) 7 l, first_bad_below 7 (field_tests h (entry Head body)) refl o e)
field_inside h Fact body o l e = absurd (nothing_is_some o e)
field_inside h Act body o l e = absurd (nothing_is_some o e)
field_inside h Rule body o l e =
    omega (arith, eqb-true (length body) 5 l, first_bad_below 5 (field_tests h (entry Rule body)) refl o e)
field_inside h Change body o l e =
    omega (arith, eqb-true (length body) 10 l, first_bad_below 10 (field_tests h (entry Change body)) refl o e)
field_inside h State body o l e =
    omega (arith, eqb-true (length body) 2 l, first_bad_below 2 (field_tests h (entry State body)) refl o e)
field_inside h Move body o l e =
    omega (arith, eqb-true (length body) 6 l, first_bad_below 6 (field_tests h (entry Move body)) refl o e)
field_inside h Mark body o l e =
    omega (arith, eqb-true (length body) 2 l, first_bad_below 2 (field_tests h (entry Mark body)) refl o e)
field_inside h Allowance body o l e =
    omega (arith, eqb-true (length body) 1 l, first_bad_below 1 (field_tests h (entry Allowance body)) refl o e)
field_inside h Routine body o l e = absurd (nothing_is_some o e)

-- an Ok behind three tests: all passed, and the value is the one given
pub passed : {X Y : Type 0} (p q r : Bool) (x i : X) (e₁ e₂ e₃ : Y) → cond p (cond q (cond r (Ok x) (Err e₁)) (Err e₂)) (Err e₃) ≡ Ok i →
    (r ≡ true) × (x ≡ i) × (p ≡ true) × (q ≡ true)
passed true true true x i e₁ e₂ e₃ h = (refl, cc, refl, refl)
passed true true false x i e₁ e₂ e₃ h = absurd (error_is_ok e₁ i h)
passed true false r x i e₁ e₂ e₃ h = absurd (error_is_ok e₂ i h)
passed false q r x i e₁ e₂ e₃ h = absurd (error_is_ok e₃ i h)

placed_field_inside : (form group at : ℕ) (body : List ℕ) (k : Option Kind) (i : Entry) → placed_as form group at body k ≡ Ok i →
    (h : Header) (o : ℕ) → bad_field h i ≡ Some o → o < length body
placed_field_inside form group at body None i e h o b = absurd (error_is_ok _ i e)
placed_field_inside form group at body (Some k) i e h o b =
    let p = passed (of_form k form) (leb group (group_of k)) (fits_length k (length body)) (entry k body) i _ _ _ e in
    field_inside h k body o p.0 (ap (bad_field h) p.1 ∙ b)

pub bad_field_inside : (form group at kind : ℕ) (body : List ℕ) (i : Entry) → placed form group at kind body ≡ Ok i →
    (h : Header) (o : ℕ) → bad_field h i ≡ Some o → o < length body
bad_field_inside form group at kind body i e h o b = placed_field_inside form group at body (kind_of kind) i e h o b
