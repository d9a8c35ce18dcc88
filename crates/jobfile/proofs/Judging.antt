-- Reading, one record on.
use Rattle.std.proofs.Common.{◌≡◌, ℕ, zero, suc, ◌-◌, ◌<◌, ◌≤◌, Bool, true, false, eqb, leb, List, [], ◌∷◌, length, drop, None, Ok, Err, Option, Result, sym, refl, ap, ◌∙◌, subst, arith, length-drop}
use borrow.Author.Tests.{clash}
use Rattle.records.specs.Split.{Front, front, long_enough, two_bytes}
use Rattle.records.specs.Split.Front.{cut, whole}
use Rattle.items.specs.declared.item.Header.{Header}
use Rattle.items.specs.Layout.{Entry, text_in}
use Rattle.model.specs.declared.fault.ModelFault.{ModelFault}
use Rattle.model.specs.Contents.{Contents, silence, with_item}
use Rattle.model.specs.Weigh.{weigh, turn, turn_at, turned, opening, begin, begin_at, begun}
use Rattle.model.specs.Closing.{closing}
use Rattle.model.proofs.Inside.{error_is_ok}
use Rattle.golog.specs.Programs.{Prog}
use Rattle.jobfile.specs.Verdict.{Refusal, Said, listen, hear_on, ended, ended_routine, go_on, judge, after_head, verdict}
use Rattle.jobfile.specs.Verdict.Refusal.{of_model}

-- a record is longer than what stands behind it
pub cut_is_whole : (k : ℕ) (b r : List ℕ) → cut ≡ whole k b r → ⊥
cut_is_whole k b r e = let z : ◌≡◌ {A = ℕ} 0 1 = cc in omega arith

long_enough_rest : (t : Bool) (n kind : ℕ) (ys : List ℕ) (k : ℕ) (b r : List ℕ) → long_enough t n kind ys ≡ whole k b r → length r ≤ length ys
long_enough_rest true n kind ys k b r e =
    let same : drop n ys ≡ r = cc in
    omega (arith, length-drop n ys, ap length same)
long_enough_rest false n kind ys k b r e = absurd (cut_is_whole k b r e)

front_rest : (xs : List ℕ) (k : ℕ) (b r : List ℕ) → front xs ≡ whole k b r → length r < length xs
front_rest [] k b r e = absurd (cut_is_whole k b r e)
front_rest (x ∷ []) k b r e = absurd (cut_is_whole k b r e)
front_rest (x ∷ (y ∷ [])) k b r e = absurd (cut_is_whole k b r e)
front_rest (x ∷ (y ∷ (z ∷ []))) k b r e = absurd (cut_is_whole k b r e)
front_rest (x ∷ (y ∷ (z ∷ (w ∷ xs)))) k b r e =
    let l = long_enough_rest (leb (two_bytes x y) (length xs)) (two_bytes x y) (two_bytes z w) xs k b r e in
    omega (arith, l)

turned_rest : (w : Result Entry ModelFault) (rest : List ℕ) (i : Entry) (more : List ℕ) → turned w rest ≡ Ok (i, more) → rest ≡ more
turned_rest (Ok j) rest i more e = let p : ◌≡◌ {A = Entry × List ℕ} (j, rest) (i, more) = cc in ap (λ x. x.1) p
turned_rest (Err f) rest i more e = absurd (error_is_ok f _ e)

turn_at_rest : (f : Front) (xs : List ℕ) → front xs ≡ f → (h : Header) (c : Contents) (at : ℕ) (i : Entry) (more : List ℕ) → turn_at f h c at ≡ Ok (i, more) → length more < length xs
turn_at_rest cut xs s h c at i more e = absurd (error_is_ok _ _ e)
turn_at_rest (whole k b r) xs s h c at i more e =
    subst (λ l. length l < length xs) (turned_rest (weigh h c at k b) r i more e) (front_rest xs k b r s)

pub turn_rest : (h : Header) (c : Contents) (at : ℕ) (xs : List ℕ) (i : Entry) (more : List ℕ) → turn h c at xs ≡ Ok (i, more) → length more < length xs
turn_rest h c at xs i more e = turn_at_rest (front xs) xs refl h c at i more e

begun_rest : (w : Result Header ModelFault) (rest : List ℕ) (h : Header) (more : List ℕ) → begun w rest ≡ Ok (h, more) → rest ≡ more
begun_rest (Ok j) rest h more e = let p : ◌≡◌ {A = Header × List ℕ} (j, rest) (h, more) = cc in ap (λ x. x.1) p
begun_rest (Err f) rest h more e = absurd (error_is_ok f _ e)

begin_at_rest : (f : Front) (xs : List ℕ) → front xs ≡ f → (h : Header) (more : List ℕ) → begin_at f ≡ Ok (h, more) → length more < length xs
begin_at_rest cut xs s h more e = absurd (error_is_ok _ _ e)
begin_at_rest (whole k b r) xs s h more e =
    subst (λ l. length l < length xs) (begun_rest (opening 0 k b) r h more e) (front_rest xs k b r s)

pub begin_rest : (xs : List ℕ) (h : Header) (more : List ℕ) → begin xs ≡ Ok (h, more) → length more < length xs
begin_rest [] h more e = absurd (error_is_ok _ _ e)
begin_rest (b ∷ xs) h more e = begin_at_rest (front (b ∷ xs)) (b ∷ xs) refl h more e

-- a file that begins with a head is judged by what stands behind it
pub verdict_begun : (file : List ℕ) (h : Header) (rest : List ℕ) → begin file ≡ Ok (h, rest) → judge (length file) h silence None (length file) rest ≡ verdict file
verdict_begun file h rest e = sym (ap (λ r. after_head r (length file)) e)

pub verdict_unbegun : (file : List ℕ) (f : ModelFault) → begin file ≡ Err f → verdict file ≡ Err (of_model f)
verdict_unbegun file f e = ap (λ r. after_head r (length file)) e

pub not_empty : (xs : List ℕ) → false ≡ eqb (length xs) 0 → 0 < length xs
not_empty [] e = absurd (clash e)
not_empty (x ∷ xs) e = omega arith

module _ (h : Header) (c : Contents) (o : Option Prog) (end : ℕ) where
  -- what is judged behind a record
  behind : ℕ → Entry → List ℕ → Result Said Refusal
  behind n i rest = hear_on (listen (text_in i) (with_item c i) o) (λ p. judge n h (with_item c i) p end rest)

  -- the verdict behind a record is the verdict before it
  pub judge_on : (n : ℕ) (bytes : List ℕ) (i : Entry) (rest : List ℕ) (p : Option Prog) → 0 < length bytes → length bytes ≤ n →
      turn h c (end - length bytes) bytes ≡ Ok (i, rest) → listen (text_in i) (with_item c i) o ≡ Ok p →
      (m : ℕ) × (length rest ≤ m) × (judge m h (with_item c i) p end rest ≡ judge n h c o end bytes)
  unfolding behind
  judge_on n [] i rest p s l e k = let z : ⊥ = omega arith in absurd z
  judge_on zero (b ∷ bytes) i rest p s l e k = let z : ⊥ = omega arith in absurd z
  judge_on (suc n) (b ∷ bytes) i rest p s l e k = (
    n,
    omega (arith, turn_rest h c _ (b ∷ bytes) i rest e),
    sym (ap (λ r. go_on r (behind n)) e ∙ ap (λ r. hear_on r (λ q. judge n h (with_item c i) q end rest)) k),
  )

  -- a record that is refused, and a text that is
  pub judge_off : (n : ℕ) (bytes : List ℕ) (f : ModelFault) → 0 < length bytes → length bytes ≤ n →
      turn h c (end - length bytes) bytes ≡ Err f → judge n h c o end bytes ≡ Err (of_model f)
  unfolding behind
  judge_off n [] f p l e = let z : ⊥ = omega arith in absurd z
  judge_off zero (b ∷ bytes) f p l e = let z : ⊥ = omega arith in absurd z
  judge_off (suc n) (b ∷ bytes) f p l e = ap (λ r. go_on r (behind n)) e

  pub judge_unheard : (n : ℕ) (bytes : List ℕ) (i : Entry) (rest : List ℕ) (f : Refusal) → 0 < length bytes → length bytes ≤ n →
      turn h c (end - length bytes) bytes ≡ Ok (i, rest) → listen (text_in i) (with_item c i) o ≡ Err f → judge n h c o end bytes ≡ Err f
  unfolding behind
  judge_unheard n [] i rest f p l e k = let z : ⊥ = omega arith in absurd z
  judge_unheard zero (b ∷ bytes) i rest f p l e k = let z : ⊥ = omega arith in absurd z
  judge_unheard (suc n) (b ∷ bytes) i rest f p l e k =
      ap (λ r. go_on r (behind n)) e ∙ ap (λ r. hear_on r (λ q. judge n h (with_item c i) q end rest)) k

  -- at the end of the file
  pub judge_end : (n : ℕ) (bytes : List ℕ) → length bytes ≡ 0 → judge n h c o end bytes ≡ ended (closing h c end) h c end o
  judge_end zero [] e = refl
  judge_end (suc n) [] e = refl
  judge_end n (b ∷ bytes) e = let z : ⊥ = omega arith in absurd z

  -- no fault is left but those of the routine
  pub judge_complete : (n : ℕ) (bytes : List ℕ) (v : Result Said Refusal) → judge n h c o end bytes ≡ v → length bytes ≡ 0 → closing h c end ≡ None → v ≡ ended_routine h c end o
  judge_complete n bytes v j e k = sym j ∙ (judge_end n bytes e ∙ ap (λ f. ended f h c end o) k)
