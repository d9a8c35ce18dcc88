-- A file that is accepted is one that the format allows.
use Rattle.std.proofs.Common.{◌≡◌, ℕ, zero, suc, ◌-◌, ◌<◌, Bool, true, false, leb, List, [], ◌∷◌, ◌++◌, length, take, drop, is_some, Some, None, Ok, Err, Option, Result, sym, refl, ap, ◌∙◌, subst, arith, leb-true}
use borrow.Author.Tests.{clash}
use Rattle.std.proofs.lemmas.List.{take-append-drop, length-take-le}
use Rattle.records.specs.Split.{Front, front, long_enough, two_bytes}
use Rattle.records.specs.Split.Front.{cut, whole}
use Rattle.items.specs.declared.item.Header.{Header}
use Rattle.items.specs.Layout.{Entry, text_in}
use Rattle.items.specs.Layout.Entry.{head, fact, act, rule, change, state, move, mark, allowance, routine}
use Rattle.model.specs.declared.fault.ModelFault.{ModelFault}
use Rattle.model.specs.Contents.{Contents, silence, with_item, first_of}
use Rattle.model.specs.Stands.{Fit}
use Rattle.model.specs.Weigh.{weigh, turn, turn_at, turned, opening, begin, begin_at, begun}
use Rattle.model.specs.Closing.{closing}
use Rattle.model.proofs.Inside.{error_is_ok}
use Rattle.model.proofs.Fitting.{weigh_fit}
use Rattle.golog.specs.Programs.{Prog}
use Rattle.golog.specs.Points.{Ways, ways, OneWay}
use Rattle.golog.specs.Points.Ways.{one_way, two_ways}
use Rattle.golog.specs.Grammar.{TextReads}
use Rattle.golog.specs.Reading.{Reading, read}
use Rattle.golog.specs.Reading.Reading.{tree, refused}
use Rattle.golog.proofs.ReadingProof.{reading_is_grammar}
use Rattle.golog.proofs.Limits.{read_is_bounded}
use Rattle.golog.proofs.OneWays.{ways_is_one_way}
use Rattle.jobfile.specs.Verdict.{Refusal, Said, names_in, heard, listen, hear_on, ended_ways, ended_routine, ended, go_on, judge, after_head, verdict}
use Rattle.jobfile.specs.Format.{IsRecord, Records, IsJobFile}
use Rattle.jobfile.specs.Format.Records.{no_more, one_more}
use Rattle.jobfile.proofs.Judging.{cut_is_whole}

whole_record : (l0 l1 k0 k1 : ℕ) (ys : List ℕ) (t : Bool) → leb (two_bytes l0 l1) (length ys) ≡ t → (k : ℕ) (b r : List ℕ) →
    long_enough t (two_bytes l0 l1) (two_bytes k0 k1) ys ≡ whole k b r → IsRecord (l0 ∷ (l1 ∷ (k0 ∷ (k1 ∷ ys)))) k b r
whole_record l0 l1 k0 k1 ys false l k b r e = absurd (cut_is_whole k b r e)
whole_record l0 l1 k0 k1 ys true l k b r e =
    let n = two_bytes l0 l1 in
    let body : take n ys ≡ b = cc in
    let rest : drop n ys ≡ r = cc in
    let kind : two_bytes k0 k1 ≡ k = cc in
    let all : take n ys ++ drop n ys ≡ b ++ r = λ i. body i ++ rest i in
    record {
      l0 = l0;
      l1 = l1;
      k0 = k0;
      k1 = k1;
      bytes_are = ap (λ x. l0 ∷ (l1 ∷ (k0 ∷ (k1 ∷ x)))) (sym (take-append-drop n ys) ∙ all);
      length_is = sym (length-take-le n ys (leb-true n (length ys) l)) ∙ ap length body;
      kind_is = kind;
    }

front_record : (xs : List ℕ) (k : ℕ) (b r : List ℕ) → front xs ≡ whole k b r → IsRecord xs k b r
front_record [] k b r e = absurd (cut_is_whole k b r e)
front_record (x ∷ []) k b r e = absurd (cut_is_whole k b r e)
front_record (x ∷ (y ∷ [])) k b r e = absurd (cut_is_whole k b r e)
front_record (x ∷ (y ∷ (z ∷ []))) k b r e = absurd (cut_is_whole k b r e)
front_record (x ∷ (y ∷ (z ∷ (w ∷ xs)))) k b r e = whole_record x y z w xs (leb (two_bytes x y) (length xs)) refl k b r e

-- a turn without fault is a record without fault
record Turned (h : Header) (c : Contents) (at : ℕ) (bytes : List ℕ) (i : Entry) (rest : List ℕ) : Type 0 where
  kind : ℕ
  body : List ℕ
  is_record : IsRecord bytes kind body rest
  good : weigh h c at kind body ≡ Ok i

turned_good : (w : Result Entry ModelFault) (rest : List ℕ) (i : Entry) (more : List ℕ) → turned w rest ≡ Ok (i, more) → (w ≡ Ok i) × (rest ≡ more)
turned_good (Err f) rest i more e = absurd (error_is_ok f _ e)
turned_good (Ok j) rest i more e =
    let p : ◌≡◌ {A = Entry × List ℕ} (j, rest) (i, more) = cc in (ap (λ x. Ok x.0) p, ap (λ x. x.1) p)

turn_good : (f : Front) (bytes : List ℕ) → front bytes ≡ f → (h : Header) (c : Contents) (at : ℕ) (i : Entry) (rest : List ℕ) →
    turn_at f h c at ≡ Ok (i, rest) → Turned h c at bytes i rest
turn_good cut bytes s h c at i rest e = absurd (error_is_ok _ _ e)
turn_good (whole k b r) bytes s h c at i rest e =
    let g = turned_good (weigh h c at k b) r i rest e in
    record { kind = k; body = b; is_record = subst (IsRecord bytes k b) g.1 (front_record bytes k b r s); good = g.0 }

-- an item that was taken fits where it stands
pub turn_fit : (h : Header) (c : Contents) (at : ℕ) (bytes : List ℕ) (i : Entry) (rest : List ℕ) → turn h c at bytes ≡ Ok (i, rest) → Fit h c i
turn_fit h c at bytes i rest e =
    let t = turn_good (front bytes) bytes refl h c at i rest e in
    weigh_fit h c at t.kind t.body i t.good

-- nothing comes behind the routine
late : (g n : ℕ) → n ≡ 5 → leb n g ≡ true → g < 5 → ⊥
late g n e l h = omega (arith, e, leb-true n g l, h)

pub nothing_behind : (h : Header) (c : Contents) (i : Entry) (t : List ℕ) → c.group ≡ 5 → first_of c.texts ≡ Some t → Fit h c i → ⊥
nothing_behind h c (head g) t e s f = late 0 c.group e f.ordered (omega arith)
nothing_behind h c (fact n) t e s f = late 1 c.group e f.ordered (omega arith)
nothing_behind h c (act n) t e s f = late 2 c.group e f.ordered (omega arith)
nothing_behind h c (rule a n l) t e s f = late 3 c.group e f.ordered (omega arith)
nothing_behind h c (change a x n l u k) t e s f = late 3 c.group e f.ordered (omega arith)
nothing_behind h c (state v) t e s f = late 3 c.group e f.ordered (omega arith)
nothing_behind h c (move u a x v) t e s f = late 3 c.group e f.ordered (omega arith)
nothing_behind h c (mark a x) t e s f = late 4 c.group e f.ordered (omega arith)
nothing_behind h c (allowance k) t e s f = late 4 c.group e f.ordered (omega arith)
nothing_behind h c (routine u) t e s f = clash (sym f.once ∙ ap is_some s)

-- the program so far is that of the text that has come, if one has
Heard : Contents → Option Prog → Type 0
Heard c None = first_of c.texts ≡ None
Heard c (Some p) = (c.group ≡ 5) × ((t : List ℕ) × (first_of c.texts ≡ Some t) × (read (names_in c) t ≡ tree p))

heard_tree : (r : Reading) (p : Option Prog) → heard r ≡ Ok p → (t : Prog) × (r ≡ tree t) × (Some t ≡ p)
heard_tree (tree t) p e = (t, refl, cc)
heard_tree (refused f) p e = absurd (error_is_ok _ p e)

same_program : {X : Type 0} (o p : X) → ◌≡◌ {A = Result X Refusal} (Ok o) (Ok p) → o ≡ p
same_program o p e = cc

heard_first : (h : Header) (c : Contents) (i : Entry) (p : Option Prog) → first_of c.texts ≡ None → listen (text_in i) (with_item c i) None ≡ Ok p → Heard (with_item c i) p
unfolding Heard
heard_first h c (head g) p n e = subst (Heard (with_item c (head g))) (same_program None p e) n
heard_first h c (fact w) p n e = subst (Heard (with_item c (fact w))) (same_program None p e) n
heard_first h c (act w) p n e = subst (Heard (with_item c (act w))) (same_program None p e) n
heard_first h c (rule a u l) p n e = subst (Heard (with_item c (rule a u l))) (same_program None p e) n
heard_first h c (change a x u l v k) p n e = subst (Heard (with_item c (change a x u l v k))) (same_program None p e) n
heard_first h c (state v) p n e = subst (Heard (with_item c (state v))) (same_program None p e) n
heard_first h c (move u a x v) p n e = subst (Heard (with_item c (move u a x v))) (same_program None p e) n
heard_first h c (mark a x) p n e = subst (Heard (with_item c (mark a x))) (same_program None p e) n
heard_first h c (allowance k) p n e = subst (Heard (with_item c (allowance k))) (same_program None p e) n
heard_first h c (routine t) p n e =
    let g = heard_tree (read (names_in (with_item c (routine t))) t) p e in
    subst (Heard (with_item c (routine t))) g.2 (refl, (t, refl, g.1))

heard_more : (h : Header) (c : Contents) (i : Entry) (o p : Option Prog) → Fit h c i → Heard c o → listen (text_in i) (with_item c i) o ≡ Ok p → Heard (with_item c i) p
unfolding Heard
heard_more h c i None p f n e = heard_first h c i p n e
heard_more h c i (Some t) p f n e = absurd (nothing_behind h c i n.1.0 n.0 n.1.1 f)

-- the end without fault
record EndsWell (h : Header) (c : Contents) (end : ℕ) (o : Option Prog) (said : Said) : Type 0 where
  head : h ≡ said.head
  contents : c ≡ said.contents
  program : o ≡ Some said.program
  complete : closing h c end ≡ None
  no_two : ways (length c.facts) said.program ≡ one_way

ways_good : (w : Ways) (h : Header) (c : Contents) (t : Prog) (said : Said) → ended_ways w h c t ≡ Ok said → (w ≡ one_way) × (h ≡ said.head) × (c ≡ said.contents) × (t ≡ said.program)
ways_good one_way h c t said e =
    let p : ◌≡◌ {A = Said} (record { head = h; contents = c; program = t }) said = cc in
    (refl, ap (λ x. x.head) p, ap (λ x. x.contents) p, ap (λ x. x.program) p)
ways_good (two_ways p q r) h c t said e = absurd (error_is_ok _ _ e)

routine_good : (o : Option Prog) (h : Header) (c : Contents) (end : ℕ) (said : Said) → closing h c end ≡ None → ended_routine h c end o ≡ Ok said → EndsWell h c end o said
routine_good None h c end said k e = absurd (error_is_ok _ _ e)
routine_good (Some t) h c end said k e =
    let w = ways_good (ways (length c.facts) t) h c t said e in
    record {
      head = w.1;
      contents = w.2;
      program = ap (λ x. Some x) w.3;
      complete = k;
      no_two = subst (λ x. ways (length c.facts) x ≡ one_way) w.3 w.0;
    }

ended_good : (f : Option ModelFault) (h : Header) (c : Contents) (end : ℕ) (o : Option Prog) (said : Said) → closing h c end ≡ f → ended f h c end o ≡ Ok said → EndsWell h c end o said
ended_good (Some f) h c end o said s e = absurd (error_is_ok _ _ e)
ended_good None h c end o said s e = routine_good o h c end said s e

-- what the verdict on the rest of a file says
record Goes (h : Header) (c : Contents) (o : Option Prog) (end : ℕ) (bytes : List ℕ) (said : Said) : Type 0 where
  last : Contents
  records : Records h end bytes c o last (Some said.program)
  ends : EndsWell h last end (Some said.program) said
  heard_last : Heard c o → Heard last (Some said.program)

goes_end : (h : Header) (c : Contents) (o : Option Prog) (end : ℕ) (said : Said) → ended (closing h c end) h c end o ≡ Ok said → Goes h c o end [] said
goes_end h c o end said e =
    let k = ended_good (closing h c end) h c end o said refl e in
    record {
      last = c;
      records = subst (Records h end [] c o c) k.program no_more;
      ends = subst (λ x. EndsWell h c end x said) k.program k;
      heard_last = λ x. subst (Heard c) k.program x;
    }

go_on_step : (r : Result (Entry × List ℕ) ModelFault) (next : Entry → List ℕ → Result Said Refusal) (said : Said) →
    go_on r next ≡ Ok said → (x : Entry × List ℕ) × (r ≡ Ok x) × (next x.0 x.1 ≡ Ok said)
go_on_step (Err f) next said e = absurd (error_is_ok _ _ e)
go_on_step (Ok (i, rest)) next said e = ((i, rest), refl, e)

hear_on_step : (r : Result (Option Prog) Refusal) (next : Option Prog → Result Said Refusal) (said : Said) →
    hear_on r next ≡ Ok said → (p : Option Prog) × (r ≡ Ok p) × (next p ≡ Ok said)
hear_on_step (Err f) next said e = absurd (error_is_ok _ _ e)
hear_on_step (Ok p) next said e = (p, refl, e)

goes_on : (h : Header) (c : Contents) (o : Option Prog) (end : ℕ) (bytes : List ℕ) (i : Entry) (rest : List ℕ) (p : Option Prog) (said : Said) →
    Turned h c (end - length bytes) bytes i rest → listen (text_in i) (with_item c i) o ≡ Ok p → Goes h (with_item c i) p end rest said → Goes h c o end bytes said
goes_on h c o end bytes i rest p said t l k =
    record {
      last = k.last;
      records = one_more t.is_record t.good l k.records;
      ends = k.ends;
      heard_last = λ x. k.heard_last (heard_more h c i o p (weigh_fit h c (end - length bytes) t.kind t.body i t.good) x l);
    }

judge_goes : (n : ℕ) (h : Header) (c : Contents) (o : Option Prog) (end : ℕ) (bytes : List ℕ) (said : Said) → judge n h c o end bytes ≡ Ok said → Goes h c o end bytes said
judge_goes zero h c o end [] said e = goes_end h c o end said e
judge_goes (suc n) h c o end [] said e = goes_end h c o end said e
judge_goes zero h c o end (b ∷ bytes) said e = absurd (error_is_ok _ _ e)
judge_goes (suc n) h c o end (b ∷ bytes) said e =
    let s = go_on_step (turn h c (end - length (b ∷ bytes)) (b ∷ bytes))
    (λ i rest. hear_on (listen (text_in i) (with_item c i) o) (λ p. judge n h (with_item c i) p end rest)) said e in
    let i = s.0.0 in
    let rest = s.0.1 in
    let k = hear_on_step (listen (text_in i) (with_item c i) o) (λ p. judge n h (with_item c i) p end rest) said s.2 in
    goes_on h c o end (b ∷ bytes) i rest k.0 said (turn_good (front (b ∷ bytes)) (b ∷ bytes) refl h c _ i rest s.1) k.1
    (judge_goes n h (with_item c i) k.0 end rest said k.2)

-- the head of an accepted file
begun_good : (w : Result Header ModelFault) (rest : List ℕ) (h : Header) (more : List ℕ) → begun w rest ≡ Ok (h, more) → (w ≡ Ok h) × (rest ≡ more)
begun_good (Err f) rest h more e = absurd (error_is_ok f _ e)
begun_good (Ok j) rest h more e =
    let p : ◌≡◌ {A = Header × List ℕ} (j, rest) (h, more) = cc in (ap (λ x. Ok x.0) p, ap (λ x. x.1) p)

-- what the text of an accepted file is
module _ (c : Contents) (t : List ℕ) (p : Prog) (r : read (names_in c) t ≡ tree p) where
  grammar : TextReads (names_in c) t p
  grammar = (reading_is_grammar (names_in c) t p).0 r

  decided : ways (length c.facts) p ≡ one_way → OneWay p
  decided e = (ways_is_one_way (length c.facts) p (read_is_bounded (names_in c) t p r).0).0 e

opened_file : (f : Front) (file : List ℕ) → front file ≡ f → (h : Header) (rest : List ℕ) → begin_at f ≡ Ok (h, rest) →
    (said : Said) → judge (length file) h silence None (length file) rest ≡ Ok said → IsJobFile file said
unfolding Heard
opened_file cut file s h rest e said j = absurd (error_is_ok _ _ e)
opened_file (whole k b r) file s h rest e said j =
    let o = begun_good (opening 0 k b) r h rest e in
    let w = judge_goes (length file) h silence None (length file) rest said j in
    let t = w.heard_last refl in
    let same = w.ends.contents in
    let text_is = ap (λ x. first_of x.texts) (sym same) ∙ t.1.1 in
    let read_is : read (names_in said.contents) t.1.0 ≡ tree said.program = subst (λ x. read (names_in x) t.1.0 ≡ tree said.program) same t.1.2 in
    let no_two : ways (length said.contents.facts) said.program ≡ one_way = subst (λ x. ways (length x.facts) said.program ≡ one_way) same w.ends.no_two in
    record {
      kind = k;
      body = b;
      rest = r;
      starts = front_record file k b r s;
      head = o.0 ∙ ap (λ x. Ok x) w.ends.head;
      records = subst (λ x. Records x (length file) r silence None said.contents (Some said.program)) w.ends.head
          (subst (λ x. Records h (length file) r silence None x (Some said.program)) same
          (subst (λ x. Records h (length file) x silence None w.last (Some said.program)) (sym o.1) w.records));
      complete = subst (λ x. closing x said.contents (length file) ≡ None) w.ends.head (subst (λ x. closing h x (length file) ≡ None) same w.ends.complete);
      text = t.1.0;
      text_is = text_is;
      reads = grammar said.contents t.1.0 said.program read_is;
      one_way = decided said.contents t.1.0 said.program read_is no_two;
    }

begun_file : (file : List ℕ) (r : Result (Header × List ℕ) ModelFault) → begin file ≡ r → (said : Said) → after_head r (length file) ≡ Ok said → IsJobFile file said
begun_file file (Err f) s said e = absurd (error_is_ok _ _ e)
begun_file [] (Ok (h, rest)) s said e = absurd (error_is_ok _ _ s)
begun_file (b ∷ bytes) (Ok (h, rest)) s said e = opened_file (front (b ∷ bytes)) (b ∷ bytes) refl h rest s said e

pub accepted_is_job_file : (file : List ℕ) (said : Said) → verdict file ≡ Ok said → IsJobFile file said
accepted_is_job_file file said e = begun_file file (begin file) refl said e
