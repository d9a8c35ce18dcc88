-- Reading conditions.
use Rattle.std.proofs.Common.{◌≡◌, ℕ, suc, ◌+◌, ◌<◌, ◌≤◌, true, List, [], ◌∷◌, length, sym, refl, ap, ◌∙◌, subst, arith}
use mathlib.Core.Option.{Option, none, some}
use Rattle.golog.specs.Programs.{Cond}
use Rattle.golog.specs.Programs.Cond.{always, never, fact, negated, both, any}
use Rattle.golog.specs.Words as golog
use Rattle.golog.specs.Words.Word.{name, open_round, close_round, begins, behind, cond_begins, cond_behind, strange}
use Rattle.golog.specs.Words.CondBehind.{and_word, or_word, close_square, then_word, do_word}
use Rattle.golog.specs.Grammar.{Names, number_of}
use Rattle.golog.specs.Grammar.CondSort.{disjunction, conjunction, literal}
use Rattle.golog.specs.Reading.{Sofar, CondSofar, Frame, Base, Nest, nothing_cond, operand, fact_word, advance, depth, most_depth}
use Rattle.golog.specs.Reading.Nest.{bracket, negation}
use Rattle.golog.specs.Reading.Base.{of_test, of_if, of_while}
use Rattle.golog.specs.Reading.State.{want_cond, have_cond}
use Rattle.golog.specs.Reading.Advance.{goes, misfit, unfamiliar}
use Rattle.tree.specs.declared.node.Clause.{Clause}
use Rattle.tree.specs.Trees.{cond_node}
use Rattle.tree.specs.Held.{clauses, cond_at}
use Rattle.text.specs.declared.word.Word.TheVariants.{Open, Not, True, False}
use Rattle.text.specs.declared.word.Mark.{Mark}
use Rattle.text.specs.declared.word.Mark.TheVariants as mark
use Rattle.text.specs.declared.fault.TextFault.{TextFault}
use Rattle.text.specs.declared.reader.Level.{Level}
use Rattle.text.specs.declared.reader.Reader.{Reader}
use Rattle.text.specs.Said.{said, mark_word}
use Rattle.text.specs.Rest.{rest, names_of, goes_on, Deeper, mark_of, next_mark}
use Rattle.text.specs.Steps.{Taken, OverDone, OverDeep, Unfit, Unclosed}
use Rattle.text.specs.Built.{Grows, BuiltCond}
use Rattle.text.specs.Conds.{no_negation, CondStops, CondRead, CondJoined, CondRefused, cond_closer, CondClosed, CondUnclosed, CondTaken}
use Rattle.text.proofs.Stepping.{alike, refusal, deeper_on}
use Rattle.text.proofs.Growing.{grows_same, grows_trans, cond_stays, unmoved_going}

operand_open : (K : List Frame) (A : Sofar) (B : Base) (L : List Nest) (O : CondSofar) (c : Cond) → no_negation L ≡ true → operand K A B L O c ≡ have_cond K A B L O c
operand_open K A B [] O c h = refl
operand_open K A B (bracket P ∷ L) O c h = refl
operand_open K A B (negation P ∷ L) O c h = cc

operand_depth : (K : List Frame) (A : Sofar) (B : Base) (L : List Nest) (O : CondSofar) (c : Cond) → depth (operand K A B L O c) ≤ suc (length K + length L)
operand_depth K A B [] O c = omega arith
operand_depth K A B (bracket P ∷ L) O c = omega arith
operand_depth K A B (negation P ∷ L) O c = let h = operand_depth K A B L P (negated c) in omega (arith, h)

-- a word that is a condition
pub constant_taken : (s m t : Reader) (w : golog.Word) (x : Clause) (i : ℕ) → Taken s m w → BuiltCond m t (cond_node (cond_at m.tree) x) i →
    CondTaken s t w (cond_node (cond_at s.tree) x) i
constant_taken s m t w x i p b = record {
  fewer = subst (λ ts. length ts < length (rest s)) (sym b.unmoved.rests) p.fewer;
  grows = grows_trans s.tree m.tree t.tree (grows_same s.tree m.tree p.tree) b.grows;
  there = b.there;
  is = b.is ∙ ap (λ u. cond_node (cond_at u) x) p.tree;
  on = λ N len S U e d. p.on N len S U e d ∙ unmoved_going m t b.unmoved N len U;
}

abbrev Is : Names → golog.Word → Cond → Type 0
Is N w c = (K : List Frame) (A : Sofar) (B : Base) (L : List Nest) (O : CondSofar) → advance N (want_cond K A B L O) w ≡ goes (operand K A B L O c)

pub constant_read : (V : Level) (s t : Reader) (w : golog.Word) (c : Cond) (i : ℕ) → Is (names_of V) w c → CondTaken s t w c i → CondRead literal V s t i
constant_read V s t w c i is p = record {
  fewer = p.fewer;
  stops = tt;
  grows = p.grows;
  there = p.there;
  on = λ K A B L O o e.
      let deep : depth (operand K A B L O c) ≤ most_depth = let l = operand_depth K A B L O c in omega (arith, l) in
      p.on (names_of V) V.end (want_cond K A B L O) (operand K A B L O c) (is K A B L O) deep ∙ ap (λ x. goes_on V t (operand K A B L O x)) (sym p.is);
}

pub constant_refused : (V : Level) (s : Reader) (w : golog.Word) (c : Cond) (f : TextFault) → Is (names_of V) w c → OverDone s w f → CondRefused literal V s f
constant_refused V s w c f is h K A B L O o e = h (names_of V) V.end (want_cond K A B L O) (operand K A B L O c) (is K A B L O)

-- the loops: the part at hand, and what was joined to it
module _ (V : Level) where
  level : (K : List Frame) (A : Sofar) (B : Base) (L : List Nest) (O : CondSofar) → suc (length K + length L) ≡ V.depth → depth (want_cond K A B L O) ≤ most_depth
  level K A B L O e = omega arith

  both_alike : (s : Reader) (K : List Frame) (A : Sofar) (B : Base) (L : List Nest) (D : Option Cond) (x y : Cond) →
      goes_on V s (have_cond K A B L (D, some x) y) ≡ goes_on V s (have_cond K A B L (D, none) (both x y))
  both_alike s K A B L D x y = alike s (names_of V) V.end _ _ refl (λ w m. by w)
    where
      by : (w : golog.Word) → advance (names_of V) (have_cond K A B L (D, some x) y) w ≡ advance (names_of V) (have_cond K A B L (D, none) (both x y)) w
      by (name w) = refl
      by open_round = refl
      by close_round = refl
      by (begins b) = refl
      by (behind b) = refl
      by (cond_begins b) = refl
      by (cond_behind and_word) = refl
      by (cond_behind or_word) = refl
      by (cond_behind close_square) = refl
      by (cond_behind then_word) = refl
      by (cond_behind do_word) = refl
      by strange = refl

  any_alike : (s : Reader) (K : List Frame) (A : Sofar) (B : Base) (L : List Nest) (x y : Cond) → CondStops conjunction (rest s) →
      goes_on V s (have_cond K A B L (some x, none) y) ≡ goes_on V s (have_cond K A B L nothing_cond (any x y))
  any_alike s K A B L x y n = alike s (names_of V) V.end _ _ refl (λ w m. by w (λ e. n (sym m ∙ e)))
    where
      by : (w : golog.Word) → (mark_of w ≡ some mark.And → ⊥) → advance (names_of V) (have_cond K A B L (some x, none) y) w ≡ advance (names_of V) (have_cond K A B L nothing_cond (any x y)) w
      by (name w) n = refl
      by open_round n = refl
      by close_round n = refl
      by (begins b) n = refl
      by (behind b) n = refl
      by (cond_begins b) n = refl
      by (cond_behind and_word) n = absurd (n refl)
      by (cond_behind or_word) n = refl
      by (cond_behind close_square) n = refl
      by (cond_behind then_word) n = refl
      by (cond_behind do_word) n = refl
      by strange n = refl

  -- up to the mark, past it, and past the part behind it
  module _ (s a : Reader) (i j : ℕ) (r : CondRead literal V s a i) (t : Reader) (q : CondJoined conjunction literal V a i t j) where
    so_far : (K : List Frame) (A : Sofar) (B : Base) (L : List Nest) (O : CondSofar) → no_negation L ≡ true → suc (length K + length L) ≡ V.depth →
        goes_on V s (want_cond K A B L (O.0, none)) ≡ goes_on V t (have_cond K A B L (O.0, none) (cond_at t.tree j))
    so_far K A B L O o e =
        r.on K A B L (O.0, none) tt e ∙ (ap (goes_on V a) (operand_open K A B L (O.0, none) (cond_at a.tree i) o) ∙ q.on K A B L O o e)

    pub conjunction_over : (f : TextFault) → OverDone t (mark_word mark.And) f → CondRefused conjunction V s f
    conjunction_over f x K A B L O o e = refusal f _ _ (so_far K A B L O o e) (x (names_of V) V.end _ (want_cond K A B L (O.0, some (cond_at t.tree j))) refl)

    pub conjunction_refused : (b : Reader) → Taken t b (mark_word mark.And) → (f : TextFault) → CondRefused literal V b f → CondRefused conjunction V s f
    conjunction_refused b p f x K A B L O o e =
        let U = want_cond K A B L (O.0, some (cond_at t.tree j)) in
        refusal f _ _ (so_far K A B L O o e ∙ p.on (names_of V) V.end _ U refl (level K A B L (O.0, some (cond_at t.tree j)) e)) (x K A B L (O.0, some (cond_at t.tree j)) tt e)

  module _ (s : Reader) (i : ℕ) (a : Reader) (j : ℕ) (q : CondJoined conjunction literal V s i a j) (b c t : Reader) (k m : ℕ)
      (p : Taken a b (mark_word mark.And)) (r : CondRead literal V b c k) (n : BuiltCond c t (both (cond_at c.tree j) (cond_at c.tree k)) m) where
    pub and_fewer : length (rest t) < length (rest a)
    and_fewer = subst (λ ts. length ts < length (rest a)) (sym n.unmoved.rests) (omega (arith, p.fewer, r.fewer))

    a_to_c : Grows a.tree c.tree
    a_to_c = grows_trans a.tree b.tree c.tree (grows_same a.tree b.tree p.tree) r.grows

    pub and_joined : CondJoined conjunction literal V s i t m
    and_joined = record {
      fewer = omega (arith, and_fewer, q.fewer);
      stops = tt;
      grows = grows_trans s.tree a.tree t.tree q.grows (grows_trans a.tree c.tree t.tree a_to_c n.grows);
      there = n.there;
      on = λ K A B L O o e.
          let x = cond_at a.tree j in
          let y = cond_at c.tree k in
          q.on K A B L O o e
          ∙ (p.on (names_of V) V.end (have_cond K A B L (O.0, none) x) (want_cond K A B L (O.0, some x)) refl (level K A B L (O.0, some x) e)
          ∙ (r.on K A B L (O.0, some x) tt e
          ∙ (ap (goes_on V c) (operand_open K A B L (O.0, some x) y o)
          ∙ (both_alike c K A B L O.0 x y
          ∙ (unmoved_going c t n.unmoved (names_of V) V.end _
          ∙ ap (λ z. goes_on V t (have_cond K A B L (O.0, none) z)) (sym (n.is ∙ ap (λ z. both z y) (cond_stays a.tree c.tree a_to_c j q.there))))))));
    }

  module _ (s a : Reader) (i j : ℕ) (r : CondRead conjunction V s a i) (t : Reader) (q : CondJoined disjunction conjunction V a i t j) where
    or_so_far : (K : List Frame) (A : Sofar) (B : Base) (L : List Nest) (O : CondSofar) → no_negation L ≡ true → suc (length K + length L) ≡ V.depth →
        goes_on V s (want_cond K A B L nothing_cond) ≡ goes_on V t (have_cond K A B L nothing_cond (cond_at t.tree j))
    or_so_far K A B L O o e = r.on K A B L nothing_cond o e ∙ q.on K A B L O o e

    pub disjunction_read : (next_mark (rest t) ≡ some mark.Or → ⊥) → CondRead disjunction V s t j
    disjunction_read n = record {
      fewer = omega (arith, r.fewer, q.fewer);
      stops = (q.stops, n);
      grows = grows_trans s.tree a.tree t.tree r.grows q.grows;
      there = q.there;
      on = or_so_far;
    }

    pub disjunction_over : (f : TextFault) → OverDone t (mark_word mark.Or) f → CondRefused disjunction V s f
    disjunction_over f x K A B L O o e = refusal f _ _ (or_so_far K A B L O o e) (x (names_of V) V.end _ (want_cond K A B L (some (cond_at t.tree j), none)) refl)

    pub disjunction_refused : (b : Reader) → Taken t b (mark_word mark.Or) → (f : TextFault) → CondRefused conjunction V b f → CondRefused disjunction V s f
    disjunction_refused b p f x K A B L O o e =
        let D : CondSofar = (some (cond_at t.tree j), none) in
        refusal f _ _ (or_so_far K A B L O o e ∙ p.on (names_of V) V.end _ (want_cond K A B L D) refl (level K A B L D e)) (x K A B L D o e)

  module _ (s : Reader) (i : ℕ) (a : Reader) (j : ℕ) (q : CondJoined disjunction conjunction V s i a j) (b c t : Reader) (k m : ℕ)
      (p : Taken a b (mark_word mark.Or)) (r : CondRead conjunction V b c k) (n : BuiltCond c t (any (cond_at c.tree j) (cond_at c.tree k)) m) where
    pub or_fewer : length (rest t) < length (rest a)
    or_fewer = subst (λ ts. length ts < length (rest a)) (sym n.unmoved.rests) (omega (arith, p.fewer, r.fewer))

    or_a_to_c : Grows a.tree c.tree
    or_a_to_c = grows_trans a.tree b.tree c.tree (grows_same a.tree b.tree p.tree) r.grows

    pub or_joined : CondJoined disjunction conjunction V s i t m
    or_joined = record {
      fewer = omega (arith, or_fewer, q.fewer);
      stops = λ e. r.stops (sym (ap next_mark n.unmoved.rests) ∙ e);
      grows = grows_trans s.tree a.tree t.tree q.grows (grows_trans a.tree c.tree t.tree or_a_to_c n.grows);
      there = n.there;
      on = λ K A B L O o e.
          let x = cond_at a.tree j in
          let y = cond_at c.tree k in
          let D : CondSofar = (some x, none) in
          q.on K A B L O o e
          ∙ (p.on (names_of V) V.end (have_cond K A B L nothing_cond x) (want_cond K A B L D) refl (level K A B L D e)
          ∙ (r.on K A B L D o e
          ∙ (any_alike c K A B L x y r.stops
          ∙ (unmoved_going c t n.unmoved (names_of V) V.end _
          ∙ ap (λ z. goes_on V t (have_cond K A B L nothing_cond z)) (sym (n.is ∙ ap (λ z. any z y) (cond_stays a.tree c.tree or_a_to_c j q.there)))))));
    }

module _ (N : Names) (len : ℕ) (K : List Frame) (A : Sofar) (c : Cond) where
  close_unfit : (B : Base) (L : List Nest) → (some mark.Close ≡ cond_closer B L → ⊥) → advance N (have_cond K A B L nothing_cond c) close_round ≡ misfit
  close_unfit B [] n = refl
  close_unfit B (bracket P ∷ L) n = absurd (n refl)
  close_unfit B (negation P ∷ L) n = refl

  square_unfit : (B : Base) (L : List Nest) → (some mark.CloseSquare ≡ cond_closer B L → ⊥) → advance N (have_cond K A B L nothing_cond c) (cond_behind close_square) ≡ misfit
  square_unfit of_test [] n = absurd (n refl)
  square_unfit of_test (x ∷ L) n = refl
  square_unfit of_if L n = refl
  square_unfit of_while L n = refl

  then_unfit : (B : Base) (L : List Nest) → (some mark.Then ≡ cond_closer B L → ⊥) → advance N (have_cond K A B L nothing_cond c) (cond_behind then_word) ≡ misfit
  then_unfit of_test L n = refl
  then_unfit of_if [] n = absurd (n refl)
  then_unfit of_if (x ∷ L) n = refl
  then_unfit of_while L n = refl

  do_unfit : (B : Base) (L : List Nest) → (some mark.Do ≡ cond_closer B L → ⊥) → advance N (have_cond K A B L nothing_cond c) (cond_behind do_word) ≡ misfit
  do_unfit of_test L n = refl
  do_unfit of_if L n = refl
  do_unfit of_while [] n = absurd (n refl)
  do_unfit of_while (x ∷ L) n = refl

  word_unfit : (B : Base) (L : List Nest) (w : golog.Word) → (mark_of w ≡ some mark.And → ⊥) → (mark_of w ≡ some mark.Or → ⊥) → (mark_of w ≡ cond_closer B L → ⊥) →
      advance N (have_cond K A B L nothing_cond c) w ≡ misfit
  word_unfit B L (name w) a o n = refl
  word_unfit B L open_round a o n = refl
  word_unfit B L close_round a o n = close_unfit B L n
  word_unfit B L (begins b) a o n = refl
  word_unfit B L (behind b) a o n = refl
  word_unfit B L (cond_begins b) a o n = refl
  word_unfit B L (cond_behind and_word) a o n = absurd (a refl)
  word_unfit B L (cond_behind or_word) a o n = absurd (o refl)
  word_unfit B L (cond_behind close_square) a o n = square_unfit B L n
  word_unfit B L (cond_behind then_word) a o n = then_unfit B L n
  word_unfit B L (cond_behind do_word) a o n = do_unfit B L n
  word_unfit B L strange a o n = refl

  -- what is next has no place behind a condition that it neither joins nor closes
  pub cond_unfit : (B : Base) (L : List Nest) (ts : List golog.Token) → CondStops disjunction ts → (next_mark ts ≡ cond_closer B L → ⊥) → Unfit N len (have_cond K A B L nothing_cond c) ts
  cond_unfit B L [] s n = refl
  cond_unfit B L (t ∷ ts) s n = word_unfit B L t.word s.0 s.1 n

-- facts and constants
pub fact_is : (N : Names) (w : List ℕ) (i : ℕ) → number_of N.facts w ≡ some i → Is N (name w) (fact i)
fact_is N w i e K A B L O = ap (fact_word K A B L O) e

pub fact_unknown : (N : Names) (w : List ℕ) → number_of N.facts w ≡ none → (K : List Frame) (A : Sofar) (B : Base) (L : List Nest) (O : CondSofar) →
    advance N (want_cond K A B L O) (name w) ≡ unfamiliar
fact_unknown N w e K A B L O = ap (fact_word K A B L O) e

pub true_is : (N : Names) → Is N (said True) always
true_is N K A B L O = refl

pub false_is : (N : Names) → Is N (said False) never
false_is N K A B L O = refl

-- a condition behind not, in brackets, and before the mark that closes it
module _ (V : Level) (s : Reader) where
  pub negation_over : (f : TextFault) → OverDeep s (said Not) V.depth f → CondRefused literal V s f
  negation_over f x K A B L O o e = x (names_of V) V.end (want_cond K A B L O) (want_cond K A B (negation O ∷ L) nothing_cond) refl (omega arith)

  pub bracket_over : (f : TextFault) → OverDeep s (said Open) V.depth f → CondRefused literal V s f
  bracket_over f x K A B L O o e = x (names_of V) V.end (want_cond K A B L O) (want_cond K A B (bracket O ∷ L) nothing_cond) refl (omega arith)

  module _ (a : Reader) (W : Level) (g : Deeper V W) where
    module _ (p : Taken s a (said Not)) where
      not_on : (K : List Frame) (A : Sofar) (B : Base) (L : List Nest) (O : CondSofar) → suc (length K + length L) ≡ V.depth →
          goes_on V s (want_cond K A B L O) ≡ goes_on W a (want_cond K A B (negation O ∷ L) nothing_cond)
      not_on K A B L O x =
          p.on (names_of V) V.end (want_cond K A B L O) (want_cond K A B (negation O ∷ L) nothing_cond) refl (omega arith) ∙ deeper_on V W g a _

      pub negation_refused : (f : TextFault) → CondRefused literal W a f → CondRefused literal V s f
      negation_refused f x K A B L O o y = refusal f _ _ (not_on K A B L O y) (x K A B (negation O ∷ L) nothing_cond tt (omega arith))

      pub negation_read : (b t : Reader) (i j : ℕ) → CondRead literal W a b i → BuiltCond b t (negated (cond_at b.tree i)) j → CondRead literal V s t j
      negation_read b t i j r n = record {
        fewer = subst (λ ts. length ts < length (rest s)) (sym n.unmoved.rests) (omega (arith, p.fewer, r.fewer));
        stops = tt;
        grows = grows_trans s.tree a.tree t.tree (grows_same s.tree a.tree p.tree) (grows_trans a.tree b.tree t.tree r.grows n.grows);
        there = n.there;
        on = λ K A B L O o y.
            not_on K A B L O y
            ∙ (r.on K A B (negation O ∷ L) nothing_cond tt (omega arith)
            ∙ (sym (deeper_on V W g b _)
            ∙ (unmoved_going b t n.unmoved (names_of V) V.end _ ∙ ap (λ z. goes_on V t (operand K A B L O z)) (sym n.is))));
      }

    module _ (p : Taken s a (said Open)) where
      open_on : (K : List Frame) (A : Sofar) (B : Base) (L : List Nest) (O : CondSofar) → suc (length K + length L) ≡ V.depth →
          goes_on V s (want_cond K A B L O) ≡ goes_on W a (want_cond K A B (bracket O ∷ L) nothing_cond)
      open_on K A B L O x =
          p.on (names_of V) V.end (want_cond K A B L O) (want_cond K A B (bracket O ∷ L) nothing_cond) refl (omega arith) ∙ deeper_on V W g a _

      pub bracket_refused : (f : TextFault) → CondUnclosed W a mark.Close f → CondRefused literal V s f
      bracket_refused f x K A B L O o y =
          refusal f _ _ (open_on K A B L O y) (x K A B (bracket O ∷ L) refl (omega arith) refl (λ c. (operand K A B L O c, refl)))

      pub bracket_read : (t : Reader) (i : ℕ) → CondClosed W a t mark.Close i → CondRead literal V s t i
      bracket_read t i r = record {
        fewer = omega (arith, p.fewer, r.fewer);
        stops = tt;
        grows = grows_trans s.tree a.tree t.tree (grows_same s.tree a.tree p.tree) r.grows;
        there = r.there;
        on = λ K A B L O o y.
            let c = cond_at t.tree i in
            open_on K A B L O y
            ∙ (r.on K A B (bracket O ∷ L) (operand K A B L O c) refl (omega arith) refl (let l = operand_depth K A B L O c in omega (arith, l))
            ∙ sym (deeper_on V W g t _));
      }

  pub closed_refused : (m : Mark) (f : TextFault) → CondRefused disjunction V s f → CondUnclosed V s m f
  closed_refused m f x K A B L o e k u = x K A B L nothing_cond o e

  module _ (m : Mark) (a : Reader) (i : ℕ) (r : CondRead disjunction V s a i) where
    pub closed_not : (f : TextFault) → Unclosed a m V.end f → CondUnclosed V s m f
    closed_not f x K A B L o e k u =
        let z = u (cond_at a.tree i) in
        refusal f _ _ (r.on K A B L nothing_cond o e)
        (x (names_of V) _ z.0 z.1 (λ n. cond_unfit (names_of V) V.end K A (cond_at a.tree i) B L (rest a) r.stops (λ v. n (v ∙ k))))

    pub closed_read : (t : Reader) → Taken a t (mark_word m) → CondClosed V s t m i
    closed_read t q = record {
      fewer = omega (arith, r.fewer, q.fewer);
      grows = grows_trans s.tree a.tree t.tree r.grows (grows_same a.tree t.tree q.tree);
      there = subst (λ u. i < length (clauses u)) (sym q.tree) r.there;
      on = λ K A B L U o e y l.
          r.on K A B L nothing_cond o e
          ∙ q.on (names_of V) V.end _ U (subst (λ u. advance (names_of V) (have_cond K A B L nothing_cond (cond_at u i)) (mark_word m) ≡ goes U) q.tree y) l;
    }
