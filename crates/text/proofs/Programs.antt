-- Reading programs.
use Rattle.std.proofs.Common.{◌≡◌, ℕ, ◌<◌, ◌≤◌, List, [], ◌∷◌, length, sym, refl, ap, ◌∙◌, subst, ap₂, arith}
use mathlib.Core.Option.{Option, none, some}
use Rattle.golog.specs.Programs as golog
use Rattle.golog.specs.Programs.{Cond, Prog, if_then_else, while_do}
use Rattle.golog.specs.Programs.Cond.{always}
use Rattle.golog.specs.Programs.Prog.{act, test, seq, alt, star}
use Rattle.golog.specs.Words as text
use Rattle.golog.specs.Words.Word.{name, open_round, close_round, begins, behind, cond_begins, cond_behind, strange}
use Rattle.golog.specs.Words.Begin.{open_square, nil_word, if_word, while_word}
use Rattle.golog.specs.Words.Behind.{asterisk, semicolon, bar, else_word, fi_word, od_word}
use Rattle.golog.specs.Grammar.{Names, number_of}
use Rattle.golog.specs.Grammar.Sort.{choice, sequence, item, atom}
use Rattle.golog.specs.Reading.{Sofar, Frame, Base, State, nothing, nothing_cond, whole, act_word, advance, depth, finish, most_depth}
use Rattle.golog.specs.Reading.Reading.{tree}
use Rattle.golog.specs.Reading.Frame.{in_round, in_then, in_else, in_do}
use Rattle.golog.specs.Reading.Base.{of_test, of_if, of_while}
use Rattle.golog.specs.Reading.State.{want, have, want_cond, have_cond}
use Rattle.golog.specs.Reading.Advance.{goes, goes_by_act, misfit, unfamiliar}
use Rattle.tree.specs.Held.{nodes, cond_at, prog_at}
use Rattle.text.specs.declared.word.Mark.{Mark}
use Rattle.text.specs.declared.word.Mark.TheVariants as mark
use Rattle.text.specs.declared.fault.TextFault.{TextFault}
use Rattle.text.specs.declared.reader.Level.{Level}
use Rattle.text.specs.declared.reader.Reader.{Reader}
use Rattle.text.specs.Said.{mark_word}
use Rattle.text.specs.Rest.{rest, going, names_of, goes_on, Deeper, mark_of, next_mark}
use Rattle.text.specs.Steps.{Taken, TakenAct, OverDone, OverDoneAct, OverDeep, Unfit, Unclosed}
use Rattle.text.specs.Built.{Grows, Built}
use Rattle.text.specs.Conds.{base_closer, CondClosed, CondUnclosed, CondTaken}
use Rattle.text.specs.Progs.{ProgStops, ProgRead, ProgJoined, ProgRefused, frame_closer, InsideRead, InsideRefused}
use Rattle.text.proofs.Stepping.{alike, refusal, deeper_on}
use Rattle.text.proofs.Growing.{grows_same, grows_trans, cond_stays, prog_stays, unmoved_going}

-- a program with what was read before it, and the same joined
module _ (N : Names) (len : ℕ) (s : Reader) (K : List Frame) where
  end_alike : (K : List Frame) (A C : Sofar) (p q : Prog) → whole A p ≡ whole C q → finish len (have K A p) ≡ finish len (have K C q)
  end_alike [] A C p q e = ap tree e
  end_alike (x ∷ K) A C p q e = refl

  seq_alike : (D : Option Prog) (x y : Prog) → ProgStops item (rest s) → going N len s (have K (D, some x) y) ≡ going N len s (have K (D, none) (seq x y))
  seq_alike D x y n = alike s N len _ _ (end_alike K (D, some x) (D, none) y (seq x y) refl) (λ w m. by w (λ e. n (sym m ∙ e)))
    where
      by : (w : text.Word) → (mark_of w ≡ some mark.Star → ⊥) → advance N (have K (D, some x) y) w ≡ advance N (have K (D, none) (seq x y)) w
      by (name w) n = refl
      by open_round n = refl
      by close_round n = refl
      by (begins b) n = refl
      by (behind asterisk) n = absurd (n refl)
      by (behind semicolon) n = refl
      by (behind bar) n = refl
      by (behind else_word) n = refl
      by (behind fi_word) n = refl
      by (behind od_word) n = refl
      by (cond_begins b) n = refl
      by (cond_behind b) n = refl
      by strange n = refl

  alt_alike : (x y : Prog) → ProgStops sequence (rest s) → going N len s (have K (some x, none) y) ≡ going N len s (have K nothing (alt x y))
  alt_alike x y n = alike s N len _ _ (end_alike K (some x, none) nothing y (alt x y) refl) (λ w m. by w (λ e. n.0 (sym m ∙ e)) (λ e. n.1 (sym m ∙ e)))
    where
      by : (w : text.Word) → (mark_of w ≡ some mark.Star → ⊥) → (mark_of w ≡ some mark.Semicolon → ⊥) → advance N (have K (some x, none) y) w ≡ advance N (have K nothing (alt x y)) w
      by (name w) n o = refl
      by open_round n o = refl
      by close_round n o = refl
      by (begins b) n o = refl
      by (behind asterisk) n o = absurd (n refl)
      by (behind semicolon) n o = absurd (o refl)
      by (behind bar) n o = refl
      by (behind else_word) n o = refl
      by (behind fi_word) n o = refl
      by (behind od_word) n o = refl
      by (cond_begins b) n o = refl
      by (cond_behind b) n o = refl
      by strange n o = refl

-- the loops: the part at hand, and what was joined to it
module _ (V : Level) where
  level : (K : List Frame) (A : Sofar) → length K ≡ V.depth → depth (want K A) ≤ most_depth
  level K A e = omega arith

  level_have : (K : List Frame) (A : Sofar) (p : Prog) → length K ≡ V.depth → depth (have K A p) ≤ most_depth
  level_have K A p e = omega arith

  module _ (s a : Reader) (i j : ℕ) (r : ProgRead atom V s a i) (t : Reader) (q : ProgJoined item atom V a i t j) where
    star_so_far : (K : List Frame) (A : Sofar) → length K ≡ V.depth → goes_on V s (want K A) ≡ goes_on V t (have K A (prog_at t.tree j))
    star_so_far K A e = r.on K A e ∙ q.on K A e

    pub item_over : (f : TextFault) → OverDone t (mark_word mark.Star) f → ProgRefused item V s f
    item_over f x K A e = refusal f _ _ (star_so_far K A e) (x (names_of V) V.end _ (have K A (star (prog_at t.tree j))) refl)

  module _ (s : Reader) (i : ℕ) (a : Reader) (j : ℕ) (q : ProgJoined item atom V s i a j) (b t : Reader) (m : ℕ)
      (p : Taken a b (mark_word mark.Star)) (n : Built b t (star (prog_at b.tree j)) m) where
    star_fewer : length (rest t) < length (rest a)
    star_fewer = subst (λ ts. length ts < length (rest a)) (sym n.unmoved.rests) p.fewer

    pub star_joined : ProgJoined item atom V s i t m
    star_joined = record {
      fewer = omega (arith, star_fewer, q.fewer);
      stops = tt;
      grows = grows_trans s.tree a.tree t.tree q.grows (grows_trans a.tree b.tree t.tree (grows_same a.tree b.tree p.tree) n.grows);
      there = n.there;
      on = λ K A e.
          let x = prog_at a.tree j in
          q.on K A e
          ∙ (p.on (names_of V) V.end (have K A x) (have K A (star x)) refl (level_have K A (star x) e)
          ∙ (unmoved_going b t n.unmoved (names_of V) V.end _ ∙ ap (λ z. goes_on V t (have K A z)) (sym (n.is ∙ ap (λ u. star (prog_at u j)) p.tree))));
    }

  module _ (s a : Reader) (i j : ℕ) (r : ProgRead item V s a i) (t : Reader) (q : ProgJoined sequence item V a i t j) where
    seq_so_far : (K : List Frame) (A : Sofar) → length K ≡ V.depth → goes_on V s (want K (A.0, none)) ≡ goes_on V t (have K (A.0, none) (prog_at t.tree j))
    seq_so_far K A e = r.on K (A.0, none) e ∙ q.on K A e

    pub sequence_over : (f : TextFault) → OverDone t (mark_word mark.Semicolon) f → ProgRefused sequence V s f
    sequence_over f x K A e = refusal f _ _ (seq_so_far K A e) (x (names_of V) V.end _ (want K (A.0, some (prog_at t.tree j))) refl)

    pub sequence_refused : (b : Reader) → Taken t b (mark_word mark.Semicolon) → (f : TextFault) → ProgRefused item V b f → ProgRefused sequence V s f
    sequence_refused b p f x K A e =
        let C : Sofar = (A.0, some (prog_at t.tree j)) in
        refusal f _ _ (seq_so_far K A e ∙ p.on (names_of V) V.end _ (want K C) refl (level K C e)) (x K C e)

  module _ (s : Reader) (i : ℕ) (a : Reader) (j : ℕ) (q : ProgJoined sequence item V s i a j) (b c t : Reader) (k m : ℕ)
      (p : Taken a b (mark_word mark.Semicolon)) (r : ProgRead item V b c k) (n : Built c t (seq (prog_at c.tree j) (prog_at c.tree k)) m) where
    seq_fewer : length (rest t) < length (rest a)
    seq_fewer = subst (λ ts. length ts < length (rest a)) (sym n.unmoved.rests) (omega (arith, p.fewer, r.fewer))

    seq_grows : Grows a.tree c.tree
    seq_grows = grows_trans a.tree b.tree c.tree (grows_same a.tree b.tree p.tree) r.grows

    pub seq_joined : ProgJoined sequence item V s i t m
    seq_joined = record {
      fewer = omega (arith, seq_fewer, q.fewer);
      stops = λ e. r.stops (sym (ap next_mark n.unmoved.rests) ∙ e);
      grows = grows_trans s.tree a.tree t.tree q.grows (grows_trans a.tree c.tree t.tree seq_grows n.grows);
      there = n.there;
      on = λ K A e.
          let x = prog_at a.tree j in
          let y = prog_at c.tree k in
          let C : Sofar = (A.0, some x) in
          q.on K A e
          ∙ (p.on (names_of V) V.end (have K (A.0, none) x) (want K C) refl (level K C e)
          ∙ (r.on K C e
          ∙ (seq_alike (names_of V) V.end c K A.0 x y r.stops
          ∙ (unmoved_going c t n.unmoved (names_of V) V.end _
          ∙ ap (λ z. goes_on V t (have K (A.0, none) z)) (sym (n.is ∙ ap (λ z. seq z y) (prog_stays a.tree c.tree seq_grows j q.there)))))));
    }

  module _ (s a : Reader) (i j : ℕ) (r : ProgRead sequence V s a i) (t : Reader) (q : ProgJoined choice sequence V a i t j) where
    alt_so_far : (K : List Frame) (A : Sofar) → length K ≡ V.depth → goes_on V s (want K nothing) ≡ goes_on V t (have K nothing (prog_at t.tree j))
    alt_so_far K A e = r.on K nothing e ∙ q.on K A e

    pub choice_read : (next_mark (rest t) ≡ some mark.Bar → ⊥) → ProgRead choice V s t j
    choice_read n = record {
      fewer = omega (arith, r.fewer, q.fewer);
      stops = (q.stops.0, q.stops.1, n);
      grows = grows_trans s.tree a.tree t.tree r.grows q.grows;
      there = q.there;
      on = alt_so_far;
    }

    pub choice_over : (f : TextFault) → OverDone t (mark_word mark.Bar) f → ProgRefused choice V s f
    choice_over f x K A e = refusal f _ _ (alt_so_far K A e) (x (names_of V) V.end _ (want K (some (prog_at t.tree j), none)) refl)

    pub choice_refused : (b : Reader) → Taken t b (mark_word mark.Bar) → (f : TextFault) → ProgRefused sequence V b f → ProgRefused choice V s f
    choice_refused b p f x K A e =
        let C : Sofar = (some (prog_at t.tree j), none) in
        refusal f _ _ (alt_so_far K A e ∙ p.on (names_of V) V.end _ (want K C) refl (level K C e)) (x K C e)

  module _ (s : Reader) (i : ℕ) (a : Reader) (j : ℕ) (q : ProgJoined choice sequence V s i a j) (b c t : Reader) (k m : ℕ)
      (p : Taken a b (mark_word mark.Bar)) (r : ProgRead sequence V b c k) (n : Built c t (alt (prog_at c.tree j) (prog_at c.tree k)) m) where
    alt_fewer : length (rest t) < length (rest a)
    alt_fewer = subst (λ ts. length ts < length (rest a)) (sym n.unmoved.rests) (omega (arith, p.fewer, r.fewer))

    alt_grows : Grows a.tree c.tree
    alt_grows = grows_trans a.tree b.tree c.tree (grows_same a.tree b.tree p.tree) r.grows

    pub alt_joined : ProgJoined choice sequence V s i t m
    alt_joined = record {
      fewer = omega (arith, alt_fewer, q.fewer);
      stops = (λ e. r.stops.0 (sym (ap next_mark n.unmoved.rests) ∙ e), λ e. r.stops.1 (sym (ap next_mark n.unmoved.rests) ∙ e));
      grows = grows_trans s.tree a.tree t.tree q.grows (grows_trans a.tree c.tree t.tree alt_grows n.grows);
      there = n.there;
      on = λ K A e.
          let x = prog_at a.tree j in
          let y = prog_at c.tree k in
          let C : Sofar = (some x, none) in
          q.on K A e
          ∙ (p.on (names_of V) V.end (have K nothing x) (want K C) refl (level K C e)
          ∙ (r.on K C e
          ∙ (alt_alike (names_of V) V.end c K x y r.stops
          ∙ (unmoved_going c t n.unmoved (names_of V) V.end _
          ∙ ap (λ z. goes_on V t (have K nothing z)) (sym (n.is ∙ ap (λ z. alt z y) (prog_stays a.tree c.tree alt_grows j q.there)))))));
    }

-- what is next has no place behind a choice that it neither joins nor closes
abbrev closer : List Frame → Option Mark
closer [] = none
closer (F ∷ K) = some (frame_closer F)

module _ (N : Names) (p : Prog) where
  close_unfit : (K : List Frame) → (some mark.Close ≡ closer K → ⊥) → advance N (have K nothing p) close_round ≡ misfit
  close_unfit [] n = refl
  close_unfit (in_round A ∷ K) n = absurd (n refl)
  close_unfit (in_then A c ∷ K) n = refl
  close_unfit (in_else A c q ∷ K) n = refl
  close_unfit (in_do A c ∷ K) n = refl

  else_unfit : (K : List Frame) → (some mark.Else ≡ closer K → ⊥) → advance N (have K nothing p) (behind else_word) ≡ misfit
  else_unfit [] n = refl
  else_unfit (in_round A ∷ K) n = refl
  else_unfit (in_then A c ∷ K) n = absurd (n refl)
  else_unfit (in_else A c q ∷ K) n = refl
  else_unfit (in_do A c ∷ K) n = refl

  fi_unfit : (K : List Frame) → (some mark.Fi ≡ closer K → ⊥) → advance N (have K nothing p) (behind fi_word) ≡ misfit
  fi_unfit [] n = refl
  fi_unfit (in_round A ∷ K) n = refl
  fi_unfit (in_then A c ∷ K) n = refl
  fi_unfit (in_else A c q ∷ K) n = absurd (n refl)
  fi_unfit (in_do A c ∷ K) n = refl

  od_unfit : (K : List Frame) → (some mark.Od ≡ closer K → ⊥) → advance N (have K nothing p) (behind od_word) ≡ misfit
  od_unfit [] n = refl
  od_unfit (in_round A ∷ K) n = refl
  od_unfit (in_then A c ∷ K) n = refl
  od_unfit (in_else A c q ∷ K) n = refl
  od_unfit (in_do A c ∷ K) n = absurd (n refl)

  pub choice_unfit : (K : List Frame) (w : text.Word) → (mark_of w ≡ some mark.Star → ⊥) → (mark_of w ≡ some mark.Semicolon → ⊥) → (mark_of w ≡ some mark.Bar → ⊥) →
      ((m : Mark) → mark_of w ≡ some m → closer K ≡ some m → ⊥) → advance N (have K nothing p) w ≡ misfit
  choice_unfit K (name w) s c b n = refl
  choice_unfit K open_round s c b n = refl
  choice_unfit K close_round s c b n = close_unfit K (λ e. n mark.Close refl (sym e))
  choice_unfit K (begins x) s c b n = refl
  choice_unfit K (behind asterisk) s c b n = absurd (s refl)
  choice_unfit K (behind semicolon) s c b n = absurd (c refl)
  choice_unfit K (behind bar) s c b n = absurd (b refl)
  choice_unfit K (behind else_word) s c b n = else_unfit K (λ e. n mark.Else refl (sym e))
  choice_unfit K (behind fi_word) s c b n = fi_unfit K (λ e. n mark.Fi refl (sym e))
  choice_unfit K (behind od_word) s c b n = od_unfit K (λ e. n mark.Od refl (sym e))
  choice_unfit K (cond_begins x) s c b n = refl
  choice_unfit K (cond_behind x) s c b n = refl
  choice_unfit K strange s c b n = refl

  inside_unfit : (len : ℕ) (F : Frame) (K : List Frame) (ts : List text.Token) → ProgStops choice ts → (next_mark ts ≡ some (frame_closer F) → ⊥) → Unfit N len (have (F ∷ K) nothing p) ts
  inside_unfit len F K [] s n = refl
  inside_unfit len F K (t ∷ ts) s n = choice_unfit (F ∷ K) t.word s.0 s.1 s.2 (λ m a b. n (a ∙ sym b))

-- behind a whole text
none_some : (m : Mark) → none ≡ some m → ⊥
none_some m e = let z : ◌≡◌ {A = ℕ} 0 1 = cc in omega arith

pub whole_unfit : (N : Names) (p : Prog) (ts : List text.Token) (x : text.Token) (more : List text.Token) (len : ℕ) → ts ≡ x ∷ more → ProgStops choice ts → Unfit N len (have [] nothing p) ts
whole_unfit N p [] x more len e s = absurd (not_cons e)
  where
    not_cons : [] ≡ x ∷ more → ⊥
    not_cons e = let z : ◌≡◌ {A = ℕ} 0 1 = cc in omega arith
whole_unfit N p (t ∷ ts) x more len e s = choice_unfit N p [] t.word s.0 s.1 s.2 (λ m a b. none_some m b)

-- a choice, and the mark that closes it
module _ (V : Level) (s : Reader) (m : Mark) where
  pub inside_refused : (f : TextFault) → ProgRefused choice V s f → InsideRefused V s m f
  inside_refused f x F K e g h = x (F ∷ K) nothing e

  module _ (a : Reader) (i : ℕ) (r : ProgRead choice V s a i) where
    pub inside_unclosed : (f : TextFault) → Unclosed a m V.end f → InsideRefused V s m f
    inside_unclosed f x F K e g h =
        let y = h (prog_at a.tree i) in
        refusal f _ _ (r.on (F ∷ K) nothing e)
        (x (names_of V) _ y.0 y.1 (λ n. inside_unfit (names_of V) (prog_at a.tree i) V.end F K (rest a) r.stops (λ z. n (z ∙ ap some g))))

    pub inside_read : (t : Reader) → Taken a t (mark_word m) → InsideRead V s t m i
    inside_read t p = record {
      fewer = omega (arith, r.fewer, p.fewer);
      grows = grows_trans s.tree a.tree t.tree r.grows (grows_same a.tree t.tree p.tree);
      there = subst (λ u. i < length (nodes u)) (sym p.tree) r.there;
      on = λ F K U e x l.
          r.on (F ∷ K) nothing e ∙ p.on (names_of V) V.end _ U (subst (λ u. advance (names_of V) (have (F ∷ K) nothing (prog_at u i)) (mark_word m) ≡ goes U) p.tree x) l;
    }

-- atoms
module _ (V : Level) (s : Reader) where
  deep_have : (K : List Frame) (A : Sofar) (p : Prog) → length K ≡ V.depth → depth (have K A p) ≤ most_depth
  deep_have K A p e = omega arith

  atom_built : (a t : Reader) (p : Prog) (i : ℕ) → length (rest a) < length (rest s) → Grows s.tree a.tree →
      ((K : List Frame) (A : Sofar) → length K ≡ V.depth → goes_on V s (want K A) ≡ goes_on V a (have K A p)) → Built a t p i → ProgRead atom V s t i
  atom_built a t p i l g on b = record {
    fewer = subst (λ ts. length ts < length (rest s)) (sym b.unmoved.rests) l;
    stops = tt;
    grows = grows_trans s.tree a.tree t.tree g b.grows;
    there = b.there;
    on = λ K A e. on K A e ∙ (unmoved_going a t b.unmoved (names_of V) V.end _ ∙ ap (λ z. goes_on V t (have K A z)) (sym b.is));
  }

  module _ (w : text.Word) (v : List ℕ) (n : ℕ) (is : w ≡ name v) (k : number_of (names_of V).acts v ≡ some n) where
    act_on : (K : List Frame) (A : Sofar) → advance (names_of V) (want K A) w ≡ goes_by_act (have K A (act n))
    act_on K A = ap (advance (names_of V) (want K A)) is ∙ ap (act_word K A) k

    pub act_over : (f : TextFault) → OverDoneAct s w f → ProgRefused atom V s f
    act_over f x K A e = x (names_of V) V.end (want K A) (have K A (act n)) (act_on K A)

    pub act_read : (a t : Reader) (i : ℕ) → TakenAct s a w → Built a t (act n) i → ProgRead atom V s t i
    act_read a t i p b =
        atom_built a t (act n) i p.fewer (grows_same s.tree a.tree p.tree)
        (λ K A e. p.on (names_of V) V.end (want K A) (have K A (act n)) (act_on K A) (deep_have K A (act n) e)) b

  pub act_unknown : (w : text.Word) (v : List ℕ) → w ≡ name v → (K : List Frame) (A : Sofar) → number_of (names_of V).acts v ≡ none →
      advance (names_of V) (want K A) w ≡ unfamiliar
  act_unknown w v is K A n = ap (advance (names_of V) (want K A)) is ∙ ap (act_word K A) n

  pub nil_over : (f : TextFault) → OverDone s (begins nil_word) f → ProgRefused atom V s f
  nil_over f x K A e = x (names_of V) V.end (want K A) (have K A golog.nil) refl

  pub nil_read : (a t : Reader) (c i : ℕ) → CondTaken s a (begins nil_word) always c → Built a t (test (cond_at a.tree c)) i → ProgRead atom V s t i
  nil_read a t c i p b =
      atom_built a t (test (cond_at a.tree c)) i p.fewer p.grows
      (λ K A e.
      p.on (names_of V) V.end (want K A) (have K A golog.nil) refl (deep_have K A golog.nil e) ∙ ap (λ z. goes_on V a (have K A (test z))) (sym p.is)) b

  -- a word that a condition follows, the condition, and the mark that closes that
  module _ (w : text.Word) (B : Base) (opens : (K : List Frame) (A : Sofar) → advance (names_of V) (want K A) w ≡ goes (want_cond K A B [] nothing_cond)) where
    pub guard_over : (f : TextFault) → OverDeep s w V.depth f → ProgRefused atom V s f
    guard_over f x K A e = x (names_of V) V.end (want K A) (want_cond K A B [] nothing_cond) (opens K A) (omega arith)

    module _ (a : Reader) (W : Level) (g : Deeper V W) (p : Taken s a w) where
      guard_on : (K : List Frame) (A : Sofar) → length K ≡ V.depth → goes_on V s (want K A) ≡ goes_on W a (want_cond K A B [] nothing_cond)
      guard_on K A e = p.on (names_of V) V.end (want K A) (want_cond K A B [] nothing_cond) (opens K A) (omega arith) ∙ deeper_on V W g a _

      pub guard_refused : ((K : List Frame) (A : Sofar) (c : Cond) → (U : State) × (advance (names_of W) (have_cond K A B [] nothing_cond c) (mark_word (base_closer B)) ≡ goes U)) →
          (f : TextFault) → CondUnclosed W a (base_closer B) f → ProgRefused atom V s f
      guard_refused u f x K A e = refusal f _ _ (guard_on K A e) (x K A B [] refl (omega arith) refl (u K A))

      guard_read : (t : Reader) (c : ℕ) → CondClosed W a t (base_closer B) c → (K : List Frame) (A : Sofar) (U : State) → length K ≡ V.depth →
          advance (names_of W) (have_cond K A B [] nothing_cond (cond_at t.tree c)) (mark_word (base_closer B)) ≡ goes U → depth U ≤ most_depth →
          goes_on V s (want K A) ≡ goes_on W t U
      guard_read t c r K A U e y l = guard_on K A e ∙ r.on K A B [] U refl (omega arith) y l

  pub round_over : (f : TextFault) → OverDeep s open_round V.depth f → ProgRefused atom V s f
  round_over f x K A e = x (names_of V) V.end (want K A) (want (in_round A ∷ K) nothing) refl (omega arith)

  module _ (a : Reader) (W : Level) (g : Deeper V W) where
    pub test_read : Taken s a (begins open_square) → (b t : Reader) (c i : ℕ) → CondClosed W a b mark.CloseSquare c → Built b t (test (cond_at b.tree c)) i → ProgRead atom V s t i
    test_read p b t c i r n =
        atom_built b t (test (cond_at b.tree c)) i (omega (arith, p.fewer, r.fewer))
        (grows_trans s.tree a.tree b.tree (grows_same s.tree a.tree p.tree) r.grows)
        (λ K A e.
        guard_read (begins open_square) of_test (λ L C. refl) a W g p b c r K A (have K A (test (cond_at b.tree c))) e refl (deep_have K A (test (cond_at b.tree c)) e)
        ∙ sym (deeper_on V W g b _)) n

    module _ (p : Taken s a open_round) where
      round_on : (K : List Frame) (A : Sofar) → length K ≡ V.depth → goes_on V s (want K A) ≡ goes_on W a (want (in_round A ∷ K) nothing)
      round_on K A e = p.on (names_of V) V.end (want K A) (want (in_round A ∷ K) nothing) refl (omega arith) ∙ deeper_on V W g a _

      pub round_refused : (f : TextFault) → InsideRefused W a mark.Close f → ProgRefused atom V s f
      round_refused f x K A e = refusal f _ _ (round_on K A e) (x (in_round A) K (omega arith) refl (λ q. (have K A q, refl)))

      pub round_read : (t : Reader) (i : ℕ) → InsideRead W a t mark.Close i → ProgRead atom V s t i
      round_read t i r = record {
        fewer = omega (arith, p.fewer, r.fewer);
        stops = tt;
        grows = grows_trans s.tree a.tree t.tree (grows_same s.tree a.tree p.tree) r.grows;
        there = r.there;
        on = λ K A e.
            round_on K A e
            ∙ (r.on (in_round A) K (have K A (prog_at t.tree i)) (omega arith) refl (deep_have K A (prog_at t.tree i) e) ∙ sym (deeper_on V W g t _));
      }

    module _ (p : Taken s a (begins if_word)) (b : Reader) (c : ℕ) (r : CondClosed W a b mark.Then c) where
      if_on : (K : List Frame) (A : Sofar) → length K ≡ V.depth → goes_on V s (want K A) ≡ goes_on W b (want (in_then A (cond_at b.tree c) ∷ K) nothing)
      if_on K A e = guard_read (begins if_word) of_if (λ L C. refl) a W g p b c r K A (want (in_then A (cond_at b.tree c) ∷ K) nothing) e refl (omega arith)

      pub then_refused : (f : TextFault) → InsideRefused W b mark.Else f → ProgRefused atom V s f
      then_refused f x K A e =
          refusal f _ _ (if_on K A e) (x (in_then A (cond_at b.tree c)) K (omega arith) refl (λ q. (want (in_else A (cond_at b.tree c) q ∷ K) nothing, refl)))

      module _ (d : Reader) (q : ℕ) (y : InsideRead W b d mark.Else q) where
        then_on : (K : List Frame) (A : Sofar) → length K ≡ V.depth →
            goes_on V s (want K A) ≡ goes_on W d (want (in_else A (cond_at b.tree c) (prog_at d.tree q) ∷ K) nothing)
        then_on K A e =
            if_on K A e
            ∙ y.on (in_then A (cond_at b.tree c)) K (want (in_else A (cond_at b.tree c) (prog_at d.tree q) ∷ K) nothing) (omega arith) refl (omega arith)

        pub else_refused : (f : TextFault) → InsideRefused W d mark.Fi f → ProgRefused atom V s f
        else_refused f x K A e =
            refusal f _ _ (then_on K A e)
            (x (in_else A (cond_at b.tree c) (prog_at d.tree q)) K (omega arith) refl (λ z. (have K A (if_then_else (cond_at b.tree c) (prog_at d.tree q) z), refl)))

        module _ (k : Reader) (z : ℕ) (u : InsideRead W d k mark.Fi z) where
          pub if_read : (t : Reader) (i : ℕ) → Built k t (if_then_else (cond_at k.tree c) (prog_at k.tree q) (prog_at k.tree z)) i → ProgRead atom V s t i
          if_read t i m =
              let more = grows_trans b.tree d.tree k.tree y.grows u.grows in
              atom_built k t (if_then_else (cond_at k.tree c) (prog_at k.tree q) (prog_at k.tree z)) i (omega (arith, p.fewer, r.fewer, y.fewer, u.fewer))
              (grows_trans s.tree a.tree k.tree (grows_same s.tree a.tree p.tree) (grows_trans a.tree b.tree k.tree r.grows more))
              (λ K A e.
              let all = if_then_else (cond_at b.tree c) (prog_at d.tree q) (prog_at k.tree z) in
              then_on K A e
              ∙ (u.on (in_else A (cond_at b.tree c) (prog_at d.tree q)) K (have K A all) (omega arith) refl (deep_have K A all e)
              ∙ (sym (deeper_on V W g k _)
              ∙ ap₂ (λ x y. goes_on V k (have K A (if_then_else x y (prog_at k.tree z)))) (sym (cond_stays b.tree k.tree more c r.there)) (sym (prog_stays d.tree k.tree u.grows q y.there))))) m

    module _ (p : Taken s a (begins while_word)) (b : Reader) (c : ℕ) (r : CondClosed W a b mark.Do c) where
      while_on : (K : List Frame) (A : Sofar) → length K ≡ V.depth → goes_on V s (want K A) ≡ goes_on W b (want (in_do A (cond_at b.tree c) ∷ K) nothing)
      while_on K A e = guard_read (begins while_word) of_while (λ L C. refl) a W g p b c r K A (want (in_do A (cond_at b.tree c) ∷ K) nothing) e refl (omega arith)

      pub do_refused : (f : TextFault) → InsideRefused W b mark.Od f → ProgRefused atom V s f
      do_refused f x K A e =
          refusal f _ _ (while_on K A e) (x (in_do A (cond_at b.tree c)) K (omega arith) refl (λ q. (have K A (while_do (cond_at b.tree c) q), refl)))

      module _ (d : Reader) (q : ℕ) (y : InsideRead W b d mark.Od q) where
        pub while_read : (t : Reader) (i : ℕ) → Built d t (while_do (cond_at d.tree c) (prog_at d.tree q)) i → ProgRead atom V s t i
        while_read t i m =
            atom_built d t (while_do (cond_at d.tree c) (prog_at d.tree q)) i (omega (arith, p.fewer, r.fewer, y.fewer))
            (grows_trans s.tree a.tree d.tree (grows_same s.tree a.tree p.tree) (grows_trans a.tree b.tree d.tree r.grows y.grows))
            (λ K A e.
            let all = while_do (cond_at b.tree c) (prog_at d.tree q) in
            while_on K A e
            ∙ (y.on (in_do A (cond_at b.tree c)) K (have K A all) (omega arith) refl (deep_have K A all e)
            ∙ (sym (deeper_on V W g d _) ∙ ap (λ x. goes_on V d (have K A (while_do x (prog_at d.tree q)))) (sym (cond_stays b.tree d.tree y.grows c r.there))))) m
