-- Reading a whole text.
use Rattle.std.proofs.Common.{◌≡◌, ℕ, ◌≤◌, true, List, [], length, Some, None, Option, is_some, true≢false, refl, sym, ap, ◌∙◌, subst, ap₂}
use Rattle.std.specs.Iterator.{YieldsFirstBy}
use Rattle.golog.specs.Programs.{Prog, names_below, acts_below}
use Rattle.golog.specs.Points.{words}
use Rattle.golog.specs.Words.{tokens}
use Rattle.golog.specs.Grammar.{Names}
use Rattle.golog.specs.Grammar.Sort.{choice}
use Rattle.golog.specs.Reading.{nothing, start, read_on, read, most_act_words}
use Rattle.golog.specs.Reading.State.{want, have}
use Rattle.golog.specs.Reading.Reading.{tree}
use Rattle.golog.proofs.Limits.{read_is_bounded}
use Rattle.tree.specs.Held.{prog_at}
use Rattle.text.specs.declared.word.Token.{Token}
use Rattle.text.specs.declared.lexer.Words.{Words}
use Rattle.text.specs.declared.fault.TextFault.{TextFault}
use Rattle.text.specs.declared.reader.Level.{Level}
use Rattle.text.specs.declared.reader.Reader.{Reader}
use Rattle.text.specs.Faults.{Tells}
use Rattle.text.specs.Left.{said_token, left}
use Rattle.text.specs.Rest.{rest_from, rest, going, names_of, goes_on}
use Rattle.text.specs.Steps.{Unfit, Unplaced}
use Rattle.text.specs.Progs.{ProgRead, ProgRefused}
use Rattle.text.proofs.Stepping.{refusal}
use Rattle.text.proofs.Programs.{whole_unfit}

-- the words of the text are those that are not taken at first
pub first_rest : (o : Option Token) (ws vs : Words) → YieldsFirstBy said_token left ws o vs → rest_from o vs ≡ left ws
first_rest None ws vs h = sym h.0
first_rest (Some t) ws vs h = sym h

pub reading_begins : (N : Names) (text : List ℕ) (r : Reader) → rest r ≡ tokens text → r.taken ≡ 0 → r.acts ≡ 0 → read N text ≡ going N (length text) r (want [] nothing)
unfolding going
reading_begins N text r e n k =
    ap (λ ts. read_on N (length text) ts 0 0 start) (sym e) ∙ ap₂ (λ m l. read_on N (length text) (rest r) m l start) (sym n) (sym k)

pub reading_ends : (N : Names) (len : ℕ) (r : Reader) (p : Prog) → r.ahead ≡ None → going N len r (have [] nothing p) ≡ tree p
unfolding going
reading_ends N len r p e = ap (λ a. read_on N len (rest_from a r.words) r.taken r.acts (have [] nothing p)) e

module _ (V : Level) (text : List ℕ) (s : Reader) (z : V.depth ≡ 0) (e : read (names_of V) text ≡ goes_on V s (want [] nothing)) where
  pub whole_refused : (f : TextFault) → ProgRefused choice V s f → Tells f (read (names_of V) text)
  whole_refused f x = refusal f _ _ e (x [] nothing (sym z))

  module _ (t : Reader) (i : ℕ) (r : ProgRead choice V s t i) where
    pub whole_read : t.ahead ≡ None → read (names_of V) text ≡ tree (prog_at t.tree i)
    whole_read h = e ∙ (r.on [] nothing (sym z) ∙ reading_ends (names_of V) V.end t (prog_at t.tree i) h)

    pub whole_unplaced : is_some t.ahead ≡ true → (f : TextFault) → Unplaced t V.end f → Tells f (read (names_of V) text)
    whole_unplaced h f u =
        refusal f _ _ (e ∙ r.on [] nothing (sym z)) (u (names_of V) (have [] nothing (prog_at t.tree i)) (behind_all t.ahead t.words refl h))
      where
        behind_all : (o : Option Token) (ws : Words) → rest t ≡ rest_from o ws → is_some o ≡ true → Unfit (names_of V) V.end (have [] nothing (prog_at t.tree i)) (rest t)
        behind_all None ws k h = absurd (true≢false (sym h))
        behind_all (Some x) ws k h = whole_unfit (names_of V) (prog_at t.tree i) (rest t) (said_token x) (left ws) V.end k r.stops

-- what was read keeps to the counts and the limit
pub read_bounds : (N : Names) (text : List ℕ) (p : Prog) (facts acts : ℕ) → facts ≡ length N.facts → acts ≡ length N.acts → read N text ≡ tree p →
    (names_below facts p ≡ true) × (acts_below acts p ≡ true) × (words p ≤ most_act_words)
read_bounds N text p facts acts f a e =
    let b = read_is_bounded N text p e in
    (subst (λ n. names_below n p ≡ true) (sym f) b.0, subst (λ n. acts_below n p ≡ true) (sym a) b.1, b.2)
