-- The grammar of routines: which lists of words are which program.
use Rattle.std.specs.Prelude.{◌≡◌, ℕ, suc, true, false, List, [], ◌∷◌, ◌++◌}
use Rattle.std.proofs.Math.Option.{Option, none, some}
use Rattle.golog.specs.Programs.{Cond, Prog, nil, if_then_else, while_do}
use Rattle.golog.specs.Programs.Cond.{always, never, fact, negated, both, any}
use Rattle.golog.specs.Programs.Prog.{act, test, seq, alt, star}
use Rattle.words.specs.Names.{same_word}
use Rattle.golog.specs.Words.{Word, text_words}
use Rattle.golog.specs.Words.Word.{name, open_round, close_round, begins, behind, cond_begins, cond_behind}
use Rattle.golog.specs.Words.Begin.{open_square, nil_word, if_word, while_word}
use Rattle.golog.specs.Words.Behind.{asterisk, semicolon, bar, else_word, fi_word, od_word}
use Rattle.golog.specs.Words.CondBegin.{true_word, false_word, not_word}
use Rattle.golog.specs.Words.CondBehind.{and_word, or_word, close_square, then_word, do_word}

-- the names of the facts and of the acts, each in the order of their numbers
pub record Names : Type 0 where
  pub facts : List (List ℕ)
  pub acts : List (List ℕ)

-- the number of a name in a list: of the first entry that is the same word
abbrev pub one_up : Option ℕ → Option ℕ
one_up none = none
one_up (some i) = some (suc i)

abbrev pub number_of : List (List ℕ) → List ℕ → Option ℕ
number_of [] w = none
number_of (n ∷ ns) w = elim (same_word n w) [ true ↦ some 0 | false ↦ one_up (number_of ns w) ]

-- the sorts of conditions: operands parted by or, operands parted by and, and what stands alone or behind not
pub data CondSort : Type 0 where
  disjunction conjunction literal : CondSort

-- These words are this condition. Not binds tightest, then and, then or; and and or group from the left.
pub data CondReads (N : Names) : CondSort → List Word → Cond → Type 0 where
  a_fact : {w : List ℕ} {i : ℕ} → number_of N.facts w ≡ some i → CondReads N literal (name w ∷ []) (fact i)
  a_true : CondReads N literal (cond_begins true_word ∷ []) always
  a_false : CondReads N literal (cond_begins false_word ∷ []) never
  a_not : {ws : List Word} {c : Cond} → CondReads N literal ws c → CondReads N literal (cond_begins not_word ∷ ws) (negated c)
  in_brackets : {ws : List Word} {c : Cond} → CondReads N disjunction ws c → CondReads N literal (open_round ∷ (ws ++ close_round ∷ [])) c
  one_literal : {ws : List Word} {c : Cond} → CondReads N literal ws c → CondReads N conjunction ws c
  an_and : {ws us : List Word} {c d : Cond} → CondReads N conjunction ws c → CondReads N literal us d →
      CondReads N conjunction (ws ++ cond_behind and_word ∷ us) (both c d)
  one_conjunction : {ws : List Word} {c : Cond} → CondReads N conjunction ws c → CondReads N disjunction ws c
  an_or : {ws us : List Word} {c d : Cond} → CondReads N disjunction ws c → CondReads N conjunction us d →
      CondReads N disjunction (ws ++ cond_behind or_word ∷ us) (any c d)

-- the sorts of routines: sequences parted by |, items parted by ;, an atom with any number of * behind it, and an atom
pub data Sort : Type 0 where
  choice sequence item atom : Sort

-- These words are this program. ; and | group from the left.
pub data Reads (N : Names) : Sort → List Word → Prog → Type 0 where
  an_act : {w : List ℕ} {a : ℕ} → number_of N.acts w ≡ some a → Reads N atom (name w ∷ []) (act a)
  a_test : {ws : List Word} {c : Cond} → CondReads N disjunction ws c →
      Reads N atom (begins open_square ∷ (ws ++ cond_behind close_square ∷ [])) (test c)
  a_nil : Reads N atom (begins nil_word ∷ []) nil
  in_brackets : {ws : List Word} {p : Prog} → Reads N choice ws p → Reads N atom (open_round ∷ (ws ++ close_round ∷ [])) p
  an_if : {cs ps qs : List Word} {c : Cond} {p q : Prog} → CondReads N disjunction cs c → Reads N choice ps p → Reads N choice qs q →
      Reads N atom (begins if_word ∷ (cs ++ (cond_behind then_word ∷ (ps ++ (behind else_word ∷ (qs ++ behind fi_word ∷ [])))))) (if_then_else c p q)
  a_while : {cs ps : List Word} {c : Cond} {p : Prog} → CondReads N disjunction cs c → Reads N choice ps p →
      Reads N atom (begins while_word ∷ (cs ++ (cond_behind do_word ∷ (ps ++ behind od_word ∷ [])))) (while_do c p)
  one_atom : {ws : List Word} {p : Prog} → Reads N atom ws p → Reads N item ws p
  a_star : {ws : List Word} {p : Prog} → Reads N item ws p → Reads N item (ws ++ behind asterisk ∷ []) (star p)
  one_item : {ws : List Word} {p : Prog} → Reads N item ws p → Reads N sequence ws p
  a_semicolon : {ws us : List Word} {p q : Prog} → Reads N sequence ws p → Reads N item us q →
      Reads N sequence (ws ++ behind semicolon ∷ us) (seq p q)
  one_sequence : {ws : List Word} {p : Prog} → Reads N sequence ws p → Reads N choice ws p
  a_bar : {ws us : List Word} {p q : Prog} → Reads N choice ws p → Reads N sequence us q →
      Reads N choice (ws ++ behind bar ∷ us) (alt p q)

-- A text is a choice.
abbrev pub TextReads : Names → List ℕ → Prog → Type 0
TextReads N text t = Reads N choice (text_words text) t

-- A text has at most one tree.
abbrev pub OneTree : Type 0
OneTree = (N : Names) (text : List ℕ) (t u : Prog) → TextReads N text t → TextReads N text u → t ≡ u
