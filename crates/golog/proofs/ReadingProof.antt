-- Reading is the grammar, but for the limits.
use Rattle.std.proofs.Common.{◌≡◌, ℕ, suc, Bool, true, false, ◌⊎◌, List, [], ◌∷◌, length, sym, refl, subst, inl, inr, arith}
use mathlib.Core.Option.{some}
use Rattle.golog.specs.Programs.{Prog}
use Rattle.golog.specs.Words.{Token, words_of, tokens}
use Rattle.golog.specs.Grammar.{Names, TextReads, OneTree}
use Rattle.golog.specs.Reading.{Sofar, State, Advance, TextFault, Reading, whole, advance, in_limits, after_word, finish, read_on, ReadingIsGrammar}
use Rattle.golog.specs.Reading.State.{want, have, want_cond, have_cond}
use Rattle.golog.specs.Reading.Advance.{goes, goes_by_act, misfit, unfamiliar}
use Rattle.golog.specs.Reading.TextFault.{over_limit}
use Rattle.golog.specs.Reading.Reading.{tree, refused}
use Rattle.golog.proofs.Complete.{Runs, moved, same_state, none_some, prog_runs, one_tree}
use Rattle.golog.proofs.Complete.Runs.{stay, move}
use Rattle.golog.proofs.Sound.{whole_text}

pub not_a_tree : {f : TextFault} {t : Prog} → refused f ≡ tree t → ⊥
not_a_tree {f} {t} e = let z : ◌≡◌ {A = ℕ} 0 1 = cc in omega arith

pub same_tree : {t u : Prog} → ◌≡◌ {A = Reading} (tree t) (tree u) → t ≡ u
same_tree e = cc

limit_tree : (b : Bool) (x : Reading) (o : ℕ) (t : Prog) → ◌≡◌ {A = Reading} (elim b [ true ↦ x | false ↦ refused (over_limit o) ]) (tree t) → x ≡ tree t
limit_tree true x o t e = e
limit_tree false x o t e = absurd (not_a_tree e)

-- what a reading that ends in a tree went through
abbrev Through : Names → List Token → Prog → State → Type 0
Through N ts t s = (A : Sofar) × (p : Prog) × Runs N s (words_of ts) (have [] A p) × (whole A p ≡ t)

word_through :
    (o n k : ℕ) (f : ℕ → ℕ → State → Reading) (t : Prog) (Q : State → Type 0) → ((n k : ℕ) (s : State) → f n k s ≡ tree t → Q s) →
    (y : Advance) → after_word o n k f y ≡ tree t → (s : State) × (moved y ≡ some s) × Q s
word_through o n k f t Q h (goes s) e = (s, refl, h (suc n) k s (limit_tree (in_limits (suc n) k s) (f (suc n) k s) o t e))
word_through o n k f t Q h (goes_by_act s) e =
    (s, refl, h (suc n) (suc k) s (limit_tree (in_limits (suc n) (suc k) s) (f (suc n) (suc k) s) o t e))
word_through o n k f t Q h misfit e = absurd (not_a_tree e)
word_through o n k f t Q h unfamiliar e = absurd (not_a_tree e)

end_through : (N : Names) (len : ℕ) (s : State) (t : Prog) → finish len s ≡ tree t → Through N [] t s
end_through N len (want K A) t e = absurd (not_a_tree e)
end_through N len (have [] A p) t e = (A, p, stay, same_tree e)
end_through N len (have (x ∷ K) A p) t e = absurd (not_a_tree e)
end_through N len (want_cond K A B L O) t e = absurd (not_a_tree e)
end_through N len (have_cond K A B L O c) t e = absurd (not_a_tree e)

through : (N : Names) (len : ℕ) (ts : List Token) (t : Prog) (n k : ℕ) (s : State) → read_on N len ts n k s ≡ tree t → Through N ts t s
through N len [] t n k s e = end_through N len s t e
through N len (x ∷ ts) t n k s e =
    let (r, m, (A, p, u, w)) = word_through x.offset n k (read_on N len ts) t (Through N ts t) (through N len ts t) (advance N s x.word) e in
    (A, p, move m u, w)

-- a reading of words that lead to the end finds the tree, or passes a limit
abbrev Found : Reading → Prog → Type 0
Found x t = (x ≡ tree t) ⊎ ((o : ℕ) × (x ≡ refused (over_limit o)))

limit_found : (b : Bool) (x : Reading) (o : ℕ) (t : Prog) → Found x t → Found (elim b [ true ↦ x | false ↦ refused (over_limit o) ]) t
limit_found true x o t h = h
limit_found false x o t h = inr (o, refl)

word_found :
    (o n k : ℕ) (f : ℕ → ℕ → State → Reading) (t : Prog) (r : State) → ((n k : ℕ) → Found (f n k r) t) →
    (y : Advance) → moved y ≡ some r → Found (after_word o n k f y) t
word_found o n k f t r h (goes s) e =
    limit_found (in_limits (suc n) k s) (f (suc n) k s) o t (subst (λ x. Found (f (suc n) k x) t) (sym (same_state e)) (h (suc n) k))
word_found o n k f t r h (goes_by_act s) e =
    limit_found (in_limits (suc n) (suc k) s) (f (suc n) (suc k) s) o t
    (subst (λ x. Found (f (suc n) (suc k) x) t) (sym (same_state e)) (h (suc n) (suc k)))
word_found o n k f t r h misfit e = absurd (none_some e)
word_found o n k f t r h unfamiliar e = absurd (none_some e)

found : (N : Names) (len : ℕ) (ts : List Token) (A : Sofar) (p : Prog) (s : State) → Runs N s (words_of ts) (have [] A p) →
    (n k : ℕ) → Found (read_on N len ts n k s) (whole A p)
found N len [] A p _ stay n k = inl refl
found N len (x ∷ ts) A p s (move {r = r} e u) n k =
    word_found x.offset n k (read_on N len ts) (whole A p) r (found N len ts A p r u) (advance N s x.word) e

pub reading_is_grammar : ReadingIsGrammar
reading_is_grammar N text t = (
  λ e.
      let (A, p, r, f) = through N (length text) (tokens text) t 0 0 _ e in
      subst (TextReads N text) f (whole_text N A p (words_of (tokens text)) r),
  λ x.
      let (A, p, r, f) = prog_runs x [] in
      subst (Found _) f (found N (length text) (tokens text) A p _ r 0 0),
)

pub text_one_tree : OneTree
text_one_tree N text t u x y = one_tree N (words_of (tokens text)) t u x y
