-- A tree that grows.
use Rattle.std.proofs.Common.{◌≡◌, ℕ, ◌<◌, Bool, true, false, List, [], ◌∷◌, ◌++◌, length, get_or, Some, None, Option, sym, refl, ap, ◌∙◌, subst, ap₂, append_assoc, append-nil, arith, length-append}
use mathlib.Core.Option as logic
use mathlib.Core.Option.{none, some}
use Rattle.std.proofs.lemmas.List.{get_or_push, length_push}
use Rattle.words.specs.Names.{same_word, one_on, position}
use Rattle.golog.specs.Programs.{if_then_else, while_do}
use Rattle.golog.specs.Programs.Cond.{negated}
use Rattle.golog.specs.Programs.Prog.{test, seq, alt, star}
use Rattle.golog.specs.Grammar.{Names, one_up, number_of}
use Rattle.golog.specs.Reading.{State, read_on}
use Rattle.tree.specs.declared.node.Clause.{Clause}
use Rattle.tree.specs.declared.node.Clause.TheVariants.{True}
use Rattle.tree.specs.declared.node.Node.{Node}
use Rattle.tree.specs.declared.node.Node.TheVariants.{Act}
use Rattle.tree.specs.declared.tree.Tree.{Tree}
use Rattle.tree.specs.Trees.{cond_node, cond_of, cond_lower, prog_node, prog_of, prog_lower}
use Rattle.tree.specs.Held.{clauses, nodes, cond_at, prog_at}
use Rattle.tree.proofs.Unrolled.{cond_agree, prog_agree, cond_unrolled, prog_unrolled, cond_kept, prog_kept}
use Rattle.text.specs.declared.reader.Reader.{Reader}
use Rattle.text.specs.Rest.{rest, going}
use Rattle.text.specs.Built.{Longer, Grows, Unmoved, BuiltCond, Built}

-- the number of a name in both readings
abbrev told : Option ℕ → logic.Option ℕ
told None = none
told (Some i) = some i

told_up : (o : Option ℕ) → one_up (told o) ≡ told (one_on o)
told_up None = refl
told_up (Some i) = refl

told_test : (b : Bool) (n : logic.Option ℕ) (o : Option ℕ) → n ≡ told (one_on o) →
    ◌≡◌ {A = logic.Option ℕ} (elim b [ true ↦ some 0 | false ↦ n ]) (told (elim b [ true ↦ Some 0 | false ↦ one_on o ]))
told_test true n o e = refl
told_test false n o e = e

pub numbers : (ns : List (List ℕ)) (w : List ℕ) → number_of ns w ≡ told (position ns w)
numbers [] w = refl
numbers (n ∷ ns) w = told_test (same_word n w) (one_up (number_of ns w)) (position ns w) (ap one_up (numbers ns w) ∙ told_up (position ns w))

pub has_number : (ns : List (List ℕ)) (w : List ℕ) (i : ℕ) → Some i ≡ position ns w → number_of ns w ≡ some i
has_number ns w i e = numbers ns w ∙ ap told (sym e)

pub has_no_number : (ns : List (List ℕ)) (w : List ℕ) → None ≡ position ns w → number_of ns w ≡ none
has_no_number ns w e = numbers ns w ∙ ap told (sym e)

longer_same : {X : Type 0} (xs ys : List X) → ys ≡ xs → Longer xs ys
longer_same xs ys e = ([], e ∙ sym (append-nil xs))

longer_trans : {X : Type 0} (xs ys zs : List X) → Longer xs ys → Longer ys zs → Longer xs zs
longer_trans xs ys zs h k = (h.0 ++ k.0, k.1 ∙ (ap (λ l. l ++ k.0) h.1 ∙ append_assoc xs h.0 k.0))

longer_length : {X : Type 0} (xs ys : List X) → Longer xs ys → (i : ℕ) → i < length xs → i < length ys
longer_length xs ys h i l = let e = ap length h.1 in omega (arith, e, length-append xs h.0)

pub grows_same : (t u : Tree) → u ≡ t → Grows t u
grows_same t u e = (longer_same _ _ (ap clauses e), longer_same _ _ (ap nodes e))

pub grows_trans : (t u v : Tree) → Grows t u → Grows u v → Grows t v
grows_trans t u v g h = (longer_trans (clauses t) (clauses u) (clauses v) g.0 h.0, longer_trans (nodes t) (nodes u) (nodes v) g.1 h.1)

pub cond_there : (t u : Tree) → Grows t u → (i : ℕ) → i < length (clauses t) → i < length (clauses u)
cond_there t u g i h = longer_length (clauses t) (clauses u) g.0 i h

pub prog_there : (t u : Tree) → Grows t u → (i : ℕ) → i < length (nodes t) → i < length (nodes u)
prog_there t u g i h = longer_length (nodes t) (nodes u) g.1 i h

-- an entry stands for the same
pub cond_stays : (t u : Tree) → Grows t u → (i : ℕ) → i < length (clauses t) → cond_at u i ≡ cond_at t i
cond_stays t u g i h = ap (λ cs. cond_of cs i) g.0.1 ∙ cond_kept (clauses t) g.0.0 t.conds i h

pub prog_stays : (t u : Tree) → Grows t u → (i : ℕ) → i < length (nodes t) → prog_at u i ≡ prog_at t i
prog_stays t u g i h =
    ap₂ (λ ns cs. prog_of ns cs i) g.1.1 g.0.1 ∙ prog_kept (nodes t) g.1.0 (clauses t) g.0.0 t.conds t.progs i h

-- an entry that was added
pub grows_clause : (t u : Tree) (x : Clause) → clauses u ≡ clauses t ++ x ∷ [] → nodes u ≡ nodes t → Grows t u
grows_clause t u x e f = ((x ∷ [], e), longer_same _ _ f)

pub grows_node : (t u : Tree) (x : Node) → clauses u ≡ clauses t → nodes u ≡ nodes t ++ x ∷ [] → Grows t u
grows_node t u x e f = (longer_same _ _ e, (x ∷ [], f))

last_there : {X : Type 0} (xs ys : List X) (x : X) (i : ℕ) → i ≡ length xs → ys ≡ xs ++ x ∷ [] → i < length ys
last_there xs ys x i e f = let l = ap length f in omega (arith, l, length_push xs x)

pub clause_there : (t u : Tree) (x : Clause) (i : ℕ) → i ≡ length (clauses t) → clauses u ≡ clauses t ++ x ∷ [] → i < length (clauses u)
clause_there t u x i e f = last_there (clauses t) (clauses u) x i e f

pub node_there : (t u : Tree) (x : Node) (i : ℕ) → i ≡ length (nodes t) → nodes u ≡ nodes t ++ x ∷ [] → i < length (nodes u)
node_there t u x i e f = last_there (nodes t) (nodes u) x i e f

pub clause_is : (t u : Tree) (x : Clause) (i : ℕ) → i ≡ length (clauses t) → cond_lower i x ≡ true → clauses u ≡ clauses t ++ x ∷ [] → nodes u ≡ nodes t →
    cond_at u i ≡ cond_node (cond_at t) x
clause_is t u x i e low f g =
    cond_unrolled (clauses u) u.conds i (clause_there t u x i e f)
    ∙ (ap (cond_node (cond_at u)) (ap (λ l. get_or l i True) f ∙ get_or_push (clauses t) x True i (sym e))
    ∙ cond_agree (cond_at u) (cond_at t) i x low (λ a h. cond_stays t u (grows_clause t u x f g) a (subst (λ n. a < n) e h)))

pub node_is : (t u : Tree) (x : Node) (i : ℕ) → i ≡ length (nodes t) → prog_lower (length (clauses t)) i x ≡ true → clauses u ≡ clauses t → nodes u ≡ nodes t ++ x ∷ [] →
    prog_at u i ≡ prog_node (prog_at t) (cond_at t) x
node_is t u x i e low f g =
    let more = grows_node t u x f g in
    prog_unrolled (length (clauses u)) (nodes u) (clauses u) u.progs i (node_there t u x i e g)
    ∙ (ap (prog_node (prog_at u) (cond_at u)) (ap (λ l. get_or l i (Act 0)) g ∙ get_or_push (nodes t) x (Act 0) i (sym e))
    ∙ prog_agree (prog_at u) (prog_at t) (cond_at u) (cond_at t) (length (clauses t)) i x low
    (λ a h. prog_stays t u more a (subst (λ n. a < n) e h)) (λ c h. cond_stays t u more c h))

-- reading goes on alike where no word was taken
pub unmoved_going : (s t : Reader) → Unmoved s t → (N : Names) (len : ℕ) (S : State) → going N len s S ≡ going N len t S
unfolding going
unmoved_going s t u N len S =
    ap (λ ts. read_on N len ts s.taken s.acts S) (sym u.rests) ∙ ap₂ (λ n k. read_on N len (rest t) n k S) (sym u.counts) (sym u.acts)

pub unmoved_trans : (s t u : Reader) → Unmoved s t → Unmoved t u → Unmoved s u
unmoved_trans s t u h k = record { rests = k.rests ∙ h.rests; counts = k.counts ∙ h.counts; acts = k.acts ∙ h.acts }

-- programs of several entries
module _ (s a t : Reader) (c p i j : ℕ) (one : Built s a (test (cond_at s.tree c)) i) (two : Built a t (seq (prog_at a.tree i) (prog_at a.tree p)) j)
    (h : p < length (nodes s.tree)) where
  pub guarded_built : Built s t (seq (test (cond_at s.tree c)) (prog_at s.tree p)) j
  guarded_built = record {
    unmoved = unmoved_trans s a t one.unmoved two.unmoved;
    grows = grows_trans s.tree a.tree t.tree one.grows two.grows;
    there = two.there;
    is = two.is ∙ ap₂ seq one.is (prog_stays s.tree a.tree one.grows p h);
  }

module _ (s a b d t : Reader) (c p q first n second i : ℕ)
    (one : Built s a (seq (test (cond_at s.tree c)) (prog_at s.tree p)) first)
    (two : BuiltCond a b (negated (cond_at a.tree c)) n)
    (three : Built b d (seq (test (cond_at b.tree n)) (prog_at b.tree q)) second)
    (four : Built d t (alt (prog_at d.tree first) (prog_at d.tree second)) i)
    (h : c < length (clauses s.tree)) (l : q < length (nodes s.tree)) where
  to_b : Grows s.tree b.tree
  to_b = grows_trans s.tree a.tree b.tree one.grows two.grows

  a_to_d : Grows a.tree d.tree
  a_to_d = grows_trans a.tree b.tree d.tree two.grows three.grows

  pub branch_built : Built s t (if_then_else (cond_at s.tree c) (prog_at s.tree p) (prog_at s.tree q)) i
  branch_built = record {
    unmoved =
        unmoved_trans s a t one.unmoved (unmoved_trans a b t two.unmoved (unmoved_trans b d t three.unmoved four.unmoved));
    grows = grows_trans s.tree b.tree t.tree to_b (grows_trans b.tree d.tree t.tree three.grows four.grows);
    there = four.there;
    is =
        four.is
        ∙ ap₂ alt (prog_stays a.tree d.tree a_to_d first one.there ∙ one.is)
        (three.is ∙ ap₂ (λ x y. seq (test x) y) (two.is ∙ ap negated (cond_stays s.tree a.tree one.grows c h)) (prog_stays s.tree b.tree to_b q l));
  }

module _ (s a b d e t : Reader) (c p body turns n end i : ℕ)
    (one : Built s a (seq (test (cond_at s.tree c)) (prog_at s.tree p)) body)
    (two : Built a b (star (prog_at a.tree body)) turns)
    (three : BuiltCond b d (negated (cond_at b.tree c)) n)
    (four : Built d e (test (cond_at d.tree n)) end)
    (five : Built e t (seq (prog_at e.tree turns) (prog_at e.tree end)) i)
    (h : c < length (clauses s.tree)) where
  up_to_b : Grows s.tree b.tree
  up_to_b = grows_trans s.tree a.tree b.tree one.grows two.grows

  b_to_e : Grows b.tree e.tree
  b_to_e = grows_trans b.tree d.tree e.tree three.grows four.grows

  pub repeat_built : Built s t (while_do (cond_at s.tree c) (prog_at s.tree p)) i
  repeat_built = record {
    unmoved =
        unmoved_trans s a t one.unmoved
        (unmoved_trans a b t two.unmoved (unmoved_trans b d t three.unmoved (unmoved_trans d e t four.unmoved five.unmoved)));
    grows = grows_trans s.tree b.tree t.tree up_to_b (grows_trans b.tree e.tree t.tree b_to_e five.grows);
    there = five.there;
    is =
        five.is
        ∙ ap₂ seq (prog_stays b.tree e.tree b_to_e turns two.there ∙ (two.is ∙ ap star one.is))
        (four.is ∙ ap test (three.is ∙ ap negated (cond_stays s.tree b.tree up_to_b c h)));
  }
