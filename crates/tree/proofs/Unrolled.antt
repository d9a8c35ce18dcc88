-- What an entry stands for, one level unrolled, and in a table that grows.
use Rattle.std.proofs.Common.{◌≡◌, ℕ, zero, suc, ◌<◌, true, ltb, List, ◌++◌, length, get_or, refl, ap, ◌∙◌, ap₂, arith, ltb-true}
use Rattle.std.proofs.lemmas.List.{get_or_append_left}
use Rattle.std.proofs.lemmas.Bool.{and_parts}
use Rattle.golog.specs.Programs.{Cond, Prog}
use Rattle.golog.specs.Programs.Cond.{negated, both, any}
use Rattle.golog.specs.Programs.Prog.{test, seq, alt, star}
use Rattle.tree.specs.declared.node.Clause.{Clause}
use Rattle.tree.specs.declared.node.Clause.TheVariants.{True, False, Fact, Not, And, Or}
use Rattle.tree.specs.declared.node.Node.{Node}
use Rattle.tree.specs.declared.node.Node.TheVariants.{Act, Test, Seq, Alt, Star}
use Rattle.tree.specs.Trees.{cond_node, cond_to, cond_of, prog_node, prog_to, prog_of, cond_lower, prog_lower, CondFalls, ProgFalls}

-- an entry does not depend on what stands at its place or above
pub cond_agree : (f g : ℕ → Cond) (i : ℕ) (c : Clause) → cond_lower i c ≡ true → ((a : ℕ) → a < i → f a ≡ g a) → cond_node f c ≡ cond_node g c
cond_agree f g i True h e = refl
cond_agree f g i False h e = refl
cond_agree f g i (Fact x) h e = refl
cond_agree f g i (Not a) h e = ap negated (e a (ltb-true a i h))
cond_agree f g i (And a b) h e =
    let p = and_parts (ltb a i) (ltb b i) h in ap₂ both (e a (ltb-true a i p.0)) (e b (ltb-true b i p.1))
cond_agree f g i (Or a b) h e =
    let p = and_parts (ltb a i) (ltb b i) h in ap₂ any (e a (ltb-true a i p.0)) (e b (ltb-true b i p.1))

pub prog_agree : (f g : ℕ → Prog) (t u : ℕ → Cond) (n i : ℕ) (x : Node) → prog_lower n i x ≡ true →
    ((a : ℕ) → a < i → f a ≡ g a) → ((c : ℕ) → c < n → t c ≡ u c) → prog_node f t x ≡ prog_node g u x
prog_agree f g t u n i (Act a) h e k = refl
prog_agree f g t u n i (Test c) h e k = ap test (k c (ltb-true c n h))
prog_agree f g t u n i (Seq a b) h e k =
    let p = and_parts (ltb a i) (ltb b i) h in ap₂ seq (e a (ltb-true a i p.0)) (e b (ltb-true b i p.1))
prog_agree f g t u n i (Alt a b) h e k =
    let p = and_parts (ltb a i) (ltb b i) h in ap₂ alt (e a (ltb-true a i p.0)) (e b (ltb-true b i p.1))
prog_agree f g t u n i (Star a) h e k = ap star (e a (ltb-true a i h))

-- any depth above an entry's place gives the same
cond_deep : (cs : List Clause) → CondFalls cs → (k j i : ℕ) → i < length cs → i < k → i < j → cond_to k cs i ≡ cond_to j cs i
unfolding cond_to
cond_deep cs falls zero j i within p q = let z : ⊥ = omega arith in absurd z
cond_deep cs falls (suc k) zero i within p q = let z : ⊥ = omega arith in absurd z
cond_deep cs falls (suc k) (suc j) i within p q =
    cond_agree (cond_to k cs) (cond_to j cs) i (get_or cs i True) (falls i within)
    (λ a h. cond_deep cs falls k j a (omega arith) (omega arith) (omega arith))

pub cond_unrolled : (cs : List Clause) → CondFalls cs → (i : ℕ) → i < length cs → cond_of cs i ≡ cond_node (cond_of cs) (get_or cs i True)
unfolding cond_to cond_of
cond_unrolled cs falls i within =
    cond_agree (cond_to i cs) (λ a. cond_to (suc a) cs a) i (get_or cs i True) (falls i within)
    (λ a h. cond_deep cs falls i (suc a) a (omega arith) h (omega arith))

prog_deep : (n : ℕ) (ns : List Node) (cs : List Clause) → ProgFalls n ns → (k j i : ℕ) → i < length ns → i < k → i < j → prog_to k ns cs i ≡ prog_to j ns cs i
unfolding prog_to
prog_deep n ns cs falls zero j i within p q = let z : ⊥ = omega arith in absurd z
prog_deep n ns cs falls (suc k) zero i within p q = let z : ⊥ = omega arith in absurd z
prog_deep n ns cs falls (suc k) (suc j) i within p q =
    prog_agree (prog_to k ns cs) (prog_to j ns cs) _ _ n i (get_or ns i (Act 0)) (falls i within)
    (λ a h. prog_deep n ns cs falls k j a (omega arith) (omega arith) (omega arith)) (λ c h. refl)

pub prog_unrolled : (n : ℕ) (ns : List Node) (cs : List Clause) → ProgFalls n ns → (i : ℕ) → i < length ns →
    prog_of ns cs i ≡ prog_node (prog_of ns cs) (cond_of cs) (get_or ns i (Act 0))
unfolding prog_to prog_of
prog_unrolled n ns cs falls i within =
    prog_agree (prog_to i ns cs) (λ a. prog_to (suc a) ns cs a) _ _ n i (get_or ns i (Act 0)) (falls i within)
    (λ a h. prog_deep n ns cs falls i (suc a) a (omega arith) h (omega arith)) (λ c h. refl)

-- an entry stands for the same in a longer table
cond_to_kept : (cs more : List Clause) → CondFalls cs → (k i : ℕ) → i < length cs → cond_to k (cs ++ more) i ≡ cond_to k cs i
unfolding cond_to
cond_to_kept cs more falls zero i h = refl
cond_to_kept cs more falls (suc k) i h =
    ap (cond_node (cond_to k (cs ++ more))) (get_or_append_left cs more True i h)
    ∙ cond_agree (cond_to k (cs ++ more)) (cond_to k cs) i (get_or cs i True) (falls i h) (λ a l. cond_to_kept cs more falls k a (omega arith))

pub cond_kept : (cs more : List Clause) → CondFalls cs → (i : ℕ) → i < length cs → cond_of (cs ++ more) i ≡ cond_of cs i
unfolding cond_of
cond_kept cs more falls i h = cond_to_kept cs more falls (suc i) i h

prog_to_kept : (ns more : List Node) (cs extra : List Clause) → CondFalls cs → ProgFalls (length cs) ns → (k i : ℕ) → i < length ns →
    prog_to k (ns ++ more) (cs ++ extra) i ≡ prog_to k ns cs i
unfolding prog_to
prog_to_kept ns more cs extra conds falls zero i h = refl
prog_to_kept ns more cs extra conds falls (suc k) i h =
    ap (prog_node (prog_to k (ns ++ more) (cs ++ extra)) (cond_of (cs ++ extra))) (get_or_append_left ns more (Act 0) i h)
    ∙ prog_agree (prog_to k (ns ++ more) (cs ++ extra)) (prog_to k ns cs) (cond_of (cs ++ extra)) (cond_of cs) (length cs) i (get_or ns i (Act 0)) (falls i h)
    (λ a l. prog_to_kept ns more cs extra conds falls k a (omega arith)) (λ c l. cond_kept cs extra conds c l)

pub prog_kept : (ns more : List Node) (cs extra : List Clause) → CondFalls cs → ProgFalls (length cs) ns → (i : ℕ) → i < length ns →
    prog_of (ns ++ more) (cs ++ extra) i ≡ prog_of ns cs i
unfolding prog_of
prog_kept ns more cs extra conds falls i h = prog_to_kept ns more cs extra conds falls (suc i) i h
