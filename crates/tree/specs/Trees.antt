-- Conditions and programs that stand in tables, each part below the whole.
use Rattle.std.specs.Prelude.{◌≡◌, ℕ, zero, suc, ◌<◌, Bool, true, ◌&&◌, List, length, nat_lt, slice_index_or}
use Rattle.golog.specs.Programs.{Cond, Prog}
use Rattle.golog.specs.Programs.Cond.{always, never, fact, negated, both, any}
use Rattle.golog.specs.Programs.Prog.{act, test, seq, alt, star}
use Rattle.tree.specs.declared.node.Clause.{Clause}
use Rattle.tree.specs.declared.node.Clause.TheVariants.{True, False, Fact, Not, And, Or}
use Rattle.tree.specs.declared.node.Node.{Node}
use Rattle.tree.specs.declared.node.Node.TheVariants.{Act, Test, Seq, Alt, Star}

-- the condition of an entry, where its parts have the conditions that `at` gives
abbrev pub cond_node : (ℕ → Cond) → Clause → Cond
cond_node at True = always
cond_node at False = never
cond_node at (Fact i) = fact i
cond_node at (Not a) = negated (at a)
cond_node at (And a b) = both (at a) (at b)
cond_node at (Or a b) = any (at a) (at b)

-- the condition of the entry i, down to a depth
unfoldable pub cond_to : ℕ → List Clause → ℕ → Cond
cond_to zero cs i = always
cond_to (suc k) cs i = cond_node (cond_to k cs) (slice_index_or cs i True)

-- the parts stand lower, so the depth i + 1 reaches all of it
unfoldable pub cond_of : List Clause → ℕ → Cond
cond_of cs i = cond_to (suc i) cs i

-- the same for programs, over the conditions of their tests
abbrev pub prog_node : (ℕ → Prog) → (ℕ → Cond) → Node → Prog
prog_node at tests (Act a) = act a
prog_node at tests (Test c) = test (tests c)
prog_node at tests (Seq a b) = seq (at a) (at b)
prog_node at tests (Alt a b) = alt (at a) (at b)
prog_node at tests (Star a) = star (at a)

unfoldable pub prog_to : ℕ → List Node → List Clause → ℕ → Prog
prog_to zero ns cs i = act 0
prog_to (suc k) ns cs i = prog_node (prog_to k ns cs) (cond_of cs) (slice_index_or ns i (Act 0))

unfoldable pub prog_of : List Node → List Clause → ℕ → Prog
prog_of ns cs i = prog_to (suc i) ns cs i

-- whether the parts of an entry stand below i, and the conditions of tests below n: tests, so that a ghost field can state them
abbrev pub cond_lower : ℕ → Clause → Bool
cond_lower i True = true
cond_lower i False = true
cond_lower i (Fact f) = true
cond_lower i (Not a) = nat_lt a i
cond_lower i (And a b) = nat_lt a i && nat_lt b i
cond_lower i (Or a b) = nat_lt a i && nat_lt b i

abbrev pub prog_lower : ℕ → ℕ → Node → Bool
prog_lower n i (Act a) = true
prog_lower n i (Test c) = nat_lt c n
prog_lower n i (Seq a b) = nat_lt a i && nat_lt b i
prog_lower n i (Alt a b) = nat_lt a i && nat_lt b i
prog_lower n i (Star a) = nat_lt a i

abbrev pub CondFalls : List Clause → Type 0
CondFalls cs = (i : ℕ) → i < length cs → cond_lower i (slice_index_or cs i True) ≡ true

abbrev pub ProgFalls : ℕ → List Node → Type 0
ProgFalls n ns = (i : ℕ) → i < length ns → prog_lower n i (slice_index_or ns i (Act 0)) ≡ true
