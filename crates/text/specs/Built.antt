-- What is added to the tree.
use Rattle.std.specs.Prelude.{◌≡◌, ℕ, ◌<◌, ◌⊎◌, List, ◌++◌, length}
use Rattle.std.proofs.Math.Option.{Option, none}
use Rattle.golog.specs.Programs.{Cond, Prog}
use Rattle.tree.specs.declared.tree.Tree.{Tree}
use Rattle.tree.specs.Held.{clauses, nodes, cond_at, prog_at}
use Rattle.text.specs.declared.fault.TextFault.{TextFault}
use Rattle.text.specs.declared.fault.TextFault.TheVariants.{Unknown, Memory}
use Rattle.text.specs.declared.reader.Reader.{Reader}
use Rattle.text.specs.Rest.{rest}

-- a tree keeps what it had
abbrev pub Longer : {X : Type 0} → List X → List X → Type 0
Longer {X} xs ys = (more : List X) × (ys ≡ xs ++ more)

abbrev pub Grows : Tree → Tree → Type 0
Grows t u = Longer (clauses t) (clauses u) × Longer (nodes t) (nodes u)

-- no word was taken
pub record Unmoved (s t : Reader) : Type 0 where
  pub rests : rest t ≡ rest s
  pub counts : t.taken ≡ s.taken
  pub acts : t.acts ≡ s.acts

pub record BuiltCond (s t : Reader) (c : Cond) (i : ℕ) : Type 0 where
  pub unmoved : Unmoved s t
  pub grows : Grows s.tree t.tree
  pub there : i < length (clauses t.tree)
  pub is : cond_at t.tree i ≡ c

pub record Built (s t : Reader) (p : Prog) (i : ℕ) : Type 0 where
  pub unmoved : Unmoved s t
  pub grows : Grows s.tree t.tree
  pub there : i < length (nodes t.tree)
  pub is : prog_at t.tree i ≡ p

-- why a name has no number
abbrev pub Nameless : Option ℕ → ℕ → TextFault → Type 0
Nameless n at f = (f ≡ Memory) ⊎ ((f ≡ Unknown at) × (n ≡ none))
