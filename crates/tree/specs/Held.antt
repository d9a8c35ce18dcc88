-- What a tree holds.
use Rattle.std.specs.Prelude.{ℕ, List, vec_items}
use Rattle.golog.specs.Programs.{Cond, Prog}
use Rattle.tree.specs.Trees.{cond_of, prog_of}
use Rattle.tree.specs.declared.node.Clause.{Clause}
use Rattle.tree.specs.declared.node.Node.{Node}
use Rattle.tree.specs.declared.tree.Tree.{Tree}

abbrev pub clauses : Tree → List Clause
clauses t = vec_items t.clauses

abbrev pub nodes : Tree → List Node
nodes t = vec_items t.nodes

-- the condition and the program of an entry
abbrev pub cond_at : Tree → ℕ → Cond
cond_at t i = cond_of (clauses t) i

abbrev pub prog_at : Tree → ℕ → Prog
prog_at t i = prog_of (nodes t) (clauses t) i
