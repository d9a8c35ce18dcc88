-- What reading a text gives.
use Rattle.std.specs.Prelude.{◌≡◌, ℕ, ◌⊎◌, List, length}
use Rattle.std.proofs.Math.Option.{some}
use Rattle.words.specs.declared.names.Names.{Names}
use Rattle.words.specs.Listed.{name_list}
use Rattle.golog.specs.Programs.{Prog}
use Rattle.golog.specs.Grammar.{TextReads}
use Rattle.golog.specs.Reading as golog
use Rattle.golog.specs.Reading.{read}
use Rattle.golog.specs.Reading.Reading.{tree, refused}
use Rattle.tree.specs.declared.tree.Tree.{Tree}
use Rattle.tree.specs.Held.{prog_at}
use Rattle.text.specs.declared.fault.TextFault.{TextFault}
use Rattle.text.specs.declared.fault.TextFault.TheVariants.{Memory}
use Rattle.text.specs.declared.parsed.Parsed.{Parsed}
use Rattle.text.specs.Faults.{said_fault}
use Rattle.text.specs.Rest.{both_names}

abbrev pub parsed_tree : Parsed → Tree
parsed_tree p = p.tree

abbrev pub parsed_prog : Parsed → Prog
parsed_prog p = prog_at p.tree p.root

-- the text is this program, by the grammar and by reading
pub record ReadAs (facts acts : Names) (text : List ℕ) (p : Parsed) : Type 0 where
  pub reads : read (both_names facts acts) text ≡ tree (parsed_prog p)
  pub grammar : TextReads (both_names facts acts) text (parsed_prog p)
  pub all_facts : p.facts ≡ length (name_list facts)
  pub all_acts : p.acts ≡ length (name_list acts)

-- the text is refused for this fault, unless memory is wanting
abbrev pub RefusedAs : Names → Names → List ℕ → TextFault → Type 0
RefusedAs facts acts text f = (f ≡ Memory) ⊎ ((g : golog.TextFault) × (said_fault f ≡ some g) × (read (both_names facts acts) text ≡ refused g))
