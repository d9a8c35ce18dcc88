use Rattle.golog.proofs.ReadingProof.{reading_is_grammar}
use Rattle.tree.specs.Held.{prog_at}
use Rattle.text.specs.Rest.{both_names}
use Rattle.text.proofs.Texts.{read_bounds}
use Rattle.text.proofs.parsed.reading.read.Goals as goal

pub invariant_of-result : goal.invariant_of-result
invariant_of-result c =
    let w = c.in_ok-tree.ensures in
    let b = read_bounds (both_names c.args.facts.now c.args.acts.now) c.args.text.now (prog_at c.in_ok-tree.tree c.in_ok-tree.root) c.count.result c.count-2.result
    c.count.ensures c.count-2.ensures w.1 in
    record { there = w.0; of_facts = b.0; of_acts = b.1; few = b.2 }

pub returns : goal.returns
returns c =
    let w = c.in_ok-tree.ensures in
    record {
      reads = w.1;
      grammar = (reading_is_grammar (both_names c.args.facts.now c.args.acts.now) c.args.text.now (prog_at c.in_ok-tree.tree c.in_ok-tree.root)).0 w.1;
      all_facts = c.count.ensures;
      all_acts = c.count-2.ensures;
    }
