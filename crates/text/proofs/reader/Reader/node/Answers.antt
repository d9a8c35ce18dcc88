use Rattle.std.proofs.Common.{refl}
use Rattle.text.proofs.Growing.{grows_node, node_there, node_is}
use Rattle.text.proofs.reader.Reader.node.Goals as goal

pub returns : goal.returns
returns c =
    let t = c.args.self.now.tree in
    let u = c.add_node.new.self in
    let x = c.args.node in
    let a = c.in_ok-add_node.ensures in
    record {
      unmoved = record { rests = refl; counts = refl; acts = refl };
      grows = grows_node t u x a.clauses a.nodes.2;
      there = node_there t u x _ a.nodes.0 a.nodes.2;
      is = node_is t u x _ a.nodes.0 a.nodes.1 a.clauses a.nodes.2;
    }
