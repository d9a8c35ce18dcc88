use Rattle.std.proofs.Common.{refl}
use Rattle.text.proofs.Growing.{grows_clause, clause_there, clause_is}
use Rattle.text.proofs.reader.Reader.clause.Goals as goal

pub returns : goal.returns
returns c =
    let t = c.args.self.now.tree in
    let u = c.add_clause.new.self in
    let x = c.args.clause in
    let a = c.in_ok-add_clause.ensures in
    record {
      unmoved = record { rests = refl; counts = refl; acts = refl };
      grows = grows_clause t u x a.clauses.2 a.nodes;
      there = clause_there t u x _ a.clauses.0 a.clauses.2;
      is = clause_is t u x _ a.clauses.0 a.clauses.1 a.clauses.2 a.nodes;
    }
