use Rattle.std.proofs.Common.{◌+◌, ◌*◌}
use Rattle.show.proofs.page.Page.+clause_joined_clauses.Given as goal

abbrev pub decreases-clause : goal.decreases-clause
decreases-clause l = 2 * l.depth

abbrev pub decreases-joined_clauses : goal.decreases-joined_clauses
decreases-joined_clauses l = 2 * l.depth + 1
