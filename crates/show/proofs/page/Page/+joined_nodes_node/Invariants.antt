use Rattle.std.proofs.Common.{◌+◌, ◌*◌}
use Rattle.show.proofs.page.Page.+joined_nodes_node.Given as goal

abbrev pub decreases-joined_nodes : goal.decreases-joined_nodes
decreases-joined_nodes l = 2 * l.depth + 1

abbrev pub decreases-node : goal.decreases-node
decreases-node l = 2 * l.depth
