use Rattle.std.proofs.Common.{arith}
use Rattle.circuits.specs.Weighed.{arcs_in}
use Rattle.circuits.proofs.Walks.{predecessors_none}
use Rattle.circuits.proofs.predecessors.Predecessors.none.Goals as goal

pub invariant_of-result : goal.invariant_of-result
invariant_of-result c = record { event = omega arith; known = predecessors_none (arcs_in c.args.net.now.arcs.now) }
