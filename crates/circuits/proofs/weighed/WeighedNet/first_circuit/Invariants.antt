use Rattle.circuits.specs.Walks.{OpenUpTo}
use Rattle.circuits.specs.Weighed.{arcs_in}
use Rattle.circuits.proofs.weighed.WeighedNet.first_circuit.Given as goal

abbrev pub invariant-loop-last : goal.invariant-loop-last
invariant-loop-last l = OpenUpTo (arcs_in l.self.arcs.now) l.path l.last
