use Rattle.std.proofs.Common.{◌≡◌, length}
use Rattle.circuits.specs.Rounds.{HoldsRound}
use Rattle.circuits.specs.Walks.{IsRaised}
use Rattle.circuits.specs.Weighed.{arcs_in, weight_in}
use Rattle.circuits.proofs.weighed.WeighedNet.settle.Given as goal

abbrev pub invariant-loop-done : goal.invariant-loop-done
invariant-loop-done l = record {
  len : length l.values ≡ 32;
  held : HoldsRound (arcs_in l.self.arcs.now) (weight_in l.self.arcs.now) l.done l.values;
  raised : IsRaised (arcs_in l.self.arcs.now) (weight_in l.self.arcs.now) l.done l.predecessors.last;
  net : l.predecessors.net ≡ l.self;
}
