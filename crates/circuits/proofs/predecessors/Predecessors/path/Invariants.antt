use Rattle.std.proofs.Common.{◌≡◌, ◌<◌, length, reverse}
use Rattle.circuits.specs.Walks.{IsChain}
use Rattle.circuits.specs.Weighed.{arcs_in}
use Rattle.circuits.proofs.Walks.{BeginsAt}
use Rattle.circuits.proofs.predecessors.Predecessors.path.Given as goal

abbrev pub invariant-loop-walked : goal.invariant-loop-walked
invariant-loop-walked l = record {
  event : l.event < 32;
  len : length l.path.items ≡ l.walked;
  chain : IsChain (arcs_in l.self.net.arcs.now) (reverse l.path.items);
  begins : BeginsAt (arcs_in l.self.net.arcs.now) (reverse l.path.items) l.event;
}
