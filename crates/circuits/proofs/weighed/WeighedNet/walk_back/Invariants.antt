use Rattle.std.proofs.Common.{◌≡◌, ◌+◌, ◌<◌, length, reverse}
use Rattle.circuits.specs.Walks.{WalksBack, IsRaised}
use Rattle.circuits.specs.Weighed.{arcs_in, weight_in}
use Rattle.circuits.proofs.Walks.{BeginsAt}
use Rattle.circuits.proofs.weighed.WeighedNet.walk_back.Given as goal

abbrev pub invariant-loop-rounds : goal.invariant-loop-rounds
invariant-loop-rounds l = record {
  event : l.event < 32;
  len : length l.path.items + l.rounds ≡ l.self.events;
  raised : IsRaised (arcs_in l.self.arcs.now) (weight_in l.self.arcs.now) l.rounds l.event;
  walk : WalksBack (arcs_in l.self.arcs.now) (weight_in l.self.arcs.now) l.rounds (reverse l.path.items);
  begins : BeginsAt (arcs_in l.self.arcs.now) (reverse l.path.items) l.event;
}
