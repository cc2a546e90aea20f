use Rattle.std.proofs.Common.{◌≡◌}
use Rattle.circuits.proofs.predecessors.Predecessors.note.Given as goal

abbrev pub invariant-loop-number : goal.invariant-loop-number
invariant-loop-number l = record {
  net : l.self.net ≡ l.fn.self.net;
  last : l.self.last ≡ l.raised;
}
