use Rattle.std.proofs.Common.{◌≡◌, ℕ, ◌<◌}
use Rattle.runs.specs.Links.{at}
use Rattle.runs.proofs.net.clear.Given as goal

abbrev pub invariant-loop-w : goal.invariant-loop-w
invariant-loop-w g l = (t : ℕ) → t < l.w-index → at g.W.Weight.kind g.W.Weight.meaning l.weights t ≡ g.W.Weight.kind.none
