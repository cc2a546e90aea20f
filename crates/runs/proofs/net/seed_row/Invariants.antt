use Rattle.std.proofs.Common.{◌≡◌, ℕ, ◌<◌}
use Rattle.runs.specs.Links.{at}
use Rattle.runs.specs.Rounds.{seed}
use Rattle.runs.proofs.net.seed_row.Given as goal

abbrev pub invariant-loop-j : goal.invariant-loop-j
invariant-loop-j g l = (t : ℕ) → t < l.j → at g.W.Weight.kind g.W.Weight.meaning l.row t ≡ seed g.W.Weight.kind l.i t
