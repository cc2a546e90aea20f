use Rattle.std.proofs.Common.{◌≡◌, ℕ, ◌<◌, length}
use Rattle.circuits.specs.Rounds.{rise, at}
use Rattle.circuits.specs.Weighed.{arcs_in, weight_in}
use Rattle.circuits.proofs.weighed.WeighedNet.round.Given as goal

abbrev pub invariant-loop-weighed : goal.invariant-loop-weighed
invariant-loop-weighed l = (length l.new ≡ 32) × ((j : ℕ) → j < 32 → at l.new j ≡ rise (arcs_in l.self.arcs.now) (weight_in l.self.arcs.now) (at l.old) j l.weighed-index)
