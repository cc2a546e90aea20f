use Rattle.circuits.specs.Holding.{arcs_of}
use Rattle.circuits.proofs.Ratios.{BestSoFar, left}
use Rattle.circuits.proofs.ArcNet.improve.Given as goal

abbrev pub invariant-rising : goal.invariant-rising
invariant-rising l = BestSoFar (arcs_of l.self) l.best l.ratio.0 l.ratio.1.0

abbrev pub decreases-rising : goal.decreases-rising
decreases-rising l = left l.best
