use Rattle.circuits.specs.Weighed.{AreWeighed}
use Rattle.circuits.proofs.ArcNet.weighed_against.Given as goal

abbrev pub invariant-loop-arc : goal.invariant-loop-arc
invariant-loop-arc l = AreWeighed l.arc-items l.ratio.gain l.ratio.cost l.arc-index l.weighed.items
