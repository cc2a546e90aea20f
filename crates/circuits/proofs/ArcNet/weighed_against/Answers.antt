use Rattle.std.proofs.Common.{rules, subst, sym, refl}
use Rattle.circuits.specs.Weighed.{AreWeighed}
use Rattle.circuits.proofs.WeighedLists.{weighed_more}
use Rattle.circuits.proofs.ArcNet.weighed_against.Goals as goal

pub loop-arc-preserved : goal.loop-arc-preserved
loop-arc-preserved c = subst (AreWeighed _ _ _ _) (sym c.push.ensures.items) (weighed_more _ _ _ _ _ _ c.loop-arc-test.true refl (search rules) (search rules) c.loop-arc.invariant)
