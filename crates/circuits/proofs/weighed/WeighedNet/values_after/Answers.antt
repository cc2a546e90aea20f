use Rattle.std.proofs.Common.{pos, sym, ◌∙◌, arith, rules}
use Rattle.std.proofs.lemmas.List.{get_or-replicate}
use Rattle.circuits.specs.Weighed.{arcs_in, weight_in}
use Rattle.circuits.proofs.Rises.{value_none, row_roomy, row_more}
use Rattle.circuits.proofs.WeighedLists.{below_all, net_fits, round_rises}
use Rattle.circuits.proofs.weighed.WeighedNet.values_after.Goals as goal

pub loop-done-init : goal.loop-done-init
loop-done-init c = (search rules, λ j h. get_or-replicate 32 j (pos 0) (pos 0) h ∙ sym (value_none _ _ j))

pub round-requires : goal.round-requires
round-requires c = let net = c.args.self.now in row_roomy (arcs_in net.arcs.now) (weight_in net.arcs.now) c.loop-done.done c.loop-done.values (omega (arith, c.requires)) c.loop-done.invariant.0 (net_fits net) c.loop-done.invariant.1

pub loop-done-preserved : goal.loop-done-preserved
loop-done-preserved c =
    let net = c.args.self.now in
    (search rules, row_more (arcs_in net.arcs.now) (weight_in net.arcs.now) c.loop-done.done c.loop-done.values _ (below_all net) c.loop-done.invariant.1 (round_rises c.round.result net c.loop-done.values c.round.ensures.net c.round.ensures.old))
