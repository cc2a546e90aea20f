use Rattle.std.proofs.Common.{ℕ, ◌+◌, pos, sym, ◌∙◌, subst, arith, rules}
use Rattle.std.proofs.lemmas.List.{get_or-replicate}
use Rattle.circuits.specs.Rounds.{HoldsRound, HoldsRise}
use Rattle.circuits.specs.Walks.{IsRaised}
use Rattle.circuits.specs.Weighed.{arcs_in, weight_in}
use Rattle.circuits.proofs.Rises.{value_none, row_roomy, row_more, settled_holds, raised_more_event}
use Rattle.circuits.proofs.WeighedLists.{below_all, net_fits, round_rises}
use Rattle.circuits.proofs.weighed.WeighedNet.settle.Goals as goal

pub loop-done-init : goal.loop-done-init
loop-done-init c = record {
  len = search rules;
  held = λ j h. get_or-replicate 32 j (pos 0) (pos 0) h ∙ sym (value_none _ _ j);
  raised = λ q e. absurd (omega arith);
  net = search rules;
}

pub round-round-requires : goal.round-round-requires
round-round-requires c =
    let net = c.args.self.now in
    let few = net.few in
    row_roomy (arcs_in net.arcs.now) (weight_in net.arcs.now) c.loop-done.done c.loop-done.values (omega arith) c.loop-done.invariant.len (net_fits net) c.loop-done.invariant.held

pub returns-in_default : goal.returns-in_default
returns-in_default c =
    let net = c.args.self.now in
    let r = c.round-round.result in
    let values = c.loop-done.values in
    let rises : HoldsRise (arcs_in net.arcs.now) (weight_in net.arcs.now) values r.new = round_rises r net values c.round-round.ensures.net c.round-round.ensures.old in
    record {
      round = c.loop-done.done;
      values = c.loop-done.invariant.held;
      holds = settled_holds (arcs_in net.arcs.now) (weight_in net.arcs.now) values r.new (below_all net) rises (rw c.round-round.ensures.old at c.in_default.ensures);
    }

pub loop-done-preserved : goal.loop-done-preserved
loop-done-preserved c =
    let net = c.args.self.now in
    let A = arcs_in net.arcs.now in
    let w = weight_in net.arcs.now in
    let r = c.round-round.result in
    let values = c.loop-done.values in
    let k : ℕ = c.loop-done.done in
    let rises : HoldsRise A w values r.new = round_rises r net values c.round-round.ensures.net c.round-round.ensures.old in
    let row : HoldsRound A w (k + 1) r.new = row_more A w k values r.new (below_all net) c.loop-done.invariant.held rises in
    let up = rw c.round-round.ensures.old at c.in-Some.ensures in
    record {
      len = search rules;
      held = row;
      raised = subst (IsRaised A w (k + 1)) (sym c.note.ensures.last) (raised_more_event A w k c.in-Some.event values r.new up.0 c.loop-done.invariant.held row up.1);
      net = c.note.ensures.net ∙ c.loop-done.invariant.net;
    }
