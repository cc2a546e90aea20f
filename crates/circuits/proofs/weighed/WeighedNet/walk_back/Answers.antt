use Rattle.std.proofs.Common.{◌≡◌, ℕ, ◌+◌, ◌-◌, ◌<◌, [], ◌∷◌, length, reverse, get_or, ◌<ℤ◌, sym, ap, ◌∙◌, subst, arith, rules}
use Rattle.std.proofs.lemmas.Int.{ints}
use Rattle.std.proofs.lemmas.List.{reverse-append}
use Rattle.circuits.specs.declared.weighed.WeighedNet.{WeighedNet}
use Rattle.circuits.specs.Arcs.{start_of, end_of}
use Rattle.circuits.specs.Rounds.{at, HoldsRise, HoldsRound}
use Rattle.circuits.specs.Walks.{RaisesTo, RaisesIn, WalksBack, IsRaised}
use Rattle.circuits.specs.Weighed.{arcs_in, weight_in, no_weighed_arc}
use Rattle.circuits.proofs.Rises.{row_roomy, row_more}
use Rattle.circuits.proofs.Walks.{BeginsAt, raised_back, walk_more}
use Rattle.circuits.proofs.WeighedLists.{start_at, end_at, below_all, net_fits, round_rises, raises_in, some_raises, is_there}
use Rattle.circuits.proofs.weighed.WeighedNet.walk_back.Goals as goal

pub round-round-requires : goal.round-round-requires
round-round-requires c =
    let net = c.args.self.now in
    let few = net.few in
    row_roomy (arcs_in net.arcs.now) (weight_in net.arcs.now) (c.loop-rounds.rounds - 1) c.values_after.result (omega (arith, c.loop-rounds.invariant.len)) (search rules) (net_fits net) c.values_after.ensures

pub unwrap-arc-requires : goal.unwrap-arc-requires
unwrap-arc-requires c =
    let net = c.args.self.now in
    let A = arcs_in net.arcs.now in
    let w = weight_in net.arcs.now in
    let q : ℕ = c.loop-rounds.rounds - 1 in
    let e = c.loop-rounds.event in
    let r = c.round-round.result in
    let old = c.values_after.result in
    let rises : HoldsRise A w old r.new = round_rises r net old c.round-round.ensures.net c.round-round.ensures.old in
    let next : HoldsRound A w (q + 1) r.new = row_more A w q old r.new (below_all net) c.values_after.ensures rises in
    let raised = c.loop-rounds.invariant.raised q (omega arith) in
    let here = c.values_after.ensures e c.loop-rounds.invariant.event in
    let there = next e c.loop-rounds.invariant.event in
    let up : at old e <ℤ at r.new e = omega (arith, ints) in
    is_there c.raising_arc.result _ _ (some_raises r.net.arcs.now e r.old r.new r.rises c.loop-rounds.invariant.event (subst (λ o. at o e <ℤ at r.new e) (sym c.round-round.ensures.old) up)) c.raising_arc.ensures

pub loop-rounds-preserved : goal.loop-rounds-preserved
loop-rounds-preserved c =
    let net = c.args.self.now in
    let xs = net.arcs.now in
    let A = arcs_in xs in
    let w = weight_in xs in
    let q : ℕ = c.loop-rounds.rounds - 1 in
    let e = c.loop-rounds.event in
    let r = c.round-round.result in
    let old = c.values_after.result in
    let a = c.unwrap-arc.result in
    let items = c.loop-rounds.path.items in
    let few = net.few in
    let before : c.loop-rounds.rounds ≡ q + 1 = omega arith in
    let rises : HoldsRise A w old r.new = round_rises r net old c.round-round.ensures.net c.round-round.ensures.old in
    let hit : (a < length r.net.arcs.now) × RaisesTo r.old r.new e (get_or r.net.arcs.now a no_weighed_arc) = rw c.unwrap-arc.ensures at c.raising_arc.ensures in
    let hit' : (a < length xs) × RaisesTo old r.new e (get_or xs a no_weighed_arc) =
    subst (λ (n : WeighedNet). (a < length n.arcs.now) × RaisesTo old r.new e (get_or n.arcs.now a no_weighed_arc)) c.round-round.ensures.net
    (subst (λ o. (a < length r.net.arcs.now) × RaisesTo o r.new e (get_or r.net.arcs.now a no_weighed_arc)) c.round-round.ensures.old hit) in
    let step : RaisesIn A w q a = raises_in xs q e a old r.new (below_all net) c.values_after.ensures rises c.loop-rounds.invariant.event hit'.0 hit'.1 in
    let start : start_of A a ≡ c.from-event.result = start_at xs a ∙ sym c.from-event.ensures in
    let ends : end_of A a ≡ e = end_at xs a ∙ hit'.1.0 in
    let inside = net.within a no_weighed_arc hit'.0 in
    let back : reverse c.push.new.self.items ≡ a ∷ reverse items = ap reverse c.push.ensures.items ∙ reverse-append items (a ∷ []) in
    record {
      event = omega (arith, inside.0, c.from-event.ensures);
      len = omega (arith, c.push.ensures.len, c.loop-rounds.invariant.len);
      raised = subst (IsRaised A w q) start (raised_back A w q a step);
      walk = subst (WalksBack A w q) (sym back)
          (walk_more A w q a (reverse items) step (λ h. c.loop-rounds.invariant.begins h ∙ sym ends) (subst (λ y. WalksBack A w y (reverse items)) before c.loop-rounds.invariant.walk));
      begins = subst (λ ys. BeginsAt A ys c.from-event.result) (sym back) (λ h. start);
    }
