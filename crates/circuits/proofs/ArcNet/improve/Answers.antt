use Rattle.std.proofs.Common.{pos, ◌<ℤ◌, ap, arith, w64, of_z}
use Rattle.circuits.specs.Arcs.{ArcsFit}
use Rattle.circuits.specs.Holding.{arcs_of}
use Rattle.circuits.specs.Ratios.{BetterCircuit}
use Rattle.circuits.proofs.Nets.{ranges_fit}
use Rattle.circuits.proofs.Ratios.{best_fits, best_falls, best_last, cost_above, own_fair, back, none_better, row_none_gains}
use Rattle.circuits.proofs.ArcNet.improve.Goals as goal

pub invariant_of-ratio : goal.invariant_of-ratio
invariant_of-ratio c =
    let net = c.args.self.now in
    let t = best_fits (arcs_of net) (ranges_fit net.events (arcs_of net) net.ranges) c.rising.best _ _ c.rising.invariant in
    record { gain_small = t.0; cost_small = t.1 }

pub rising-smaller : goal.rising-smaller
rising-smaller c =
    let net = c.args.self.now in
    let A = arcs_of net in
    let small : ArcsFit A = ranges_fit net.events A net.ranges in
    let x = c.in-Err.circuit in
    let better : BetterCircuit A _ _ x = c.in-Err.ensures in
    best_falls A small c.rising.best _ _ x (cost_above A small x better.own (λ e. c.if-circuit-eq0.false (ap (of_z w64) e))) c.rising.invariant better

pub rising-preserved : goal.rising-preserved
rising-preserved c =
    let net = c.args.self.now in
    let A = arcs_of net in
    let small : ArcsFit A = ranges_fit net.events A net.ranges in
    let x = c.in-Err.circuit in
    let better : BetterCircuit A _ _ x = c.in-Err.ensures in
    let some : pos 0 <ℤ x.cost = cost_above A small x better.own (λ e. c.if-circuit-eq0.false (ap (of_z w64) e)) in
    let fits = own_fair A x small some better.own in
    (better.own, back x.gain fits.gain_small, back x.cost (omega (arith, fits.cost_small)), some)

pub returns-in_default : goal.returns-in_default
returns-in_default c =
    let net = c.args.self.now in
    let A = arcs_of net in
    let s = rw c.in_default.is at c.search_against.ensures in
    best_last A (ranges_fit net.events A net.ranges) c.rising.best _ _ c.rising.invariant (none_better A _ _ s.weight s.weighs (row_none_gains A s.weight _ s.settled))
