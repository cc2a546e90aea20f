use Rattle.std.proofs.Common.{rules}
use Rattle.circuits.specs.Arcs.{gain_of, cost_of}
use Rattle.circuits.specs.Holding.{arcs_of}
use Rattle.circuits.proofs.Nets.{ranges_fit}
use Rattle.circuits.proofs.Ratios.{own_sums}
use Rattle.circuits.proofs.ArcNet.with_sums.Goals as goal

pub returns-clause-own : goal.returns-clause-own
returns-clause-own c =
    let net = c.args.self.now in
    own_sums (arcs_of net) (ranges_fit net.events (arcs_of net) net.ranges) c.args.circuit c.sum_along.ensures.short _ _
    (c.sum_along.ensures.sum (gain_of (arcs_of net)) (λ a x h. search rules))
    (c.sum_along-2.ensures.sum (cost_of (arcs_of net)) (λ a x h. search rules))
    c.requires.circuit
