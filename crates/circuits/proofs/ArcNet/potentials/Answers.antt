use Rattle.std.proofs.Common.{◌≡◌, List, ℤ, Result, MatchResult, pos, ◌<ℤ◌, sym, ◌∙◌, subst, arith, w64, to_z, of_z, rules}
use Rattle.std.proofs.lemmas.Int.{ints}
use Rattle.circuits.specs.declared.WeighedCircuit.{WeighedCircuit}
use Rattle.circuits.specs.Holding.{arcs_of}
use Rattle.circuits.specs.Potentials.{weight_at, Settles}
use Rattle.circuits.specs.Ratios.{BetterCircuit}
use Rattle.circuits.specs.Searches.{SettledAgainst}
use Rattle.circuits.specs.Turns.{ShownTurned}
use Rattle.circuits.proofs.Nets.{events_range, ranges_below, still_own, still_sum}
use Rattle.circuits.proofs.Outcomes.{mapped_err}
use Rattle.circuits.proofs.Potentials.{are_potentials, weight_at_is, gains_at}
use Rattle.circuits.proofs.Ratios.{back}
use Rattle.circuits.proofs.ArcNet.potentials.Goals as goal

pub returns : goal.returns
returns c =
    let net = c.args.self.now in
    let A = arcs_of net in
    let range = events_range net.events net.size in
    let price = c.ranges.price.fits in
    let gain : to_z w64 (of_z w64 c.from.result) ≡ pos c.args.price = back c.from.result (omega (arith, ints, c.from.ensures)) ∙ c.from.ensures in
    mapped_err c.search_against.result c.map_err.result _ (λ (r : Result (List ℤ) WeighedCircuit). MatchResult r (SettledAgainst A (pos c.args.price) (pos 1)) (BetterCircuit A (pos c.args.price) (pos 1))) (Settles net.events A (weight_at A c.args.price))
    (subst (λ g. MatchResult c.search_against.result (SettledAgainst A g (pos 1)) (BetterCircuit A g (pos 1))) gain c.search_against.ensures) c.map_err.ensures.cases
    (λ values s. are_potentials net.events A range.1 (ranges_below net.events A net.ranges) s.weight (weight_at A c.args.price) values (λ a h. s.weighs a h ∙ weight_at_is A c.args.price a) s.settled)
    (λ x y post better.
    let turned : ShownTurned x y = search rules in
    record {
      own = still_own A x y turned better.own;
      gains = subst (λ u. pos 0 <ℤ u) (sym (still_sum A x.circuit y.circuit turned.turned (weight_at A c.args.price))) (gains_at A c.args.price x better.own better.above);
      lowest = turned.turned.lowest;
    })
