use Rattle.std.proofs.Common.{◌≡◌, ◌<◌, length, sym, ap, ◌∙◌, arith, rules}
use Rattle.circuits.specs.declared.weighed.WeighedNet.{WeighedNet}
use Rattle.circuits.specs.Arcs.{end_of}
use Rattle.circuits.specs.Weighed.{arcs_in, no_weighed_arc}
use Rattle.circuits.proofs.Walks.{predecessors_more}
use Rattle.circuits.proofs.WeighedLists.{end_at, length_arcs}
use Rattle.circuits.proofs.predecessors.Predecessors.note.Goals as goal

pub invariant_of-self-then-raises : goal.invariant_of-self-then-raises
invariant_of-self-then-raises c =
    let before = c.loop-number.self in
    let xs = before.net.arcs.now in
    let same : c.args.round.now.net.arcs.now ≡ xs = ap (λ (n : WeighedNet). n.arcs.now) (c.requires.net ∙ sym c.loop-number.invariant.net) in
    let inside : c.loop-number.number < length (arcs_in xs) = omega (arith, length_arcs xs, ap length same) in
    let within = before.net.within c.loop-number.number no_weighed_arc (omega (arith, ap length same)) in
    let few = before.net.few in
    let ends : end_of (arcs_in xs) c.loop-number.number ≡ c.from.result = ap (end_of (arcs_in xs)) (search rules) ∙ end_at xs c.loop-number.number ∙ search rules in
    let slots : length before.latest ≡ 32 = search rules in
    record {
      event = before.event;
      known = predecessors_more (arcs_in xs) before.latest c.from.result c.loop-number.number (omega (arith, slots, within.1, ends, end_at xs c.loop-number.number)) inside ends before.known;
    }
