use Rattle.std.proofs.Common.{◌≡◌, ℕ, ◌+◌, ◌≤◌, length, ap, ◌∙◌, subst, arith}
use native.Mathlib.Decide.{ℕ_discrete}
use Rattle.std.proofs.lemmas.List.{get_or-take, length-take-le}
use Rattle.circuits.specs.Arcs.{start_of, end_of}
use Rattle.circuits.specs.Walks.{nth, OpenUpTo}
use Rattle.circuits.specs.Weighed.{arcs_in}
use Rattle.circuits.proofs.Walks.{closes_once}
use Rattle.circuits.proofs.WeighedLists.{end_at, below_net}
use Rattle.circuits.proofs.weighed.WeighedNet.first_circuit.Goals as goal

pub loop-last-preserved : goal.loop-last-preserved
loop-last-preserved c =
    let xs = c.args.self.now.arcs.now in
    let path = c.args.path.now in
    let t : ℕ = c.loop-last.last in
    let next : t + 1 ≤ length path = omega arith in
    let none = rw c.in_default.is at c.meeting_arc.ensures in
    λ i s lt le same. elim (ℕ_discrete i t) [
      | yes e ↦ none s (omega (arith, length-take-le (t + 1) path next))
          (ap (start_of (arcs_in xs)) (get_or-take (t + 1) path s 0 (omega arith)) ∙ same ∙ ap (λ y. end_of (arcs_in xs) (nth path y)) e ∙ end_at xs (nth path t))
      | no ne ↦ c.loop-last.invariant i s (omega arith) le same
    ]

pub unreachable-requires : goal.unreachable-requires
unreachable-requires c =
    let net = c.args.self.now in
    let A = arcs_in net.arcs.now in
    let all : c.loop-last.last ≡ net.events = omega arith in
    closes_once A net.events c.args.path.now c.requires.whole c.requires.chain (below_net net) net.some (subst (OpenUpTo A c.args.path.now) all c.loop-last.invariant)
