use Rattle.std.proofs.Common.{◌≡◌, ℕ, ◌-◌, ◌<◌, ◌≤◌, length, get_or}
use Rattle.std.specs.Int.{bit_at}
use Rattle.runs.specs.Links.{no_link, net_of, at}
use Rattle.runs.specs.Rounds.{Brought, Grown}
use Rattle.runs.proofs.net.Reached.extend_from.Given as goal

abbrev pub invariant-loop-next : goal.invariant-loop-next
invariant-loop-next g l =
    let K = g.W.Weight.kind in
    let m = g.W.Weight.meaning in
    let net = l.self.net.now in
    let w = at K m net.weights.now in
    let x = at K m l.self.weights.now in
    record {
      place : 0 < l.next → (get_or net.links.now (l.next - 1) no_link).from ≡ l.from;
      inside : l.next ≤ length net.links.now;
      grown : Grown K (net_of net.links.now) w x (at K m l.initial.row) (at K m l.row);
      brought : (k : ℕ) → l.next ≤ k → k < length net.links.now → (net_of net.links.now).from k ≡ l.from → Brought K (net_of net.links.now) w x (at K m l.row) k;
      kept : (j : ℕ) → bit_at l.changed.0 j ≡ 0 → (bit_at l.initial.changed.0 j ≡ 0) × (at K m l.row j ≡ at K m l.initial.row j);
    }

abbrev pub decreases-loop-next : goal.decreases-loop-next
decreases-loop-next g l = l.next
