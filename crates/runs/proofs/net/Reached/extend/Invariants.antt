use Rattle.std.proofs.Common.{◌≡◌, ℕ, ◌<◌, length}
use Rattle.std.specs.Int.{bit_at}
use Rattle.runs.specs.Links.{net_of, at}
use Rattle.runs.specs.Rounds.{Brought, Grown}
use Rattle.runs.proofs.net.Reached.extend.Given as goal

abbrev pub invariant-loop-from : goal.invariant-loop-from
invariant-loop-from g l =
    let K = g.W.Weight.kind in
    let m = g.W.Weight.meaning in
    let net = l.self.net.now in
    let w = at K m net.weights.now in
    let x = at K m l.self.weights.now in
    record {
      grown : Grown K (net_of net.links.now) w x (at K m l.initial.row) (at K m l.row);
      brought : (k : ℕ) → k < length net.links.now → (net_of net.links.now).from k < l.from → Brought K (net_of net.links.now) w x (at K m l.row) k;
      kept : (j : ℕ) → bit_at l.changed.0 j ≡ 0 → at K m l.row j ≡ at K m l.initial.row j;
    }
