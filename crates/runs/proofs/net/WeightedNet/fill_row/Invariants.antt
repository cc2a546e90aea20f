use Rattle.std.proofs.Common.{◌≡◌, ℕ, ◌-◌, ◌<◌}
use Rattle.std.specs.Int.{bit_at}
use Rattle.runs.specs.Runs.{cell}
use Rattle.runs.specs.Links.{net_of, at}
use Rattle.runs.proofs.net.WeightedNet.fill_row.Given as goal

abbrev pub invariant-loop : goal.invariant-loop
invariant-loop g l =
    let K = g.W.Weight.kind in
    let m = g.W.Weight.meaning in
    let net = l.self in
    let after = λ (k : ℕ). cell K (net_of net.links.now) (at K m net.weights.now) k l.i in
    record {
      before : (j : ℕ) → j < net.events → at K m l.before j ≡ after l.counter j;
      row : (j : ℕ) → j < net.events → at K m l.row j ≡ after l.counter j;
      old : (j : ℕ) → j < net.events → bit_at l.recent.0 j ≡ 0 → after l.counter j ≡ after (l.counter - 1) j;
    }
