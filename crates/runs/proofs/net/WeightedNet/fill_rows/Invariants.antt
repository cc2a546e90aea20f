use Rattle.std.proofs.Common.{◌≡◌, ℕ, ◌+◌, ◌*◌, ◌<◌, None}
use Rattle.runs.specs.Runs.{cell, closed_runs}
use Rattle.runs.specs.Gaining.{lowest, some_gains}
use Rattle.runs.specs.Links.{net_of, at}
use Rattle.runs.proofs.net.WeightedNet.fill_rows.Given as goal

abbrev pub invariant-loop-i : goal.invariant-loop-i
invariant-loop-i g l =
    let K = g.W.Weight.kind in
    let m = g.W.Weight.meaning in
    let n = l.self.events in
    let net = net_of l.self.links.now in
    let w = at K m l.self.weights.now in
    record {
      cells : (r q : ℕ) → r < l.i → q < n → at K m l.cells (r * n + q) ≡ cell K net w n r q;
      none_gains : lowest (λ j. some_gains K w (closed_runs net n j)) l.i ≡ None;
    }
