use Rattle.std.proofs.Common.{arith}
use Rattle.runs.proofs.Columns.{fill_more, cleared_all}
use Rattle.runs.proofs.net.clear.Goals as goal

pub loop-w-preserved : goal.loop-w-preserved
loop-w-preserved g c =
    let K = g.W.Weight.kind in
    fill_more K g.W.Weight.meaning c.loop-w.weights c.loop-w.w-index c.none.result (λ t. K.none) (omega (arith, c.loop-w.auto.weights, c.loop-w-test.true)) c.none.ensures c.loop-w.invariant

pub returns : goal.returns
returns g c = cleared_all g.W.Weight.kind g.W.Weight.meaning c.loop-w.weights (λ t h. c.loop-w.invariant t (omega (arith, h, c.loop-w.auto.weights, c.loop-w-test.false)))
