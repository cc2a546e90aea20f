use Rattle.std.proofs.Common.{arith}
use Rattle.runs.specs.Rounds.{seed}
use Rattle.runs.proofs.Columns.{fill_more}
use Rattle.runs.proofs.net.seed_row.Goals as goal

pub loop-j-preserved : goal.loop-j-preserved
loop-j-preserved g c = let K = g.W.Weight.kind in fill_more K g.W.Weight.meaning c.loop-j.row c.loop-j.j c.empty_run.result (seed K c.args.i) (omega (arith, c.loop-j-test.true, c.loop-j.auto.row)) c.empty_run.ensures c.loop-j.invariant
