use Rattle.std.proofs.Common.{length}
use Rattle.script.specs.Lines.{lines}
use Rattle.planner.proofs.Script.read.Given as goal

abbrev pub decreases-loop-line : goal.decreases-loop-line
decreases-loop-line l = length (lines l.rest)
