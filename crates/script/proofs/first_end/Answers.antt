use Rattle.std.proofs.Common.{arith}
use Rattle.std.proofs.lemmas.Bool.{eq-eqb}
use Rattle.script.specs.Lines.{ends_line}
use Rattle.script.proofs.FirstLines.{first_passing, none_passing}
use Rattle.script.proofs.first_end.Goals as goal

pub returns-then-byte-eq10 : goal.returns-then-byte-eq10
returns-then-byte-eq10 c = first_passing ends_line c.args.script.now c.loop-i.i (omega arith) c.loop-i.invariant (eq-eqb _ 10 c.if-byte-eq10.true)

pub returns : goal.returns
returns c = none_passing ends_line c.args.script.now c.loop-i.i (omega arith) c.loop-i.invariant
