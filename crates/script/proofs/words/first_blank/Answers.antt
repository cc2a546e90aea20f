use Rattle.std.proofs.Common.{sym, arith}
use Rattle.script.specs.Words.{is_blank}
use Rattle.script.proofs.FirstLines.{first_passing, none_passing}
use Rattle.script.proofs.words.first_blank.Goals as goal

pub returns-then-is_blank : goal.returns-then-is_blank
returns-then-is_blank c = first_passing is_blank c.args.text.now c.loop-i.i (omega arith) c.loop-i.invariant (sym c.if-is_blank.ensures)

pub returns : goal.returns
returns c = none_passing is_blank c.args.text.now c.loop-i.i (omega arith) c.loop-i.invariant
