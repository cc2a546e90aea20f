use Rattle.std.proofs.Common.{not, sym, ap, arith}
use Rattle.script.specs.Words.{in_word}
use Rattle.script.proofs.FirstLines.{first_passing, none_passing}
use Rattle.script.proofs.words.first_in_word.Goals as goal

pub returns-then-not-is_blank : goal.returns-then-not-is_blank
returns-then-not-is_blank c = first_passing in_word c.args.text.now c.loop-i.i (omega arith) c.loop-i.invariant (ap not (sym c.if-not-is_blank.ensures))

pub returns : goal.returns
returns c = none_passing in_word c.args.text.now c.loop-i.i (omega arith) c.loop-i.invariant
