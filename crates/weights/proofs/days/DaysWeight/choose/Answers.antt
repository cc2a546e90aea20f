use Rattle.std.proofs.Common.{rules}
use lib.Bits.{or_lt}
use Rattle.weights.proofs.Masks.{days_or}
use Rattle.weights.proofs.days.DaysWeight.choose.Goals as goal

pub invariant_of-result : goal.invariant_of-result
invariant_of-result c = search (rules, or_lt 7)

pub returns : goal.returns
returns c = search (rules, days_or)
