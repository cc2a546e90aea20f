-- The range of the number of events.
use Rattle.std.proofs.Common.{◌≡◌, ℕ, ◌≤◌, true, arith}
use Rattle.std.proofs.lemmas.Bool.Decides.{nat_tests}
use Rattle.runs.specs.Tables.{in_range}

pub range_few : (n : ℕ) → in_range n ≡ true → n ≤ 32
range_few n e = grind (arith, nat_tests)
