use Rattle.std.proofs.Common.{◌≡◌, ℕ, ℤ, ◌≤◌, ◌*◌, take, nat_abs}
use Rattle.circuits.specs.Arcs.{sum}
use Rattle.circuits.proofs.numbers.Circuit.sum_along.Given as goal

abbrev pub invariant-loop-arc : goal.invariant-loop-arc
invariant-loop-arc g l = record {
  sums : (f : ℕ → ℤ) → ((a : ℕ) (x : ℤ) → goal.F-post g l.number a x → x ≡ f a) → l.total ≡ sum f (take l.arc-index l.arc-items);
  small : nat_abs l.total ≤ l.arc-index * 1099511627776;
}
