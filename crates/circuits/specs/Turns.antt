-- A circuit turned to begin elsewhere: for the private functions.
use Rattle.std.specs.Prelude.{◌≡◌, ℕ, ◌++◌, take, drop}
use Rattle.circuits.specs.declared.numbers.Circuit.{Circuit}
use Rattle.circuits.specs.declared.WeighedCircuit.{WeighedCircuit}
use Rattle.circuits.specs.Arcs.{numbers_of, BeginsLowest}

-- the arcs of a circuit from some place on, then those before it, so that the lowest number comes first
pub record TurnsToLowest (before after : Circuit) : Type 0 where
  pub place : ℕ
  pub numbers : numbers_of after ≡ drop place (numbers_of before) ++ take place (numbers_of before)
  pub lowest : BeginsLowest (numbers_of after)

-- the same with the same sums
pub record ShownTurned (before after : WeighedCircuit) : Type 0 where
  pub turned : TurnsToLowest before.circuit after.circuit
  pub gain : after.gain ≡ before.gain
  pub cost : after.cost ≡ before.cost
