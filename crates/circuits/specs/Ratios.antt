-- The ratio of a circuit's gain to its cost, and the circuit whose ratio is largest.
use Rattle.std.specs.Prelude.{◌≡◌, ℕ, ◌≤◌, List, length, ℤ, pos, ◌-ℤ◌, ◌*ℤ◌, ◌≤ℤ◌, ◌<ℤ◌, Some, None, Ok, Err, Option, Result}
use Rattle.circuits.specs.declared.Arc.{Arc}
use Rattle.circuits.specs.declared.WeighedCircuit.{WeighedCircuit}
use Rattle.circuits.specs.Arcs.{gain_of, cost_of, CircuitOf, sum, numbers_of, BeginsLowest}

-- an arc weighed against the ratio of a gain to a cost
abbrev pub weight_of : List Arc → ℤ → ℤ → ℕ → ℤ
weight_of arcs gain cost a = (gain_of arcs a *ℤ cost) -ℤ (cost_of arcs a *ℤ gain)

-- a circuit of the arcs, with its own sums of gains and costs
pub record OwnSums (arcs : List Arc) (x : WeighedCircuit) : Type 0 where
  pub circuit : CircuitOf arcs (numbers_of x.circuit)
  pub short : length (numbers_of x.circuit) ≤ 32
  pub gains : x.gain ≡ sum (gain_of arcs) (numbers_of x.circuit)
  pub costs : x.cost ≡ sum (cost_of arcs) (numbers_of x.circuit)

-- a circuit whose ratio is above that of a gain to a cost
pub record BetterCircuit (arcs : List Arc) (gain cost : ℤ) (x : WeighedCircuit) : Type 0 where
  pub own : OwnSums arcs x
  pub above : (x.cost *ℤ gain) <ℤ (x.gain *ℤ cost)

-- no circuit has a ratio above that of a gain to a cost
abbrev pub NoneBetter : List Arc → ℤ → ℤ → Type 0
NoneBetter arcs gain cost = (run : List ℕ) → CircuitOf arcs run → (sum (gain_of arcs) run *ℤ cost) ≤ℤ (gain *ℤ sum (cost_of arcs) run)

-- no circuit costs anything
abbrev pub NoneCosts : List Arc → Type 0
NoneCosts arcs = (run : List ℕ) → CircuitOf arcs run → sum (cost_of arcs) run ≡ pos 0

-- a circuit with its own sums that costs something, and whose ratio of gain to cost is at least that of every other circuit that costs
-- something; a circuit that costs nothing gains nothing
pub record LargestRatio (arcs : List Arc) (x : WeighedCircuit) : Type 0 where
  pub own : OwnSums arcs x
  pub costs_some : pos 0 <ℤ x.cost
  pub largest : NoneBetter arcs x.gain x.cost

-- a circuit with its own sums that costs nothing and gains something: then no ratio is the largest
pub record GainsForNothing (arcs : List Arc) (x : WeighedCircuit) : Type 0 where
  pub own : OwnSums arcs x
  pub nothing : x.cost ≡ pos 0
  pub gains_some : pos 0 <ℤ x.gain

-- the answer on the largest ratio: none only where no circuit costs anything, else a circuit of the largest ratio, or one that gains
-- for nothing
abbrev pub Improved : List Arc → Result (Option WeighedCircuit) WeighedCircuit → Type 0
Improved arcs (Ok None) = NoneCosts arcs
Improved arcs (Ok (Some x)) = LargestRatio arcs x
Improved arcs (Err x) = GainsForNothing arcs x

-- a circuit shown begins at its arc of the lowest number
abbrev pub ShownFromLowest : WeighedCircuit → Type 0
ShownFromLowest x = BeginsLowest (numbers_of x.circuit)

-- and so does the circuit of an answer
abbrev pub AnswersFromLowest : Result (Option WeighedCircuit) WeighedCircuit → Type 0
AnswersFromLowest (Ok None) = Unit {0}
AnswersFromLowest (Ok (Some x)) = ShownFromLowest x
AnswersFromLowest (Err x) = ShownFromLowest x
