-- The potentials of the events at a price of each unit of cost, and what they are in the table of runs in Seconds.
use Rattle.std.specs.Prelude.{◌≡◌, ℕ, zero, suc, ◌<◌, List, length, ℤ, pos, ◌+ℤ◌, ◌-ℤ◌, ◌*ℤ◌, ◌≤ℤ◌, ◌<ℤ◌, Ok, Err, Result, Option, Some, None}
use Rattle.weights.specs.SecondsKind.{larger, seconds_kind}
use Rattle.runs.specs.Nets.{Net}
use Rattle.runs.specs.Runs.{cell}
use Rattle.circuits.specs.declared.Arc.{Arc}
use Rattle.circuits.specs.declared.WeighedCircuit.{WeighedCircuit}
use Rattle.circuits.specs.Arcs.{start_of, end_of, gain_of, cost_of, arcs_net, sum, numbers_of, BeginsLowest}
use Rattle.circuits.specs.Rounds.{at}
use Rattle.circuits.specs.Walks.{NoneGains}
use Rattle.circuits.specs.Ratios.{OwnSums}

-- what an arc weighs at a price: its gain less the price of its cost
abbrev pub weight_at : List Arc → ℕ → ℕ → ℤ
weight_at arcs price a = gain_of arcs a -ℤ (cost_of arcs a *ℤ pos price)

-- the largest of the numbers below n of a function, none for n = 0
abbrev pub largest_below : (ℕ → Option ℤ) → ℕ → Option ℤ
largest_below f zero = None
largest_below f (suc n) = larger (f n) (largest_below f n)

-- the largest cell (i, j) over all events i below n, of the table of runs in Seconds
abbrev pub largest_cell : Net → (ℕ → ℤ) → ℕ → ℕ → Option ℤ
largest_cell net w n j = largest_below (λ i. cell seconds_kind net (λ a. Some (w a)) n i j) n

-- numbers for the events below n, none of them negative, that no arc would raise
pub record Holds (n : ℕ) (arcs : List Arc) (w v : ℕ → ℤ) : Type 0 where
  pub low : (j : ℕ) → j < n → pos 0 ≤ℤ v j
  pub holds : (a : ℕ) → a < length arcs → (v (start_of arcs a) +ℤ w a) ≤ℤ v (end_of arcs a)

-- no circuit gains; each event's number is the largest cell over all runs that end there; the numbers hold, and are the least that do
pub record ArePotentials (n : ℕ) (arcs : List Arc) (w : ℕ → ℤ) (row : List ℤ) : Type 0 where
  pub none_gains : NoneGains arcs w
  pub cells : (j : ℕ) → j < n → Some (at row j) ≡ largest_cell (arcs_net arcs) w n j
  pub hold : Holds n arcs w (at row)
  pub least : (v : ℕ → ℤ) → Holds n arcs w v → (j : ℕ) → j < n → at row j ≤ℤ v j

-- a circuit of the arcs with its own sums, that weighs more than 0 and begins at its arc of the lowest number
pub record ShownGaining (arcs : List Arc) (w : ℕ → ℤ) (x : WeighedCircuit) : Type 0 where
  pub own : OwnSums arcs x
  pub gains : pos 0 <ℤ sum w (numbers_of x.circuit)
  pub lowest : BeginsLowest (numbers_of x.circuit)

-- the answer on potentials: they are shown exactly where no circuit gains, and else a circuit that does
abbrev pub Settles : ℕ → List Arc → (ℕ → ℤ) → Result (List ℤ) WeighedCircuit → Type 0
Settles n arcs w (Ok row) = ArePotentials n arcs w row
Settles n arcs w (Err x) = ShownGaining arcs w x
