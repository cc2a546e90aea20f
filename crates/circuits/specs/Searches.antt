-- What the search hands on: for the private functions.
use Rattle.std.specs.Prelude.{◌≡◌, ℕ, ◌<◌, List, length, ℤ, ◌+ℤ◌, ◌≤ℤ◌}
use Rattle.circuits.specs.declared.Arc.{Arc}
use Rattle.circuits.specs.Arcs.{start_of, end_of}
use Rattle.circuits.specs.Ratios.{weight_of}
use Rattle.circuits.specs.Rounds.{at, HoldsRound}

-- values after some round, which no arc would raise
pub record SettledRow (arcs : List Arc) (w : ℕ → ℤ) (row : List ℤ) : Type 0 where
  pub round : ℕ
  pub values : HoldsRound arcs w round row
  pub holds : (a : ℕ) → a < length arcs → (at row (start_of arcs a) +ℤ w a) ≤ℤ at row (end_of arcs a)

-- the same, where each arc is weighed against the ratio of a gain to a cost
pub record SettledAgainst (arcs : List Arc) (gain cost : ℤ) (row : List ℤ) : Type 0 where
  pub weight : ℕ → ℤ
  pub weighs : (a : ℕ) → a < length arcs → weight a ≡ weight_of arcs gain cost a
  pub settled : SettledRow arcs weight row
