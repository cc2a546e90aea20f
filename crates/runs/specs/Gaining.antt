-- Which runs gain: the lowest event with a closed run that does, circuits that do, and the weight that no run exceeds.
use Rattle.std.specs.Prelude.{ℕ, zero, suc, Bool, false, cond, ◌||◌, List, [], ◌∷◌, Some, None, Option}
use Rattle.weights.specs.Kinds.{Kind, AtMost, Gains, gains}
use Rattle.runs.specs.Nets.{Net, IsRun, IsCircuit}
use Rattle.runs.specs.Runs.{weigh, closed_runs}

-- whether some run of a list gains
abbrev pub some_gains : (K : Kind) → (ℕ → K.carrier) → List (List ℕ) → Bool
some_gains K w [] = false
some_gains K w (run ∷ runs) = gains K (weigh K w run) || some_gains K w runs

-- the first found, or else the second if it passes
abbrev pub found_or : Option ℕ → Bool → ℕ → Option ℕ
found_or (Some j) passes n = Some j
found_or None passes n = cond passes (Some n) None

-- the lowest number below n that passes a test
abbrev pub lowest : (ℕ → Bool) → ℕ → Option ℕ
lowest passes zero = None
lowest passes (suc n) = found_or (lowest passes n) (passes n) n

-- the lowest event from which a closed run of 1 to n links gains
abbrev pub gaining_event : (K : Kind) → Net → (ℕ → K.carrier) → ℕ → Option ℕ
gaining_event K net w n = lowest (λ j. some_gains K w (closed_runs net n j)) n

-- some circuit gains
abbrev pub SomeCircuitGains : (K : Kind) → Net → (ℕ → K.carrier) → Type 0
SomeCircuitGains K net w = (i : ℕ) × (run : List ℕ) × IsCircuit net i run × Gains K (weigh K w run)

-- no circuit gains
abbrev pub NoCircuitGains : (K : Kind) → Net → (ℕ → K.carrier) → Type 0
NoCircuitGains K net w = (i : ℕ) (run : List ℕ) → IsCircuit net i run → AtMost K (weigh K w run) K.start

-- c is the least weight that no run from i to j, of any length, exceeds
pub record LeastAbove (K : Kind) (net : Net) (w : ℕ → K.carrier) (i j : ℕ) (c : K.carrier) : Type 0 where
  pub above : (run : List ℕ) → IsRun net i j run → AtMost K (weigh K w run) c
  pub least : (u : K.carrier) → ((run : List ℕ) → IsRun net i j run → AtMost K (weigh K w run) u) → AtMost K c u
