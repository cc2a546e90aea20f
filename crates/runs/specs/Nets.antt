-- Nets of events and links, runs and circuits in them: for the table of runs, and for every question above it.
-- A link goes by its number, so that two links between the same events stay two.
use Rattle.std.specs.Prelude.{◌≡◌, ℕ, ◌<◌, ◌⊎◌, List, [], ◌∷◌, map, length}

-- a net: the numbers of its links, and the events from which and to which each goes
pub record Net : Type 0 where
  pub links : List ℕ
  pub from : ℕ → ℕ
  pub to : ℕ → ℕ

-- x is among the elements of a list
abbrev pub In : {X : Type 0} → X → List X → Type 0
In x [] = ⊥
In x (y ∷ ys) = (x ≡ y) ⊎ In x ys

-- no element of a list stands in it twice
abbrev pub Distinct : {X : Type 0} → List X → Type 0
Distinct [] = Unit {0}
Distinct (x ∷ xs) = (In x xs → ⊥) × Distinct xs

-- the links of a run from event i to event j: each begins where the one before ended; the empty run stands at every event
abbrev pub IsRun : Net → ℕ → ℕ → List ℕ → Type 0
IsRun net i j [] = i ≡ j
IsRun net i j (l ∷ run) = In l net.links × (net.from l ≡ i) × IsRun net (net.to l) j run

-- a circuit from event i: a run of one link or more back to i that meets no event twice otherwise
abbrev pub IsCircuit : Net → ℕ → List ℕ → Type 0
IsCircuit net i run = IsRun net i i run × (0 < length run) × Distinct (map net.from run)

-- every link of a net goes between events below n
abbrev pub Within : ℕ → Net → Type 0
Within n net = (l : ℕ) → In l net.links → (net.from l < n) × (net.to l < n)
