-- The walk back through the rounds, and what is cut out of it: for the private functions.
use Rattle.std.specs.Prelude.{◌≡◌, ℕ, ◌+◌, ◌-◌, ◌<◌, ◌≤◌, List, length, take, drop, ℤ, pos, ◌+ℤ◌, ◌≤ℤ◌, ◌<ℤ◌, ◌≢◌, slice_index, slice_index_or, Option, None, IfSome}
use Rattle.circuits.specs.declared.Arc.{Arc}
use Rattle.circuits.specs.Arcs.{start_of, end_of, CircuitOf, sum}
use Rattle.circuits.specs.declared.weighed.WeighedArc.{WeighedArc}
use Rattle.circuits.specs.Rounds.{at, value}

-- the weighed arc gave the event e the value that a round raised it to
abbrev pub RaisesTo : List ℤ → List ℤ → ℕ → WeighedArc → Type 0
RaisesTo old new e x = (x.arc.to ≡ e) × (at old x.arc.to <ℤ at new x.arc.to) × (at old x.arc.from +ℤ x.weight ≡ at new x.arc.to)

-- the arc a raises its end in round t + 1
pub record RaisesIn (arcs : List Arc) (w : ℕ → ℤ) (t a : ℕ) : Type 0 where
  pub inside : a < length arcs
  pub adds : value arcs w (t + 1) (end_of arcs a) ≡ value arcs w t (start_of arcs a) +ℤ w a
  pub rises : value arcs w t (end_of arcs a) <ℤ value arcs w (t + 1) (end_of arcs a)

-- the number at a place, and 0 past the end
abbrev pub nth : List ℕ → ℕ → ℕ
nth xs t = slice_index xs t

-- the first arc of the path raised its end in round k + 1, the next in round k + 2 and so on, and each begins where the one before ended
pub record WalksBack (arcs : List Arc) (w : ℕ → ℤ) (k : ℕ) (path : List ℕ) : Type 0 where
  pub steps : (t : ℕ) → t < length path → RaisesIn arcs w (k + t) (nth path t)
  pub linked : (t : ℕ) → t + 1 < length path → end_of arcs (nth path t) ≡ start_of arcs (nth path (t + 1))

-- each arc of the path begins where the one before ended
pub record IsChain (arcs : List Arc) (path : List ℕ) : Type 0 where
  pub inside : (t : ℕ) → t < length path → nth path t < length arcs
  pub linked : (t : ℕ) → t + 1 < length path → end_of arcs (nth path t) ≡ start_of arcs (nth path (t + 1))

-- for each event an arc that ends there, or none
abbrev pub ArePredecessors : List Arc → List (Option ℕ) → Type 0
ArePredecessors arcs latest = (j : ℕ) → j < 32 → IfSome (slice_index_or latest j None) (λ a. (a < length arcs) × (end_of arcs a ≡ j))

-- e was raised in round k, if that is not the start
abbrev pub IsRaised : List Arc → (ℕ → ℤ) → ℕ → ℕ → Type 0
IsRaised arcs w k e = (q : ℕ) → k ≡ q + 1 → value arcs w q e <ℤ value arcs w (q + 1) e

-- no arc of the path before t ends where one up to it begins
abbrev pub OpenUpTo : List Arc → List ℕ → ℕ → Type 0
OpenUpTo arcs path t = (i s : ℕ) → i < t → s ≤ i → start_of arcs (nth path s) ≢ end_of arcs (nth path i)

-- the first part of the path that closes: from its arc at s to that at t
pub record ClosedPart (arcs : List Arc) (path : List ℕ) (s t : ℕ) : Type 0 where
  pub ordered : s ≤ t
  pub inside : t < length path
  pub closes : start_of arcs (nth path s) ≡ end_of arcs (nth path t)
  pub before : OpenUpTo arcs path t

-- a run is the first part of the path that closes
pub record FirstCircuit (arcs : List Arc) (path run : List ℕ) : Type 0 where
  pub first : ℕ
  pub last : ℕ
  pub closed : ClosedPart arcs path first last
  pub cut : run ≡ take (last + 1 - first) (drop first path)

-- a circuit whose weights add up to more than 0
pub record GainingCircuit (arcs : List Arc) (w : ℕ → ℤ) (run : List ℕ) : Type 0 where
  pub circuit : CircuitOf arcs run
  pub gains : pos 0 <ℤ sum w run

-- no circuit gains
abbrev pub NoneGains : List Arc → (ℕ → ℤ) → Type 0
NoneGains arcs w = (run : List ℕ) → CircuitOf arcs run → sum w run ≤ℤ pos 0
