-- The values of the events after each round of the search: for the private functions.
use Rattle.std.specs.Prelude.{◌≡◌, ℕ, zero, suc, ◌<◌, ◌≤◌, cond, List, length, ℤ, pos, ◌+ℤ◌, ◌==◌, slice_index_or, unsigned_abs}
use Rattle.std.specs.Int.{int_max}
use Rattle.circuits.specs.declared.Arc.{Arc}
use Rattle.circuits.specs.Arcs.{start_of, end_of}

-- the value at j once the first k arcs have been looked at, from the values v
unfoldable pub rise : List Arc → (ℕ → ℤ) → (ℕ → ℤ) → ℕ → ℕ → ℤ
rise arcs w v j zero = v j
rise arcs w v j (suc k) = cond (end_of arcs k == j) (int_max (v (start_of arcs k) +ℤ w k) (rise arcs w v j k)) (rise arcs w v j k)

-- the value at j after k rounds
unfoldable pub value : List Arc → (ℕ → ℤ) → ℕ → ℕ → ℤ
value arcs w zero j = pos 0
value arcs w (suc k) j = rise arcs w (value arcs w k) j (length arcs)

-- the number at a place, and 0 past the end
abbrev pub at : List ℤ → ℕ → ℤ
at xs k = slice_index_or xs k (pos 0)

-- a row holds the values after k rounds
abbrev pub HoldsRound : List Arc → (ℕ → ℤ) → ℕ → List ℤ → Type 0
HoldsRound arcs w k row = (j : ℕ) → j < 32 → at row j ≡ value arcs w k j

-- a row holds what one round makes of another
abbrev pub HoldsRise : List Arc → (ℕ → ℤ) → List ℤ → List ℤ → Type 0
HoldsRise arcs w old new = (j : ℕ) → j < 32 → at new j ≡ rise arcs w (at old) j (length arcs)

-- a weight is at most 2 ^ 40 either way
abbrev pub WeightsFit : (ℕ → ℤ) → Type 0
WeightsFit w = (k : ℕ) → unsigned_abs (w k) ≤ 1099511627776

-- a value is at most 2 ^ 45 either way
abbrev pub ValuesFit : List ℤ → Type 0
ValuesFit row = (j : ℕ) → unsigned_abs (at row j) ≤ 35184372088832
