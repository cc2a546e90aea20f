-- Arcs with what each weighs: for the private functions.
use Rattle.std.specs.Prelude.{ℕ, ◌≡◌, ◌<◌, ◌≤◌, List, length, take, map, ℤ, pos, slice_index_or, unsigned_abs}
use Rattle.std.specs.List.{All}
use Rattle.circuits.specs.declared.Arc.{Arc}
use Rattle.circuits.specs.declared.weighed.WeighedArc.{WeighedArc}
use Rattle.circuits.specs.Arcs.{no_arc}
use Rattle.circuits.specs.Ratios.{weight_of}

-- what stands for a weighed arc past the end of a list
abbrev pub no_weighed_arc : WeighedArc
no_weighed_arc = record { arc = no_arc; weight = pos 0 }

-- the arcs of a list of weighed arcs
abbrev pub arcs_in : List WeighedArc → List Arc
arcs_in xs = map (λ x. x.arc) xs

-- what the arc of a number weighs
abbrev pub weight_in : List WeighedArc → ℕ → ℤ
weight_in xs a = (slice_index_or xs a no_weighed_arc).weight

-- the arc goes between events below n
abbrev pub GoesBelow : ℕ → WeighedArc → Type 0
GoesBelow n x = (x.arc.from < n) × (x.arc.to < n)

-- the arc weighs at most 2 ^ 40 either way
abbrev pub IsModest : WeighedArc → Type 0
IsModest x = unsigned_abs x.weight ≤ 1099511627776

-- the first k arcs, each weighed against the ratio of a gain to a cost
pub record AreWeighed (arcs : List Arc) (gain cost : ℤ) (k : ℕ) (xs : List WeighedArc) : Type 0 where
  pub are : arcs_in xs ≡ take k arcs
  pub weigh : (a : ℕ) → a < k → weight_in xs a ≡ weight_of arcs gain cost a
  pub modest : All IsModest xs
  pub len : length xs ≡ k
