-- Arcs with a gain and a cost each, the net that they form, and what the numbers along a run add up to.
use Rattle.std.specs.Prelude.{ℕ, ◌<◌, ◌≤◌, Bool, ◌&&◌, List, [], ◌∷◌, length, take, ℤ, pos, negsuc, ◌+ℤ◌, ◌≤ℤ◌, int_le, nat_lt, slice_index_or, unsigned_abs}
use Rattle.std.specs.List.{range_with_len, AllByRecursion}
use Rattle.runs.specs.Nets.{Net, IsCircuit}
use Rattle.circuits.specs.declared.Arc.{Arc}
use Rattle.circuits.specs.declared.numbers.Circuit.{Circuit}

-- what stands for an arc past the end of a list
abbrev pub no_arc : Arc
no_arc = record { from = 0; to = 0; gain = pos 0; cost = pos 0 }

-- where the arc of a number begins and ends, its gain and its cost
abbrev pub start_of : List Arc → ℕ → ℕ
start_of arcs a = (slice_index_or arcs a no_arc).from

abbrev pub end_of : List Arc → ℕ → ℕ
end_of arcs a = (slice_index_or arcs a no_arc).to

abbrev pub gain_of : List Arc → ℕ → ℤ
gain_of arcs a = (slice_index_or arcs a no_arc).gain

abbrev pub cost_of : List Arc → ℕ → ℤ
cost_of arcs a = (slice_index_or arcs a no_arc).cost

-- the net of a list of arcs: an arc's number is its place in the list
abbrev pub arcs_net : List Arc → Net
arcs_net arcs = record { links = range_with_len 0 (length arcs); from = start_of arcs; to = end_of arcs }

-- a list of arcs is a circuit from some event
pub record CircuitOf (arcs : List Arc) (run : List ℕ) : Type 0 where
  pub event : ℕ
  pub circuit : IsCircuit (arcs_net arcs) event run

-- what a number of each arc adds up to along a run
abbrev pub sum : (ℕ → ℤ) → List ℕ → ℤ
sum f [] = pos 0
sum f (a ∷ run) = f a +ℤ sum f run

-- a list begins with the lowest of its numbers
abbrev pub BeginsLowest : List ℕ → Type 0
BeginsLowest [] = Unit {0}
BeginsLowest (a ∷ run) = AllByRecursion (λ b. a ≤ b) run

-- the arcs of a circuit, by their numbers
abbrev pub numbers_of : Circuit → List ℕ
numbers_of c = take c.len c.arcs

-- an arc between events below n, with a gain of at most 1,073,741,824 either way and a cost of 0 to 7
abbrev pub arc_in_range : ℕ → Arc → Bool
arc_in_range n a = (nat_lt a.from n && nat_lt a.to n) && ((int_le (negsuc 1073741823) a.gain && int_le a.gain (pos 1073741824)) && (int_le (pos 0) a.cost && int_le a.cost (pos 7)))

-- every arc goes between events below n
abbrev pub ArcsBelow : ℕ → List Arc → Type 0
ArcsBelow n arcs = AllByRecursion (λ a. (a.from < n) × (a.to < n)) arcs

-- an arc's numbers are small enough
abbrev pub ArcFits : Arc → Type 0
ArcFits a = (unsigned_abs a.gain ≤ 1073741824) × (pos 0 ≤ℤ a.cost) × (unsigned_abs a.cost ≤ 7)

-- every arc's numbers are
abbrev pub ArcsFit : List Arc → Type 0
ArcsFit arcs = AllByRecursion ArcFits arcs
