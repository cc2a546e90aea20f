-- What a net of arcs holds.
use Rattle.std.specs.Prelude.{◌≡◌, ℕ, true, List, []}
use Rattle.runs.specs.Tables.{in_range}
use Rattle.circuits.specs.declared.Arc.{Arc}
use Rattle.circuits.specs.declared.ArcNet.{ArcNet}

-- the arcs that were accepted, in order
abbrev pub arcs_of : ArcNet → List Arc
arcs_of net = net.arcs.items

-- a net of so many events, 1 to 32, without arcs
pub record IsEmptyNet (events : ℕ) (net : ArcNet) : Type 0 where
  pub range : in_range events ≡ true
  pub size : net.events ≡ events
  pub arcs : arcs_of net ≡ []
