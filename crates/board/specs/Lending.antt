-- What a board lends to the questions above it: its rows, with what every board keeps true of them.
use Rattle.std.specs.Prelude.{◌≡◌, ◌≤◌, true, List, [], length}
use Rattle.timetable.specs.declared.Constraint.{Constraint}
use Rattle.board.specs.Circuits.{NoFreeCircuit}
use Rattle.board.specs.Invariant.{opening_in_range, all_in_range}
use Rattle.board.specs.Ledger.{Ledger, nothing, holding}

-- the rows of a ledger, none for a new board
abbrev pub rows_of : Ledger → List Constraint
rows_of nothing = []
rows_of (holding h) = h.rows

-- what a ledger holds is in range
abbrev pub InRange : Ledger → Type 0
InRange nothing = Unit {0}
InRange (holding h) = (opening_in_range h.events h.period h.departures ≡ true) × (all_in_range h.events h.rows ≡ true)

-- the rows of a ledger: at most 128, in range, and without a token-free circuit on any day
pub record LendsRows (l : Ledger) (rows : List Constraint) : Type 0 where
  pub is : rows ≡ rows_of l
  pub few : length rows ≤ 128
  pub range : InRange l
  pub sound : NoFreeCircuit rows
