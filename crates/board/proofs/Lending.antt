-- What an opened or a new board lends.
use Rattle.std.proofs.Common.{◌≡◌, ℕ, ◌≤◌, true, List, [], ◌∷◌, length, Some, None, Option, vec_items, refl, arith}
use Rattle.std.specs.Option.{ForSome, ForNone}
use Rattle.timetable.specs.declared.Constraint.{Constraint}
use Rattle.board_file.specs.declared.OpeningRecord.{OpeningRecord}
use Rattle.board.specs.declared.Board.{Board}
use Rattle.board.specs.Circuits.{NoFreeCircuit}
use Rattle.board.specs.Invariant.{opening_in_range, all_in_range}
use Rattle.board.specs.Holding.{ledger_with, ledger_of}
use Rattle.board.specs.Lending.{LendsRows, rows_of}

no_rows : (rows : List Constraint) → length rows ≡ 0 → rows ≡ []
no_rows [] e = refl
no_rows (c ∷ rows) e = absurd (omega arith)

-- the rows of a board that is opened or not, from what it keeps true
pub lends : (opening : Option OpeningRecord) (departures : List ℕ) (rows : List Constraint) → length rows ≤ 128 → ForSome opening (λ o. opening_in_range o.events o.period departures ≡ true) → ForSome opening (λ o. all_in_range o.events rows ≡ true) → NoFreeCircuit rows → ForNone opening (length rows ≡ 0)
    → LendsRows (ledger_with opening departures rows) rows
lends (Some o) departures rows few opened ranges sound blank = record { is = refl; few = few; range = (opened o refl, ranges o refl); sound = sound }
lends None departures rows few opened ranges sound blank = record { is = no_rows rows (blank refl); few = few; range = tt; sound = sound }

few_with : (opening : Option OpeningRecord) (departures : List ℕ) (rows : List Constraint) → length rows ≤ 128 → length (rows_of (ledger_with opening departures rows)) ≤ 128
few_with (Some o) departures rows few = few
few_with None departures rows few = omega arith

-- a board has at most 128 rows, new or opened
pub few_rows : (b : Board) → length (rows_of (ledger_of b)) ≤ 128
few_rows b = few_with b.opening (vec_items b.departures) (vec_items b.table.rows) (omega (arith, b.few, b.table.rows.ok.0))
