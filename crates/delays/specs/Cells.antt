-- A table of recovery times: a row of n cells for each of n events, in each a number of seconds or none.
use Rattle.std.specs.Prelude.{◌≡◌, ℕ, ◌+◌, ◌*◌, ◌/◌, ◌%◌, List, map, length, ℤ, pos, negsuc, Some, None, Option}
use Rattle.std.specs.List.{range_with_len}
use Rattle.std.specs.Option.{option_map}
use Rattle.timetable.specs.declared.Constraint.{Constraint}
use Rattle.delays.specs.declared.Cell.{Cell}
use Rattle.delays.specs.Recovery.{recovery_on}

-- the cell that says none
abbrev pub empty_cell : Cell
empty_cell = record { recovery = None }

-- what a cell says
abbrev pub told : Cell → Option ℕ
told cell = cell.recovery

-- a number of its own for each recovery time and for none, so that lists of them are compared as lists of numbers
abbrev pub code : Option ℤ → ℕ
code None = 0
code (Some (pos seconds)) = 2 * seconds + 1
code (Some (negsuc seconds)) = 2 * seconds + 2

-- all recovery times by their codes, row by the delayed departure: that from i to j of n events stands at i × n + j
abbrev pub recoveries : ℕ → List ℕ → ℕ → List Constraint → List ℕ
recoveries day departures period rows =
    map (λ k. code (recovery_on day departures period rows (k / length departures) (k % length departures))) (range_with_len 0 (length departures * length departures))

-- a table's cells are the recovery times by the constraints that count on a day
abbrev pub IsRecoveryTable : ℕ → List ℕ → ℕ → List Constraint → List Cell → Type 0
IsRecoveryTable day departures period rows cells = map (λ cell. code (option_map pos (told cell))) cells ≡ recoveries day departures period rows
