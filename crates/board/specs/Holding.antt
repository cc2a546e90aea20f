-- What a board holds, as the plain ledger.
use Rattle.std.specs.Prelude.{ℕ, List, Some, None, vec_items, Option}
use Rattle.timetable.specs.declared.Constraint.{Constraint}
use Rattle.board_file.specs.declared.OpeningRecord.{OpeningRecord}
use Rattle.board.specs.declared.Board.{Board}
use Rattle.board.specs.Ledger.{Ledger, nothing, holding, Held}

-- what a board holds that was opened with a record
abbrev pub held_by : OpeningRecord → List ℕ → List Constraint → Held
held_by o departures rows = record { mark = o.mark; events = o.events; period = o.period; departures = departures; rows = rows }

-- the ledger of an opening record, if there was an opening, with departures and rows
abbrev pub ledger_with : Option OpeningRecord → List ℕ → List Constraint → Ledger
ledger_with None departures rows = nothing
ledger_with (Some o) departures rows = holding (held_by o departures rows)

-- the ledger that a board stands for
abbrev pub ledger_of : Board → Ledger
ledger_of b = ledger_with b.opening (vec_items b.departures) (vec_items b.table.rows)

-- the day whose recovery times a board keeps; none where those that it has may be out of date
abbrev pub kept_day : Board → Option ℕ
kept_day b = b.day
