-- What every board keeps true, over plain values.
use Rattle.std.specs.List.{list_all}
use Rattle.std.specs.Option.{ForSome}
use Rattle.std.specs.Prelude.{ℕ, Bool, ◌&&◌, List, length, Option, ◌==◌, nat_le, nat_lt}
use Rattle.runs.specs.Tables.{in_range, every}
use Rattle.timetable.specs.declared.Constraint.{Constraint}
use Rattle.delays.specs.declared.Cell.{Cell}
use Rattle.delays.specs.Cells.{IsRecoveryTable}

-- the period is 1 to 86,400
abbrev pub period_in_range : ℕ → Bool
period_in_range period = nat_le 1 period && nat_le period 86400

-- each departure is below the period
abbrev pub departures_below : ℕ → List ℕ → Bool
departures_below period departures = list_all (λ d. nat_lt d period) departures

-- 1 to 32 events, a period of 1 to 86,400, and for each event a departure below the period
abbrev pub opening_in_range : ℕ → ℕ → List ℕ → Bool
opening_in_range events period departures = in_range events && (period_in_range period && (departures_below period departures && length departures == events))

-- a constraint within its ranges: events below the board's, a time of at most 14,400, at most 7 tokens, a mask of 1 to 127
abbrev pub constraint_in_range : ℕ → Constraint → Bool
constraint_in_range events c = (nat_lt c.from events && nat_lt c.to events) && (nat_le c.time 14400 && (nat_le c.tokens 7 && (nat_le 1 c.days && nat_le c.days 127)))

-- every constraint is within its ranges
abbrev pub all_in_range : ℕ → List Constraint → Bool
all_in_range events rows = every (constraint_in_range events) rows

-- a kept recovery table that is current for a day is that of the constraints that count on the day
abbrev pub KeptHolds : Option ℕ → List ℕ → ℕ → List Constraint → List Cell → Type 0
KeptHolds day departures period rows cells = ForSome day (λ d. IsRecoveryTable d departures period rows cells)
