-- Recovery times: how much of a delay of one departure the slack on the way to another takes up.
use Rattle.std.specs.Prelude.{ℕ, cond, List, [], ◌∷◌, map, length, ℤ, pos, ◌+ℤ◌, Some, None, Option, int_le, slice_index}
use Rattle.runs.specs.Nets.{Net}
use Rattle.runs.specs.Runs.{some_runs}
use Rattle.timetable.specs.declared.Constraint.{Constraint}
use Rattle.timetable.specs.Words.{row_at, slack_of, counted_net}

-- a run's total slack
abbrev pub total_slack : (ℕ → ℤ) → List ℕ → ℤ
total_slack slack [] = pos 0
total_slack slack (l ∷ run) = slack l +ℤ total_slack slack run

-- the lesser of a number and of one that there may be
abbrev pub lesser : ℤ → Option ℤ → Option ℤ
lesser a None = Some a
lesser a (Some b) = Some (cond (int_le a b) a b)

-- the least of some numbers, or none
abbrev pub least : List ℤ → Option ℤ
least [] = None
least (a ∷ rest) = lesser a (least rest)

-- the recovery time from i to j among n events: the least total slack over the runs of 1 to n links from i to j, or none without one
unfoldable pub recovery : Net → (ℕ → ℤ) → ℕ → ℕ → ℕ → Option ℤ
recovery net slack n i j = least (map (total_slack slack) (some_runs net n i j))

-- the slack of the constraint of a number, at the departures
abbrev pub slack_at : List ℕ → ℕ → List Constraint → ℕ → ℤ
slack_at departures period rows k =
    slack_of (slice_index departures (row_at rows k).from) (slice_index departures (row_at rows k).to) period (row_at rows k)

-- the recovery time from i to j by the constraints that count on a day
abbrev pub recovery_on : ℕ → List ℕ → ℕ → List Constraint → ℕ → ℕ → Option ℤ
recovery_on day departures period rows i j = recovery (counted_net day rows) (slack_at departures period rows) (length departures) i j
