-- Constraints in the planner's words: letters, states, what counts on a day, slack, and the nets that constraints form.
use Rattle.std.specs.Prelude.{ℕ, ◌+◌, ◌*◌, ◌/◌, ◌%◌, ◌^◌, Bool, true, false, cond, ◌&&◌, List, length, ℤ, pos, ◌-ℤ◌, Some, None, filter, Option, ◌==◌, nat_lt, slice_index_or}
use Rattle.std.specs.List.{range_with_len}
use Rattle.weights.specs.DaysKind.{Weekday, days_of}
use Rattle.runs.specs.declared.Link.{Link}
use Rattle.runs.specs.Nets.{Net}
use Rattle.timetable.specs.declared.Letter.{Letter}
use Rattle.timetable.specs.declared.Letter.TheVariants.{Running, Layover, Transfer, Headway}
use Rattle.timetable.specs.declared.State.{State}
use Rattle.timetable.specs.declared.State.TheVariants.{Standing, Suspended, Withdrawn}
use Rattle.timetable.specs.declared.Constraint.{Constraint}

-- the letter of an ASCII byte: R is 82, L 76, T 84 and H 72
abbrev pub letter_of : ℕ → Option Letter
letter_of byte = cond (byte == 82) (Some Running) (cond (byte == 76) (Some Layover) (cond (byte == 84) (Some Transfer) (cond (byte == 72) (Some Headway) None)))

-- the ASCII byte of a letter
abbrev pub byte_of : Letter → ℕ
byte_of Running = 82
byte_of Layover = 76
byte_of Transfer = 84
byte_of Headway = 72

-- a constraint of letter T or H may be suspended: a connection or a headway can be waived, running, dwell and layover cannot
abbrev pub suspendable : Letter → Bool
suspendable Running = false
suspendable Layover = false
suspendable Transfer = true
suspendable Headway = true

-- the state of a constraint that stands
abbrev pub stands : State → Bool
stands Standing = true
stands Suspended = false
stands Withdrawn = false

-- the state of a constraint that is suspended
abbrev pub suspended : State → Bool
suspended Standing = false
suspended Suspended = true
suspended Withdrawn = false

-- the state of a constraint that stands or is suspended
abbrev pub live_state : State → Bool
live_state Standing = true
live_state Suspended = true
live_state Withdrawn = false

-- a constraint stands or is suspended
abbrev pub is_live : Constraint → Bool
is_live c = live_state c.state

-- a mask has a day, 0 for Monday to 6 for Sunday
abbrev pub has_day : ℕ → ℕ → Bool
has_day mask day = nat_lt day 7 && mask / 2 ^ day % 2 == 1

-- a constraint counts when it stands and its mask has the day
abbrev pub counted : ℕ → Constraint → Bool
counted day c = stands c.state && has_day c.days day

-- the slack d(to) + m × T − d(from) − t, where d(from) is `first` and d(to) is `second`
abbrev pub slack_of : ℕ → ℕ → ℕ → Constraint → ℤ
slack_of first second period c = pos (second + c.tokens * period) -ℤ pos (first + c.time)

-- the link between the constraint's events
abbrev pub link_of : Constraint → Link
link_of c = record { from = c.from; to = c.to }

-- a constraint that stands or is suspended, has no token, and whose mask has a weekday
abbrev pub free_on : Weekday → Constraint → Bool
free_on d c = is_live c && (c.tokens == 0 && days_of c.days d)

-- the weekdays on which it is so
abbrev pub free_days : Constraint → Weekday → Bool
free_days c d = free_on d c

-- what stands for a constraint past the end of a list
abbrev pub no_constraint : Constraint
no_constraint = record { from = 0; to = 0; time = 0; tokens = 0; days = 0; letter = Running; state = Withdrawn }

-- the constraint of a number
abbrev pub row_at : List Constraint → ℕ → Constraint
row_at rows k = slice_index_or rows k no_constraint

-- the net of those constraints that pass a test, under their own numbers
abbrev pub net_where : (Constraint → Bool) → List Constraint → Net
net_where passes rows = record { links = filter (λ k. passes (row_at rows k)) (range_with_len 0 (length rows)); from = λ k. (row_at rows k).from; to = λ k. (row_at rows k).to }

-- the constraints that count on a day
abbrev pub counted_net : ℕ → List Constraint → Net
counted_net day rows = net_where (counted day) rows

-- the token-free constraints whose masks have a weekday, standing or suspended
abbrev pub free_net : Weekday → List Constraint → Net
free_net d rows = net_where (free_on d) rows
