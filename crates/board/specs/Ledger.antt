-- The plain ledger: what a board holds as plain values, which fault each call gets for it, and what the call leaves.
use Rattle.std.specs.Prelude.{◌≡◌, ℕ, cond, not, ◌&&◌, ◌↔◌, List, [], ◌∷◌, ◌++◌, length, is_some, Some, None, Ok, Err, Option, Result, ◌==◌, nat_le, nat_lt}
use Rattle.std.specs.Option.{unwrap_or}
use Rattle.faults.specs.Causes.{unless}
use Rattle.runs.specs.Tables.{in_range}
use Rattle.timetable.specs.declared.Addition.{Addition}
use Rattle.timetable.specs.declared.Constraint.{Constraint}
use Rattle.timetable.specs.declared.Letter.TheVariants.{Running}
use Rattle.timetable.specs.declared.State.TheVariants.{Standing}
use Rattle.timetable.specs.declared.LedgerEvent.{LedgerEvent}
use Rattle.timetable.specs.declared.LedgerEvent.TheVariants.{Suspend, Withdraw}
use Rattle.timetable.specs.Words.{letter_of, suspendable, stands, suspended, row_at}
use Rattle.timetable.specs.Changes.{changes_counted, with_time, moved, changed}
use Rattle.board.specs.declared.fault.BoardFault.{BoardFault}
use Rattle.board.specs.declared.Ticket.{Ticket}
use Rattle.board.specs.declared.summary.Summary.{Summary}
use Rattle.board.specs.declared.fault.BoardFault.TheVariants.{New, Opened, EventCount, Period, Departure, Event, Time, Tokens, Days, Letter as LetterFault, Full, Circuit, Number, NotStanding, NotSuspendable, Ticket as TicketFault, Length}
use Rattle.board.specs.Circuits.{closes_circuit, FreeCircuitThrough}
use Rattle.board.specs.Invariant.{period_in_range, departures_below}

-- what an opened board holds: the opening's values, and a row for each constraint by its number
pub record Held : Type 0 where
  pub mark : ℕ
  pub events : ℕ
  pub period : ℕ
  pub departures : List ℕ
  pub rows : List Constraint

-- a new board holds nothing
pub data Ledger : Type 0 where
  nothing : Ledger
  holding : Held → Ledger

-- the first causes of refusing an opening: the number of events and the period
abbrev pub head_fault : ℕ → ℕ → Option BoardFault → Option BoardFault
head_fault events period next = unless (in_range events) EventCount (unless (period_in_range period) Period next)

-- the fault of an opening
abbrev pub open_fault : Ledger → ℕ → ℕ → List ℕ → Option BoardFault
open_fault (holding h) events period departures = Some Opened
open_fault nothing events period departures = head_fault events period (unless (departures_below period departures) Departure (unless (length departures == events) Length None))

-- an accepted opening sets mark, events, period and departures, and leaves no rows
abbrev pub opened_as : ℕ → ℕ → ℕ → List ℕ → Held
opened_as mark events period departures = record { mark = mark; events = events; period = period; departures = departures; rows = [] }

-- the ledger that a call leaves: another where it is accepted, the same where it is refused
abbrev pub unless_refused : Option BoardFault → Ledger → Ledger → Ledger
unless_refused None after before = after
unless_refused (Some fault) after before = before

-- what becomes of the day whose recovery times are kept: an accepted change of what counts gives them up, a refused call leaves them
abbrev pub kept_after : {F : Type 0} → Option F → Option ℕ → Option ℕ
kept_after None kept = None
kept_after (Some fault) kept = kept

-- what an opening leaves
abbrev pub open_after : Ledger → ℕ → ℕ → ℕ → List ℕ → Ledger
open_after l mark events period departures = unless_refused (open_fault l events period departures) (holding (opened_as mark events period departures)) l

-- the constraint of an addition, standing
abbrev pub constraint_of : Addition → Constraint
constraint_of a = record { from = a.from; to = a.to; time = a.time; tokens = a.tokens; days = a.days; letter = unwrap_or (letter_of a.letter) Running; state = Standing }

-- the causes of refusing an addition before its circuits are looked at
abbrev pub early_add_fault : ℕ → ℕ → Addition → Option BoardFault → Option BoardFault
early_add_fault events count a next =
    unless (nat_lt a.from events && nat_lt a.to events) Event
    (unless (nat_le a.time 14400) Time
    (unless (nat_le a.tokens 7) Tokens
    (unless (nat_le 1 a.days && nat_le a.days 127) Days
    (unless (is_some (letter_of a.letter)) LetterFault
    (unless (nat_lt count 128) Full next)))))

-- the fault of an addition
abbrev pub add_fault : Ledger → Addition → Option BoardFault
add_fault nothing a = Some New
add_fault (holding h) a = early_add_fault h.events (length h.rows) a (unless (not (closes_circuit h.events h.rows a)) Circuit None)

-- what is held after one more constraint
abbrev pub grown : Held → Constraint → Held
grown h c = record { mark = h.mark; events = h.events; period = h.period; departures = h.departures; rows = h.rows ++ c ∷ [] }

-- the ledger with one more row
abbrev pub with_row : Ledger → Constraint → Ledger
with_row nothing c = nothing
with_row (holding h) c = holding (grown h c)

-- an accepted addition appends its row, standing
abbrev pub add_after : Ledger → Addition → Ledger
add_after l a = unless_refused (add_fault l a) (with_row l (constraint_of a)) l

-- where no lower cause holds, an addition is refused with 12 exactly when, on some day, there is a circuit of token-free constraints
-- through the new one, each of the others standing or suspended
abbrev pub CircuitLaw : Ledger → Addition → Option BoardFault → Type 0
CircuitLaw nothing a fault = Unit {0}
CircuitLaw (holding h) a fault = early_add_fault h.events (length h.rows) a None ≡ None → (fault ≡ Some Circuit) ↔ FreeCircuitThrough h.rows (constraint_of a)

-- the number that the next constraint gets: the count of accepted additions
abbrev pub next_number : Ledger → ℕ
next_number nothing = 0
next_number (holding h) = length h.rows

-- what there is to say of an opened board at a glance
abbrev pub summary_of : Ledger → Option Summary
summary_of nothing = None
summary_of (holding h) = Some (record { events = h.events; period = h.period; constraints = length h.rows })

-- the causes of refusing a change of a standing constraint: its number was never given, or it does not stand
abbrev pub standing_fault : List Constraint → ℕ → Option BoardFault → Option BoardFault
standing_fault rows k next = unless (nat_lt k (length rows)) Number (unless (stands (row_at rows k).state) NotStanding next)

-- the ledger with the row of one number changed, and every other row and the opening's values as they were
abbrev pub changed_at : (Constraint → Constraint) → ℕ → Ledger → Ledger
changed_at f k nothing = nothing
changed_at f k (holding h) = holding (record { mark = h.mark; events = h.events; period = h.period; departures = h.departures; rows = changed f h.rows k })

-- the fault of a retiming
abbrev pub retime_fault : Ledger → ℕ → ℕ → Option BoardFault
retime_fault nothing k time = Some New
retime_fault (holding h) k time = unless (nat_le time 14400) Time (standing_fault h.rows k None)

-- an accepted retiming changes the time of the one constraint
abbrev pub retime_after : Ledger → ℕ → ℕ → Ledger
retime_after l k time = unless_refused (retime_fault l k time) (changed_at (λ c. with_time c time) k l) l

-- the fault of a withdrawal
abbrev pub withdraw_fault : Ledger → ℕ → Option BoardFault
withdraw_fault nothing k = Some New
withdraw_fault (holding h) k = standing_fault h.rows k None

-- an accepted withdrawal leaves the one constraint withdrawn
abbrev pub withdraw_after : Ledger → ℕ → Ledger
withdraw_after l k = unless_refused (withdraw_fault l k) (changed_at (moved Withdraw) k l) l

-- the fault of a suspension
abbrev pub suspend_fault : Ledger → ℕ → Option BoardFault
suspend_fault nothing k = Some New
suspend_fault (holding h) k = standing_fault h.rows k (unless (suspendable (row_at h.rows k).letter) NotSuspendable None)

-- an accepted suspension leaves the one constraint suspended
abbrev pub suspend_after : Ledger → ℕ → Ledger
suspend_after l k = unless_refused (suspend_fault l k) (changed_at (moved Suspend) k l) l

-- the mark of an opened board
abbrev pub mark_of : Ledger → ℕ
mark_of nothing = 0
mark_of (holding h) = h.mark

-- the fault of restoring or dismissing by a ticket of a mark and a number
abbrev pub spend_fault : Ledger → ℕ → ℕ → Option BoardFault
spend_fault nothing mark k = Some New
spend_fault (holding h) mark k = unless (h.mark == mark && suspended (row_at h.rows k).state) TicketFault None

-- an accepted restoration or dismissal changes the state of the one constraint
abbrev pub spend_after : LedgerEvent → Ledger → ℕ → ℕ → Ledger
spend_after event l mark k = unless_refused (spend_fault l mark k) (changed_at (moved event) k l) l

-- an event that can change what counts gives the kept recovery times up; a dismissal leaves them, since they stay right
abbrev pub kept_through : LedgerEvent → Option ℕ → Option ℕ
kept_through event kept = cond (changes_counted event) None kept

-- what becomes of them when a ticket is presented
abbrev pub kept_spent : LedgerEvent → Option BoardFault → Option ℕ → Option ℕ
kept_spent event None kept = kept_through event kept
kept_spent event (Some fault) kept = kept

-- where a ticket is spent there is no fault; else the fault comes with the ticket, whole
abbrev pub SpentOrBack : Result (Unit {0}) (Ticket × BoardFault) → Ticket → Option BoardFault → Type 0
SpentOrBack (Ok done) ticket fault = fault ≡ None
SpentOrBack (Err back) ticket fault = (back.0 ≡ ticket) × (fault ≡ Some back.1)
