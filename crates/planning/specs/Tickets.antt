-- The tickets that a session owes its board: one for each suspended constraint, and no other.
use Rattle.std.specs.Prelude.{◌≡◌, ℕ, Bool, false, cond, List, map, Some, None, Option, Result, slice_index_or}
use denote.Ref.{MutBor}
use Rattle.std.specs.Option.{ForSome, option_map, unwrap_or}
use Rattle.runs.specs.Gaining.{lowest}
use Rattle.timetable.specs.declared.State.TheVariants.{Suspended}
use Rattle.timetable.specs.declared.LedgerEvent.{LedgerEvent}
use Rattle.timetable.specs.declared.LedgerEvent.TheVariants.{Dismiss}
use Rattle.timetable.specs.Words.{suspended, row_at}
use Rattle.timetable.specs.Changes.{state_after, moved}
use Rattle.board.specs.declared.Board.{Board}
use Rattle.board.specs.declared.Ticket.{Ticket}
use Rattle.board.specs.declared.fault.BoardFault.{BoardFault}
use Rattle.board.specs.declared.fault.BoardFault.TheVariants.{New, Ticket as TicketFault}
use Rattle.board.specs.Ledger.{Ledger, nothing, holding, mark_of, spend_fault, spend_after, SpentOrBack}
use Rattle.board.specs.Holding.{ledger_of}

-- whether the constraint of a number is suspended
abbrev pub suspended_in : Ledger → ℕ → Bool
suspended_in nothing k = false
suspended_in (holding h) k = suspended (row_at h.rows k).state

-- the ticket of the constraint of a number, where it is suspended
abbrev pub ticket_due : Ledger → ℕ → Option Ticket
ticket_due l k = cond (suspended_in l k) (Some (record { mark = mark_of l; number = k })) None

-- each ticket is in the place of its number
abbrev pub ByNumber : List (Option Ticket) → Type 0
ByNumber places = (k : ℕ) → ForSome (slice_index_or places k None) (λ t. t.number ≡ k)

-- each place has the ticket of the constraint of its number, where that is suspended, and else none
abbrev pub HoldsTickets : Ledger → List (Option Ticket) → Type 0
HoldsTickets l places = (k : ℕ) → slice_index_or places k None ≡ ticket_due l k

-- the fault of presenting a ticket that is not held: there is no board yet, or no constraint waits for it
abbrev pub not_held : Ledger → BoardFault
not_held nothing = New
not_held (holding h) = TicketFault

-- an event by which a constraint is no longer suspended
abbrev pub EndsSuspension : LedgerEvent → Type 0
EndsSuspension event = suspended (unwrap_or (state_after Suspended event) Suspended) ≡ false

-- each call of a step on a board spends a ticket on an event, as the ledger does
abbrev pub Spends : LedgerEvent → (MutBor Board → Ticket → Result (Unit {0}) (Ticket × BoardFault) → MutBor Board → Type 0) → Type 0
Spends event post = (board after : MutBor Board) (ticket : Ticket) (r : Result (Unit {0}) (Ticket × BoardFault)) → post board ticket r after → SpentOrBack r ticket (spend_fault (ledger_of board.now) ticket.mark ticket.number) × (ledger_of after.now ≡ spend_after event (ledger_of board.now) ticket.mark ticket.number)

-- the ticket that is held for the lowest number, as its mark and number
abbrev pub lowest_ticket : Ledger → Option (ℕ × ℕ)
lowest_ticket l = option_map (λ k. (mark_of l, k)) (lowest (suspended_in l) 128)

-- what is left once that ticket is spent on a dismissal
abbrev pub dismissed_lowest : Ledger → Option (ℕ × ℕ) → Ledger
dismissed_lowest l None = l
dismissed_lowest l (Some t) = spend_after Dismiss l t.0 t.1

-- what is left when all that is suspended is dismissed: each suspended constraint is withdrawn, and every other row is as it was
abbrev pub closed : Ledger → Ledger
closed nothing = nothing
closed (holding h) = holding (record { mark = h.mark; events = h.events; period = h.period; departures = h.departures; rows = map (moved Dismiss) h.rows })
