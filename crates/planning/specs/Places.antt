-- Places for tickets, by the numbers of their constraints.
use Rattle.std.specs.Prelude.{◌≡◌, ℕ, ◌<◌, cond, List, is_some, Some, None, vec_items, Option, ◌==◌, slice_index_or, slice_set}
use Rattle.board.specs.declared.Ticket.{Ticket}
use Rattle.planning.specs.declared.HeldTickets.{HeldTickets}

-- the places of held tickets
abbrev pub places_of : HeldTickets → List (Option Ticket)
places_of t = vec_items t.places

-- the ticket, where it has the mark
abbrev pub of_mark : ℕ → Option Ticket → Option Ticket
of_mark mark None = None
of_mark mark (Some t) = cond (t.mark == mark) (Some t) None

-- the ticket of a mark and a number, where it is held
abbrev pub ticket_of : List (Option Ticket) → ℕ → ℕ → Option Ticket
ticket_of places mark number = of_mark mark (slice_index_or places number None)

-- the places once the ticket of a mark and a number is taken, where it is held
abbrev pub without : List (Option Ticket) → ℕ → ℕ → List (Option Ticket)
without places mark number = cond (is_some (ticket_of places mark number)) (slice_set places number None) places

-- no place holds a ticket
abbrev pub NoneHeld : List (Option Ticket) → Type 0
NoneHeld places = (k : ℕ) → slice_index_or places k None ≡ None

-- the place of a number holds a ticket of that mark and number, and no place before it holds any
abbrev pub FirstHeld : List (Option Ticket) → ℕ × ℕ → Type 0
FirstHeld places name = (slice_index_or places name.1 None ≡ Some (record { mark = name.0; number = name.1 })) × ((j : ℕ) → j < name.1 → slice_index_or places j None ≡ None)
