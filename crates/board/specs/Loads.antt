-- Loading: what a board file's records come to on the plain ledger, and which files are accepted.
use Rattle.std.specs.Prelude.{◌≡◌, ℕ, ◌+◌, ◌*◌, ◌↔◌, List, [], ◌∷◌, length, Some, None, Ok, Err, Option, Result}
use Rattle.faults.specs.Causes.{fault_of}
use Rattle.faults.specs.declared.Report.{Report}
use Rattle.timetable.specs.declared.Addition.{Addition}
use Rattle.board_file.specs.declared.LoadFault.{LoadFault}
use Rattle.board_file.specs.declared.LoadFault.TheVariants.{Record, Judged}
use Rattle.board_file.specs.declared.OpeningRecord.{OpeningRecord}
use Rattle.board_file.specs.Faults.{record_report}
use Rattle.board_file.specs.Records.{opening_at}
use Rattle.board_file.specs.Loading.{and_then, entries_from, load_file, Accepted}
use Rattle.board.specs.declared.fault.BoardFault.{BoardFault}
use Rattle.board.specs.declared.fault.BoardFault.TheVariants.{Opened}
use Rattle.board.specs.Faults.{board_report}
use Rattle.board.specs.Ledger.{Held, Ledger, nothing, holding, head_fault, open_fault, opened_as, constraint_of, add_fault, grown}

-- the calls that a field of a file can stand for
pub data Call : Type 0 where
  adding : Addition → Call

-- the calls that an addition's field stands for: the one addition
abbrev pub stands_for : Addition → List Call
stands_for a = adding a ∷ []

-- the fault where there is one, else what is held
abbrev pub unless_fault : Option BoardFault → Held → Result Held BoardFault
unless_fault None held = Ok held
unless_fault (Some fault) held = Err fault

-- one call on an opened board: its fault, or what is then held
abbrev pub called : Held → Call → Result Held BoardFault
called h (adding a) = unless_fault (add_fault (holding h) a) (grown h (constraint_of a))

-- calls in order, up to the first fault
abbrev pub called_in_order : Held → List Call → Result Held BoardFault
called_in_order h [] = Ok h
called_in_order h (c ∷ calls) = and_then (called h c) (λ k. called_in_order k calls)

-- the board's outcome at a record whose tag stands at a place: a refusal lies there
abbrev pub judged_at : {A : Type 0} → ℕ → Result A BoardFault → Result A (LoadFault BoardFault)
judged_at place (Ok x) = Ok x
judged_at place (Err fault) = Err (Judged place fault)

-- the number of events and the period are judged at the opening record
abbrev pub judged_at_opening : OpeningRecord → Option BoardFault
judged_at_opening o = head_fault o.events o.period None

-- an opening record with its departures opens a new board
abbrev pub opened_by : OpeningRecord → List ℕ → Result Held BoardFault
opened_by o departures = unless_fault (open_fault nothing o.events o.period departures) (opened_as o.mark o.events o.period departures)

-- a field's calls, in order
abbrev pub performed_by : Held → Addition → Result Held BoardFault
performed_by h a = called_in_order h (stands_for a)

-- what a file leaves on a new board, or its first fault
unfoldable pub load_held : List ℕ → Result Held (LoadFault BoardFault)
load_held bytes = load_file judged_at_opening opened_by performed_by bytes

-- an opened board is not loaded: that comes first, at place 0
abbrev pub load_fault : Ledger → List ℕ → Option (LoadFault BoardFault)
load_fault (holding h) bytes = Some (Judged 0 Opened)
load_fault nothing bytes = fault_of (load_held bytes)

-- the ledger of a board loaded with what is held; a refused load leaves it new
abbrev pub loaded_ledger : Result Held (LoadFault BoardFault) → Ledger
loaded_ledger (Ok h) = holding h
loaded_ledger (Err fault) = nothing

-- an accepted load leaves what the opening and the calls that its fields stand for leave, in order; a refused one changes nothing
abbrev pub load_after : Ledger → List ℕ → Ledger
load_after (holding h) bytes = holding h
load_after nothing bytes = loaded_ledger (load_held bytes)

-- a byte string is accepted by a new board exactly when it is the encoding of an opening, departures and fields whose calls the plain
-- ledger accepts in order, and the board then holds what they leave
abbrev pub LoadLaw : Ledger → List ℕ → Ledger → Type 0
LoadLaw (holding h) bytes after = after ≡ holding h
LoadLaw nothing bytes after = (h : Held) → (after ≡ holding h) ↔ Accepted judged_at_opening opened_by performed_by bytes h

-- a report at another place
abbrev pub placed : ℕ → Report → Report
placed place r = record { layer = r.layer; number = r.number; place = place }

-- layer, number and place of a load's fault: a board's fault keeps its layer and number, and has the place of its field's tag
abbrev pub load_report : LoadFault BoardFault → Report
load_report (Record fault) = record_report fault
load_report (Judged place fault) = placed place (board_report fault)

-- the entries from a place on, on what is held there: what they leave, or the first fault
unfoldable pub entries_held : List ℕ → ℕ → Held → Result Held (LoadFault BoardFault)
entries_held bytes place h = entries_from performed_by (length bytes) bytes place h

-- P of what a ledger holds, where it is no new board's
abbrev pub IfHolding : Ledger → (Held → Type 0) → Type 0
IfHolding nothing P = Unit {0}
IfHolding (holding h) P = P h

-- a ledger is no new board's, and P of what it holds
abbrev pub IsHolding : Ledger → (Held → Type 0) → Type 0
IsHolding nothing P = ⊥
IsHolding (holding h) P = P h

-- what one entry at a place does to what is held: it is refused, or it is the end, or the next entry follows
abbrev pub Stepped : List ℕ → ℕ → Held → Ledger → Result (Option ℕ) (LoadFault BoardFault) → Type 0
Stepped bytes place before after (Err fault) = entries_held bytes place before ≡ Err fault
Stepped bytes place before after (Ok None) = IsHolding after (λ h. entries_held bytes place before ≡ Ok h)
Stepped bytes place before after (Ok (Some next)) = IsHolding after (λ h. entries_held bytes place before ≡ entries_held bytes next h)

-- a part of the loading came to what is then held, or to the fault
abbrev pub Came : Result Held (LoadFault BoardFault) → Ledger → Result (Unit {0}) (LoadFault BoardFault) → Type 0
Came outcome after (Ok done) = IsHolding after (λ h. outcome ≡ Ok h)
Came outcome after (Err fault) = outcome ≡ Err fault

-- the file's first record opened the board, so that the entries are still to come, or loading stops at the fault
abbrev pub OpenedBy : List ℕ → OpeningRecord → Ledger → Result (Unit {0}) (LoadFault BoardFault) → Type 0
OpenedBy bytes o after (Ok done) = IsHolding after (λ h. opening_at bytes 0 ≡ Ok o → load_held bytes ≡ entries_held bytes (13 + 4 * o.events) h)
OpenedBy bytes o after (Err fault) = opening_at bytes 0 ≡ Ok o → load_held bytes ≡ Err fault
