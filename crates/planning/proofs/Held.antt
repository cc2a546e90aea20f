-- Which tickets are due after each call: a suspension makes one due, a restoration and a dismissal end one, and every other call leaves
-- what is due.
use Rattle.std.proofs.Common.{◌≡◌, ℕ, zero, suc, ◌<◌, Bool, true, false, cond, eqb, List, [], ◌∷◌, ◌++◌, length, get_or, set, Some, None, Option, refl, sym, arith}
use Rattle.std.proofs.lemmas.Bool.Decides.{nat_tests}
use Rattle.std.proofs.lemmas.List.{get_or_past, set_past}
use Rattle.std.proofs.lemmas.List.Sums.{sum_by-cons}
use Rattle.std.proofs.lemmas.Grind.{elements}
use Rattle.timetable.specs.declared.Addition.{Addition}
use Rattle.timetable.specs.declared.Constraint.{Constraint}
use Rattle.timetable.specs.declared.LedgerEvent.{LedgerEvent}
use Rattle.timetable.specs.declared.LedgerEvent.TheVariants as event
use Rattle.timetable.specs.Words.{suspended, no_constraint, row_at}
use Rattle.timetable.specs.Changes.{with_time, moved, changed}
use Rattle.board.specs.declared.Ticket.{Ticket}
use Rattle.board.specs.declared.fault.BoardFault.{BoardFault}
use Rattle.board.specs.Ledger.{Held, Ledger, nothing, holding, mark_of, unless_refused, constraint_of, add_fault, with_row, add_after, changed_at, retime_fault, retime_after, withdraw_fault, withdraw_after, suspend_fault, suspend_after, spend_fault, spend_after}
use Rattle.board.specs.Loads.{load_after}
use Rattle.calls.specs.Laws.{suspended_rows, now_suspended}
use Rattle.calls.proofs.Accepted.{suspend_accepted, spend_accepted}
use Rattle.calls.proofs.Balance.{one, withdrawal_keeps, load_none}
use Rattle.planning.specs.Tickets.{ticket_due, HoldsTickets, EndsSuspension}
use Rattle.planning.specs.Places.{of_mark, ticket_of, without}

-- which rows are suspended, once one is changed
suspended_changed : (f : Constraint → Constraint) (rows : List Constraint) (k j : ℕ) → suspended (f no_constraint).state ≡ false → suspended (row_at (changed f rows k) j).state ≡ cond (eqb j k) (suspended (f (row_at rows k)).state) (suspended (row_at rows j).state)
suspended_changed f [] k j past = grind (arith, nat_tests)
suspended_changed f (c ∷ rows) zero zero past = refl
suspended_changed f (c ∷ rows) zero (suc j) past = grind (arith, nat_tests)
suspended_changed f (c ∷ rows) (suc k) zero past = grind (arith, nat_tests)
suspended_changed f (c ∷ rows) (suc k) (suc j) past = grind (arith, nat_tests, suspended_changed f rows k j past)

-- a standing row more
row_more : (rows : List Constraint) (a : Addition) (k : ℕ) → suspended (row_at (rows ++ constraint_of a ∷ []) k).state ≡ suspended (row_at rows k).state
row_more [] a zero = refl
row_more [] a (suc k) = refl
row_more (c ∷ rows) a zero = refl
row_more (c ∷ rows) a (suc k) = row_more rows a k

-- where no row is suspended none is, at any number
none_at : (rows : List Constraint) → suspended_rows rows ≡ 0 → (k : ℕ) → suspended (row_at rows k).state ≡ false
none_at [] e k = refl
none_at (c ∷ rows) e zero = grind (arith, sum_by-cons one c rows)
none_at (c ∷ rows) e (suc k) = none_at rows (omega (arith, sum_by-cons one c rows)) k

-- a change that leaves each row as suspended as it was
due_kept : (f : Constraint → Constraint) → ((c : Constraint) → suspended (f c).state ≡ suspended c.state) → (h : Held) (k j : ℕ) → ticket_due (changed_at f k (holding h)) j ≡ ticket_due (holding h) j
due_kept f same h k j = grind (arith, nat_tests, suspended_changed f h.rows k j (same no_constraint), same (row_at h.rows k))

none_due : (l : Ledger) → now_suspended l ≡ 0 → (k : ℕ) → ticket_due l k ≡ None
none_due nothing e k = refl
none_due (holding h) e k = rw (none_at h.rows e k)

-- accepted or refused
due_unless : (f : Option BoardFault) (after before : Ledger) (k : ℕ) → ticket_due after k ≡ ticket_due before k → ticket_due (unless_refused f after before) k ≡ ticket_due before k
due_unless None after before k same = same
due_unless (Some f) after before k same = refl

pub load_due : (l : Ledger) (bytes : List ℕ) (k : ℕ) → ticket_due (load_after l bytes) k ≡ ticket_due l k
load_due nothing bytes k = none_due (load_after nothing bytes) (load_none bytes) k
load_due (holding h) bytes k = refl

pub add_due : (l : Ledger) (a : Addition) (k : ℕ) → ticket_due (add_after l a) k ≡ ticket_due l k
add_due nothing a k = refl
add_due (holding h) a k = due_unless (add_fault (holding h) a) (with_row (holding h) (constraint_of a)) (holding h) k (rw (row_more h.rows a k))

pub retime_due : (l : Ledger) (number time k : ℕ) → ticket_due (retime_after l number time) k ≡ ticket_due l k
retime_due nothing number time k = refl
retime_due (holding h) number time k = due_unless (retime_fault (holding h) number time) (changed_at (λ c. with_time c time) number (holding h)) (holding h) k (due_kept (λ c. with_time c time) (λ c. refl) h number k)

pub withdraw_due : (l : Ledger) (number k : ℕ) → ticket_due (withdraw_after l number) k ≡ ticket_due l k
withdraw_due nothing number k = refl
withdraw_due (holding h) number k = due_unless (withdraw_fault (holding h) number) (changed_at (moved event.Withdraw) number (holding h)) (holding h) k (due_kept (moved event.Withdraw) withdrawal_keeps h number k)

-- one row's event changes what is due for its number alone
due_moved : (h : Held) (e : LedgerEvent) (k j : ℕ) → ticket_due (changed_at (moved e) k (holding h)) j ≡ cond (eqb j k) (cond (suspended (moved e (row_at h.rows k)).state) (Some (record { mark = h.mark; number = k })) None) (ticket_due (holding h) j)
due_moved h e k j = grind (arith, nat_tests, suspended_changed (moved e) h.rows k j refl)

-- a place written, and one emptied, whether it is there or not
place_written : (places : List (Option Ticket)) (k j : ℕ) (o : Option Ticket) → k < length places → get_or (set places k o) j None ≡ cond (eqb j k) o (get_or places j None)
place_written places k j o lt = grind (arith, nat_tests, elements)

place_emptied : (places : List (Option Ticket)) (k j : ℕ) → get_or (set places k None) j None ≡ cond (eqb j k) None (get_or places j None)
place_emptied places k j = grind (arith, nat_tests, elements, set_past, get_or_past)

-- its ticket is what is due once a constraint is suspended
pub suspended_holds : (l : Ledger) (k : ℕ) (t : Ticket) (places : List (Option Ticket)) → length places ≡ 128 → HoldsTickets l places → k < 128 → suspend_fault l k ≡ None → t.mark ≡ mark_of l → t.number ≡ k → HoldsTickets (suspend_after l k) (set places t.number (Some t))
suspended_holds nothing k t places len held few e mark number j = cc
suspended_holds (holding h) k t places len held few e mark number j =
    let stood = (suspend_accepted h k e).1 in
    let due = simp stood at (due_moved h event.Suspend k j) in
    rw (place_written places t.number j (Some t) (omega arith), e, due, held j) (rw (← mark, ← number) refl)

-- a ticket that is held is the board's own, and its constraint waits for it
own : (h : Held) (mark k : ℕ) (t : Ticket) (b : Bool) → of_mark mark (cond b (Some (record { mark = h.mark; number = k })) None) ≡ Some t → (b ≡ true) × (t ≡ record { mark = h.mark; number = k })
own h mark k t false e = cc
own h mark k t true e = let same : eqb h.mark mark ≡ true = grind (arith, nat_tests) in let is = rw same at e in (refl, cc)

-- once a ticket is spent, none is due for its number
pub spent_holds : (ev : LedgerEvent) → EndsSuspension ev → (l : Ledger) (mark k : ℕ) (t : Ticket) (places : List (Option Ticket)) → HoldsTickets l places → Some t ≡ ticket_of places mark k → HoldsTickets (spend_after ev l t.mark t.number) (without places mark k)
spent_holds ev ends nothing mark k t places held taken j = let none = rw (held k) at taken in cc
spent_holds ev ends (holding h) mark k t places held taken j =
    let is = own h mark k t (suspended (row_at h.rows k).state) (sym (rw (held k) at taken)) in
    let accepted : spend_fault (holding h) t.mark t.number ≡ None = rw is.1 (grind (arith, nat_tests, is.0)) in
    let waits = (spend_accepted h t.mark t.number accepted).1 in
    let due = simp (waits, ends) at (due_moved h ev t.number j) in
    rw (sym taken, place_emptied places k j, accepted, due, is.1, held j) refl
