-- A number above all that a ledger can have given gets the fault that 255 gets: it was never given. So a call may name any number of sixteen bits.
use Rattle.std.proofs.Common.{◌≡◌, ℕ, ◌≤◌, min, Bool, true, false, ltb, leb, List, length, Some, None, Option, Ok, Err, Result, IfOk, sym, refl, ap, ◌∙◌, ◌⊎◌, inl, inr, ⊎_elim, arith}
use Rattle.std.proofs.lemmas.Bool.{cases_Bool, ltb-true}
use Rattle.std.proofs.lemmas.Bool.Decides.{nat_tests}
use Rattle.faults.specs.Causes.{unless, fault_of}
use Rattle.timetable.specs.declared.Constraint.{Constraint}
use Rattle.timetable.specs.Words.{stands, row_at}
use Rattle.board.specs.declared.fault.BoardFault.{BoardFault}
use Rattle.board.specs.declared.fault.BoardFault.TheVariants.{Number, Time, NotStanding}
use Rattle.board.specs.Ledger.{Ledger, nothing, holding, unless_refused, standing_fault, retime_fault, retime_after, withdraw_fault, withdraw_after, suspend_fault, suspend_after, mark_of}
use Rattle.board.specs.declared.Ticket.{Ticket}
use Rattle.board.specs.Lending.{rows_of}
use Rattle.calls.proofs.Accepted.{suspend_accepted}

-- the number as it is taken is the number, or neither was ever given
as_taken : (count n : ℕ) → count ≤ 128 → (min n 255 ≡ n) ⊎ ((ltb (min n 255) count ≡ false) × (ltb n count ≡ false))
as_taken count n few =
    ⊎_elim (λ e. inl (omega (arith, ltb-true, e))) (λ e. inr (grind (arith, nat_tests), e)) (cases_Bool (ltb n count))

-- a number that was never given has that fault, whatever would be asked of its row
never_given : (rows : List Constraint) (k : ℕ) (next : Option BoardFault) → ltb k (length rows) ≡ false → standing_fault rows k next ≡ Some Number
never_given rows k next e = ap (λ b. unless b Number (unless (stands (row_at rows k).state) NotStanding next)) e

-- what is refused leaves the ledger
left_alone : (fault : Option BoardFault) (after before : Ledger) (f : BoardFault) → fault ≡ Some f → unless_refused fault after before ≡ before
left_alone fault after before f e = ap (λ r. unless_refused r after before) e

refused_either : (b : Bool) (fault : Option BoardFault) (after before : Ledger) → fault ≡ unless b Time (Some Number) → unless_refused fault after before ≡ before
refused_either true fault after before e = left_alone fault after before Number e
refused_either false fault after before e = left_alone fault after before Time e

pub withdraw_taken : (l : Ledger) (n : ℕ) → length (rows_of l) ≤ 128 → (withdraw_fault l (min n 255) ≡ withdraw_fault l n) × (withdraw_after l (min n 255) ≡ withdraw_after l n)
withdraw_taken nothing n few = (refl, refl)
withdraw_taken (holding h) n few =
    ⊎_elim
    (λ e. (ap (withdraw_fault (holding h)) e, ap (withdraw_after (holding h)) e))
    (λ e.
    let small = never_given h.rows (min n 255) None e.0 in
    let large = never_given h.rows n None e.1 in
    (small ∙ sym large, left_alone _ _ _ Number small ∙ sym (left_alone _ _ _ Number large)))
    (as_taken (length h.rows) n few)

pub suspend_taken : (l : Ledger) (n : ℕ) → length (rows_of l) ≤ 128 → (suspend_fault l (min n 255) ≡ suspend_fault l n) × (suspend_after l (min n 255) ≡ suspend_after l n)
suspend_taken nothing n few = (refl, refl)
suspend_taken (holding h) n few =
    ⊎_elim
    (λ e. (ap (suspend_fault (holding h)) e, ap (suspend_after (holding h)) e))
    (λ e.
    let small : suspend_fault (holding h) (min n 255) ≡ Some Number = never_given h.rows (min n 255) _ e.0 in
    let large : suspend_fault (holding h) n ≡ Some Number = never_given h.rows n _ e.1 in
    (small ∙ sym large, left_alone _ _ _ Number small ∙ sym (left_alone _ _ _ Number large)))
    (as_taken (length h.rows) n few)

pub retime_taken : (l : Ledger) (n time : ℕ) → length (rows_of l) ≤ 128 → (retime_fault l (min n 255) time ≡ retime_fault l n time) × (retime_after l (min n 255) time ≡ retime_after l n time)
retime_taken nothing n time few = (refl, refl)
retime_taken (holding h) n time few =
    ⊎_elim
    (λ e. (ap (λ k. retime_fault (holding h) k time) e, ap (λ k. retime_after (holding h) k time) e))
    (λ e.
    let small = never_given h.rows (min n 255) None e.0 in
    let large = never_given h.rows n None e.1 in
    let low : retime_fault (holding h) (min n 255) time ≡ unless (leb time 14400) Time (Some Number) = ap (unless (leb time 14400) Time) small in
    let high : retime_fault (holding h) n time ≡ unless (leb time 14400) Time (Some Number) = ap (unless (leb time 14400) Time) large in
    (low ∙ sym high, refused_either (leb time 14400) _ _ _ low ∙ sym (refused_either (leb time 14400) _ _ _ high)))
    (as_taken (length h.rows) n few)

-- an accepted suspension's number is the number itself, and so is its ticket's
pub ticket_taken : (l : Ledger) (n m : ℕ) (r : Result Ticket BoardFault) → length (rows_of l) ≤ 128 → m ≡ min n 255 → fault_of r ≡ suspend_fault l m → IfOk r (λ t. (t.mark ≡ mark_of l) × (t.number ≡ m)) → IfOk r (λ t. (t.mark ≡ mark_of l) × (t.number ≡ n))
ticket_taken nothing n m (Ok t) few e none made = absurd (cc)
ticket_taken (holding h) n m (Ok t) few e none made =
    let row = suspend_accepted h m (sym none) in
    (made.0, omega (arith, row.0, made.1))
ticket_taken l n m (Err f) few e none made = tt
