-- Closing a session: the first ticket that it holds is that of the lowest suspended number; dismissing it leaves one suspended constraint
-- less, and in the end all that was suspended is withdrawn.
use Rattle.std.proofs.Common.{◌≡◌, ℕ, zero, suc, ◌<◌, Bool, true, false, cond, List, [], ◌∷◌, map, length, get_or, is_some, Some, None, Option, unwrap_or, refl, ap, ◌∙◌, sym, ⊎_elim, arith}
use Rattle.std.specs.Option.{option_map}
use Rattle.std.proofs.lemmas.Bool.{cases_lt}
use Rattle.std.proofs.lemmas.Bool.Decides.{nat_tests}
use Rattle.std.proofs.lemmas.List.{get_or_past}
use Rattle.runs.specs.Gaining.{found_or, lowest}
use Rattle.timetable.specs.declared.Constraint.{Constraint}
use Rattle.timetable.specs.declared.State.{State}
use Rattle.timetable.specs.declared.State.TheVariants.{Standing, Suspended, Withdrawn}
use Rattle.timetable.specs.declared.LedgerEvent.TheVariants.{Dismiss}
use Rattle.timetable.specs.Words.{suspended, row_at}
use Rattle.timetable.specs.Changes.{state_after, with_state, moved, changed}
use Rattle.board.specs.declared.Ticket.{Ticket}
use Rattle.board.specs.declared.fault.BoardFault.{BoardFault}
use Rattle.board.specs.Ledger.{Ledger, nothing, holding, mark_of, unless_refused, changed_at, spend_fault, spend_after}
use Rattle.calls.specs.Laws.{now_suspended}
use Rattle.calls.proofs.Balance.{spending_one}
use Rattle.planning.specs.Tickets.{suspended_in, HoldsTickets, lowest_ticket, dismissed_lowest, closed}
use Rattle.planning.specs.Places.{NoneHeld, FirstHeld}

not_found : (o : Option ℕ) (b : Bool) (n : ℕ) → found_or o b n ≡ None → (o ≡ None) × (b ≡ false)
not_found (Some k) b n e = cc
not_found None true n e = cc
not_found None false n e = (refl, refl)

-- the lowest number that passes a test, by what passes below it
module _ (passes : ℕ → Bool) where
  lowest_none : (n : ℕ) → ((j : ℕ) → j < n → passes j ≡ false) → lowest passes n ≡ None
  lowest_none zero fails = refl
  lowest_none (suc n) fails = rw (lowest_none n (λ j lt. fails j (omega arith)), fails n (omega arith)) refl

  lowest_is : (n j : ℕ) → j < n → passes j ≡ true → ((i : ℕ) → i < j → passes i ≡ false) → lowest passes n ≡ Some j
  lowest_is zero j lt good before = absurd (omega arith)
  lowest_is (suc n) j lt good before = ⊎_elim (λ lower. rw (lowest_is n j lower good before) refl) (λ le. let same : n ≡ j = omega arith in rw (same, lowest_none j before, good) refl) (cases_lt j n)

  none_passes : (n : ℕ) → lowest passes n ≡ None → (j : ℕ) → j < n → passes j ≡ false
  none_passes zero none j lt = absurd (omega arith)
  none_passes (suc n) none j lt =
      let fails = not_found (lowest passes n) (passes n) n none in
      ⊎_elim (λ lower. none_passes n fails.0 j lower) (λ le. let same : j ≡ n = omega arith in rw same fails.1) (cases_lt j n)

-- where a ticket is due, and where none is
due_some : (t u : Ticket) (b : Bool) → cond b (Some t) None ≡ Some u → (b ≡ true) × (t ≡ u)
due_some t u false e = cc
due_some t u true e = (refl, cc)

due_none : (t : Ticket) (b : Bool) → cond b (Some t) None ≡ None → b ≡ false
due_none t false e = refl
due_none t true e = cc

-- the first ticket held is the board's own, of a number that is suspended
first_due : (l : Ledger) (places : List (Option Ticket)) (name : ℕ × ℕ) → HoldsTickets l places → FirstHeld places name → (suspended_in l name.1 ≡ true) × (mark_of l ≡ name.0)
first_due l places name held first =
    let due = due_some _ _ (suspended_in l name.1) (sym (held name.1) ∙ first.0) in
    (due.0, ap (λ (t : Ticket). t.mark) due.1)

-- a place that holds a ticket is there
held_inside : (places : List (Option Ticket)) (k : ℕ) (t : Ticket) → get_or places k None ≡ Some t → k < length places
held_inside places k t e = ⊎_elim (λ lt. lt) (λ past. let none = rw (get_or_past places k None past) at e in cc) (cases_lt k (length places))

-- the first ticket held is that of the lowest suspended number, and where none is held, none is suspended
pub first_lowest : (l : Ledger) (places : List (Option Ticket)) (n : ℕ) (name : ℕ × ℕ) → length places ≡ n → HoldsTickets l places → FirstHeld places name → Some name ≡ option_map {U = ℕ × ℕ} (λ k. (mark_of l, k)) (lowest (suspended_in l) n)
first_lowest l places n name len held first =
    let due = first_due l places name held first in
    let inside : name.1 < n = omega (arith, held_inside places name.1 _ first.0) in
    rw (lowest_is (suspended_in l) n name.1 inside due.0 (λ j lt. due_none _ (suspended_in l j) (sym (held j) ∙ first.1 j lt)), due.1) refl

pub none_lowest : (l : Ledger) (places : List (Option Ticket)) (n : ℕ) → HoldsTickets l places → NoneHeld places → None ≡ option_map {U = ℕ × ℕ} (λ k. (mark_of l, k)) (lowest (suspended_in l) n)
none_lowest l places n held none = rw (lowest_none (suspended_in l) n (λ j lt. due_none _ (suspended_in l j) (sym (held j) ∙ none j))) refl

-- its dismissal leaves one suspended constraint less
accepted_due : (l : Ledger) (k : ℕ) → suspended_in l k ≡ true → spend_fault l (mark_of l) k ≡ None
accepted_due nothing k e = cc
accepted_due (holding h) k e = grind (arith, nat_tests)

pub one_less : (l : Ledger) (places : List (Option Ticket)) (name : ℕ × ℕ) → HoldsTickets l places → FirstHeld places name → now_suspended (spend_after Dismiss l name.0 name.1) < now_suspended l
one_less l places name held first =
    let due = first_due l places name held first in
    let accepted = rw due.1 at (accepted_due l name.1 due.0) in
    let less = rw accepted at (spending_one Dismiss refl l name.0 name.1 (spend_fault l name.0 name.1) refl) in
    rw accepted (omega (arith, less))

-- dismissing one row first changes nothing of what all dismissals leave
again : (c : Constraint) → moved Dismiss (moved Dismiss c) ≡ moved Dismiss c
again c = elim c.state as (λ s. moved Dismiss (moved Dismiss (with_state c s)) ≡ moved Dismiss (with_state c s)) [ Standing ↦ refl | Suspended ↦ refl | Withdrawn ↦ refl ]

rows_again : (rows : List Constraint) (k : ℕ) → map (moved Dismiss) (changed (moved Dismiss) rows k) ≡ map (moved Dismiss) rows
rows_again [] k = refl
rows_again (c ∷ rows) zero = ap (λ (x : Constraint). x ∷ map (moved Dismiss) rows) (again c)
rows_again (c ∷ rows) (suc k) = ap (λ (xs : List Constraint). moved Dismiss c ∷ xs) (rows_again rows k)

closed_unless : (f : Option BoardFault) (l : Ledger) (k : ℕ) → closed (unless_refused f (changed_at (moved Dismiss) k l) l) ≡ closed l
closed_unless (Some f) l k = refl
closed_unless None nothing k = refl
closed_unless None (holding h) k = rw (rows_again h.rows k) refl

pub closed_on : (l : Ledger) (name : Option (ℕ × ℕ)) → closed (dismissed_lowest l name) ≡ closed l
closed_on l None = refl
closed_on l (Some name) = closed_unless (spend_fault l name.0 name.1) l name.1

-- where there is no lowest ticket, nothing is suspended: no ticket is held, and dismissing all changes nothing
not_mapped : (mark : ℕ) (o : Option ℕ) → option_map {U = ℕ × ℕ} (λ k. (mark, k)) o ≡ None → o ≡ None
not_mapped mark None e = refl
not_mapped mark (Some k) e = cc

none_suspended : (l : Ledger) (places : List (Option Ticket)) (n : ℕ) → length places ≡ n → HoldsTickets l places → option_map {U = ℕ × ℕ} (λ k. (mark_of l, k)) (lowest (suspended_in l) n) ≡ None → (k : ℕ) → suspended_in l k ≡ false
none_suspended l places n len held none k =
    ⊎_elim
    (λ inside. none_passes (suspended_in l) n (not_mapped (mark_of l) (lowest (suspended_in l) n) none) k inside)
    (λ past. due_none _ (suspended_in l k) (sym (held k) ∙ get_or_past places k None (omega arith)))
    (cases_lt k n)

-- a session that has no ticket left to dismiss
pub none_left : (l m : Ledger) (name : Option (ℕ × ℕ)) → is_some name ≡ false → name ≡ lowest_ticket l → m ≡ dismissed_lowest l name → lowest_ticket m ≡ None
none_left l m None last is after = rw after (sym is)
none_left l m (Some name) last is after = cc

pub none_held : (l : Ledger) (places : List (Option Ticket)) → length places ≡ 128 → HoldsTickets l places → lowest_ticket l ≡ None → NoneHeld places
none_held l places len held none k = rw (held k, none_suspended l places 128 len held none k) refl

row_settled : (c : Constraint) → suspended c.state ≡ false → moved Dismiss c ≡ c
row_settled c e = ap (with_state c) (state_settled c.state e)
  where
    state_settled : (s : State) → suspended s ≡ false → unwrap_or (state_after s Dismiss) s ≡ s
    state_settled Standing e = refl
    state_settled Suspended e = cc
    state_settled Withdrawn e = refl

rows_settled : (rows : List Constraint) → ((k : ℕ) → suspended (row_at rows k).state ≡ false) → map (moved Dismiss) rows ≡ rows
rows_settled [] none = refl
rows_settled (c ∷ rows) none = rw (row_settled c (none 0), rows_settled rows (λ k. none (suc k))) refl

pub closed_settled : (l : Ledger) (places : List (Option Ticket)) → length places ≡ 128 → HoldsTickets l places → lowest_ticket l ≡ None → closed l ≡ l
closed_settled nothing places len held none = refl
closed_settled (holding h) places len held none = rw (rows_settled h.rows (none_suspended (holding h) places 128 len held none)) refl
