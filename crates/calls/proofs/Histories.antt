-- What holds of every list of calls, by induction on the list from what holds of one call.
use Rattle.std.proofs.Common.{◌≡◌, ◌+◌, Bool, false, cond, ◌&&◌, List, [], ◌∷◌, ◌++◌, is_none, Some, None, Ok, Err, vec_items, Option, Result, refl, ap, arith}
use Rattle.std.specs.List.{zip}
use Rattle.std.proofs.lemmas.List.Sums.{sum_by-cons}
use Rattle.board_file.specs.declared.LoadFault.{LoadFault}
use Rattle.timetable.specs.declared.LedgerEvent.TheVariants as event
use Rattle.timetable.specs.Changes.{with_time, moved}
use Rattle.faults.specs.Causes.{fault_of}
use Rattle.board.specs.declared.fault.BoardFault.{BoardFault}
use Rattle.board.specs.Ledger.{Held, Ledger, nothing, holding, open_fault, opened_as, unless_refused, constraint_of, add_fault, with_row, changed_at, retime_fault, withdraw_fault, suspend_fault, spend_fault}
use Rattle.board.specs.Loads.{load_held, loaded_ledger}
use Rattle.calls.specs.declared.Call.{Call}
use Rattle.calls.specs.declared.Call.TheVariants as call
use Rattle.calls.specs.declared.Reply.{Reply}
use Rattle.calls.specs.Replies.{accepted}
use Rattle.calls.specs.Histories.{call_after, reply_to, ledger_through, replies_to}
use Rattle.calls.specs.Laws.{now_suspended, is_suspension, is_restoration, is_dismissal, accepted_calls, HistoryLaw}
use Rattle.calls.proofs.Balance.{accepted_is, balance_one}

-- a refused call leaves the ledger: every call leaves another only where there is no fault
refused_leaves : (f : Option BoardFault) (after before : Ledger) → is_none f ≡ false → unless_refused f after before ≡ before
refused_leaves None after before refused = cc
refused_leaves (Some f) after before refused = refl

refused_load : (r : Result Held (LoadFault BoardFault)) → is_none (fault_of r) ≡ false → loaded_ledger r ≡ nothing
refused_load (Ok h) refused = cc
refused_load (Err f) refused = refl

pub refusals_leave : (l : Ledger) (c : Call) → accepted (reply_to l c) ≡ false → call_after l c ≡ l
refusals_leave l (call.Open mark events period departures) refused = refused_leaves (open_fault l events period (vec_items departures)) (holding (opened_as mark events period (vec_items departures))) l (rw accepted_is at refused)
refusals_leave nothing (call.Load bytes) refused = refused_load (load_held (vec_items bytes)) (rw accepted_is at refused)
refusals_leave (holding h) (call.Load bytes) refused = refl
refusals_leave l (call.Add a) refused = refused_leaves (add_fault l a) (with_row l (constraint_of a)) l (rw accepted_is at refused)
refusals_leave l (call.Retime k time) refused = refused_leaves (retime_fault l k time) (changed_at (λ c. with_time c time) k l) l (rw accepted_is at refused)
refusals_leave l (call.Withdraw k) refused = refused_leaves (withdraw_fault l k) (changed_at (moved event.Withdraw) k l) l (rw accepted_is at refused)
refusals_leave l (call.Suspend k) refused = refused_leaves (suspend_fault l k) (changed_at (moved event.Suspend) k l) l (rw accepted_is at refused)
refusals_leave l (call.Restore mark k) refused = refused_leaves (spend_fault l mark k) (changed_at (moved event.Restore) k l) l (rw accepted_is at refused)
refusals_leave l (call.Dismiss mark k) refused = refused_leaves (spend_fault l mark k) (changed_at (moved event.Dismiss) k l) l (rw accepted_is at refused)

pub ledger_joined : (l : Ledger) (calls more : List Call) → ledger_through l (calls ++ more) ≡ ledger_through (ledger_through l calls) more
ledger_joined l [] more = refl
ledger_joined l (c ∷ calls) more = ledger_joined (call_after l c) calls more

pub replies_joined : (l : Ledger) (calls more : List Call) → replies_to l (calls ++ more) ≡ replies_to l calls ++ replies_to (ledger_through l calls) more
replies_joined l [] more = refl
replies_joined l (c ∷ calls) more = ap (λ (rs : List Reply). reply_to l c ∷ rs) (replies_joined (call_after l c) calls more)

-- one call more
one_more : (kind : Call → Bool) (l : Ledger) (c : Call) (calls : List Call) → accepted_calls kind (c ∷ calls) (replies_to l (c ∷ calls)) ≡ cond (kind c && accepted (reply_to l c)) 1 0 + accepted_calls kind calls (replies_to (call_after l c) calls)
one_more kind l c calls = sum_by-cons (λ p. cond (kind p.0 && accepted p.1) 1 0) (c, reply_to l c) (zip calls (replies_to (call_after l c) calls))

balanced : (l : Ledger) (calls : List Call) → accepted_calls is_suspension calls (replies_to l calls) + now_suspended l ≡ (accepted_calls is_restoration calls (replies_to l calls) + accepted_calls is_dismissal calls (replies_to l calls)) + now_suspended (ledger_through l calls)
balanced l [] = omega arith
balanced l (c ∷ calls) = omega (arith, one_more is_suspension l c calls, one_more is_restoration l c calls, one_more is_dismissal l c calls, balance_one l c, balanced (call_after l c) calls)

pub history_law : (before : Ledger) (calls : List Call) → HistoryLaw before calls
history_law before calls = record { refusals = refusals_leave; joined_ledger = ledger_joined before calls; joined_replies = replies_joined before calls; balance = balanced before calls }
