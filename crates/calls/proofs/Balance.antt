-- How many constraints are suspended after each call: one more by an accepted suspension, one less by an accepted restoration or dismissal, and
-- as many as before by every other call. A loaded board has none.
use Rattle.std.proofs.Common.{◌≡◌, ℕ, zero, suc, ◌+◌, false, cond, ◌&&◌, List, [], ◌∷◌, ◌++◌, IfOk, is_ok, is_none, unwrap_or, Some, None, Ok, Err, vec_items, Option, Result, refl, ◌∙◌, arith}
use Rattle.std.specs.Option.{option_map}
use Rattle.std.proofs.lemmas.List.Sums.{sum_by-cons, sum_by_push}
use Rattle.timetable.specs.declared.Addition.{Addition}
use Rattle.timetable.specs.declared.Constraint.{Constraint}
use Rattle.timetable.specs.declared.State.TheVariants.{Standing, Suspended, Withdrawn}
use Rattle.timetable.specs.declared.LedgerEvent.{LedgerEvent}
use Rattle.timetable.specs.declared.LedgerEvent.TheVariants as event
use Rattle.timetable.specs.Words.{suspended, no_constraint, row_at}
use Rattle.timetable.specs.Changes.{state_after, with_time, moved, changed}
use Rattle.board_file.specs.declared.LoadFault.{LoadFault}
use Rattle.board_file.specs.declared.OpeningRecord.{OpeningRecord}
use Rattle.board_file.specs.Loading.{and_then}
use Rattle.board_file.proofs.Keeps.{load_keeps}
use Rattle.board.specs.declared.fault.BoardFault.{BoardFault}
use Rattle.board.specs.Ledger.{Held, Ledger, nothing, holding, open_fault, opened_as, unless_refused, constraint_of, add_fault, grown, changed_at, retime_fault, withdraw_fault, suspend_fault, spend_fault}
use Rattle.board.specs.Loads.{unless_fault as held_unless, judged_at_opening, opened_by, performed_by, load_held, loaded_ledger, load_after}
use Rattle.calls.specs.declared.Answer.{Answer}
use Rattle.calls.specs.declared.Call.{Call}
use Rattle.calls.specs.declared.Call.TheVariants as call
use Rattle.calls.specs.declared.CallFault.{CallFault}
use Rattle.calls.specs.Replies.{accepted}
use Rattle.calls.specs.Histories.{unless_fault, call_after, reply_to}
use Rattle.calls.specs.Laws.{suspended_rows, now_suspended, is_suspension, is_restoration, is_dismissal}
use Rattle.calls.proofs.Accepted.{suspend_accepted, spend_accepted}

-- what a row adds to the count of those suspended
abbrev pub one : Constraint → ℕ
one c = cond (suspended c.state) 1 0

-- one row changed: what its state adds before and after
pub count_changed : (f : Constraint → Constraint) (rows : List Constraint) (k : ℕ) → suspended (f no_constraint).state ≡ false → cond (suspended (row_at rows k).state) 1 0 + suspended_rows (changed f rows k) ≡ cond (suspended (f (row_at rows k)).state) 1 0 + suspended_rows rows
count_changed f [] k past = grind arith
count_changed f (c ∷ rows) zero past = omega (arith, sum_by-cons one c rows, sum_by-cons one (f c) rows)
count_changed f (c ∷ rows) (suc k) past = omega (arith, sum_by-cons one c rows, sum_by-cons one c (changed f rows k), count_changed f rows k past)

-- a standing row more
count_more : (rows : List Constraint) (a : Addition) → suspended_rows (rows ++ constraint_of a ∷ []) ≡ suspended_rows rows
count_more rows a = omega (arith, sum_by_push one rows (constraint_of a))

pub withdrawal_keeps : (c : Constraint) → suspended (moved event.Withdraw c).state ≡ suspended c.state
withdrawal_keeps c = elim c.state as (λ s. suspended (moved event.Withdraw (record { from = c.from; to = c.to; time = c.time; tokens = c.tokens; days = c.days; letter = c.letter; state = s })).state ≡ suspended s) [ Standing ↦ refl | Suspended ↦ refl | Withdrawn ↦ refl ]

-- a loaded board has no suspended constraint
NoneSuspended : Held → Type 0
NoneSuspended h = suspended_rows h.rows ≡ 0

opens_none : (o : OpeningRecord) (departures : List ℕ) → IfOk (opened_by o departures) NoneSuspended
unfolding NoneSuspended
opens_none o departures = elim (open_fault nothing o.events o.period departures) as (λ f. IfOk (held_unless f (opened_as o.mark o.events o.period departures)) NoneSuspended) [ None ↦ refl | Some f ↦ tt ]

performs_none : (h : Held) (a : Addition) → NoneSuspended h → IfOk (performed_by h a) NoneSuspended
unfolding NoneSuspended
performs_none h a none = elim (add_fault (holding h) a) as (λ f. IfOk (and_then (held_unless f (grown h (constraint_of a))) (λ k. Ok k)) NoneSuspended) [ None ↦ count_more h.rows a ∙ none | Some f ↦ tt ]

loaded_none : (r : Result Held (LoadFault BoardFault)) → IfOk r NoneSuspended → now_suspended (loaded_ledger r) ≡ 0
unfolding NoneSuspended
loaded_none (Ok h) none = none
loaded_none (Err f) none = refl

pub load_none : (bytes : List ℕ) → now_suspended (load_after nothing bytes) ≡ 0
unfolding load_held
load_none bytes = loaded_none (load_held bytes) (load_keeps NoneSuspended judged_at_opening opened_by performed_by opens_none performs_none bytes)

unless_keeps : (f : Option BoardFault) (after before : Ledger) → now_suspended after ≡ now_suspended before → now_suspended (unless_refused f after before) ≡ now_suspended before
unless_keeps None after before same = same
unless_keeps (Some f) after before same = refl

-- a change that leaves each row as suspended as it was
kept : (f : Constraint → Constraint) → ((c : Constraint) → suspended (f c).state ≡ suspended c.state) → (l : Ledger) (k : ℕ) → now_suspended (changed_at f k l) ≡ now_suspended l
kept f same nothing k = refl
kept f same (holding h) k = grind (arith, count_changed f h.rows k (same no_constraint), same (row_at h.rows k))

-- an accepted suspension is one more
suspension_one : (l : Ledger) (k : ℕ) (f : Option BoardFault) → suspend_fault l k ≡ f → cond (is_none f) 1 0 + now_suspended l ≡ now_suspended (unless_refused f (changed_at (moved event.Suspend) k l) l)
suspension_one l k (Some f) e = omega arith
suspension_one nothing k None e = cc
suspension_one (holding h) k None e = let count = simp (suspend_accepted h k e).1 at (count_changed (moved event.Suspend) h.rows k refl) in omega (arith, count)

-- a ticket that is spent on the end of its suspension is one less
pub spending_one : (ev : LedgerEvent) → suspended (unwrap_or (state_after Suspended ev) Suspended) ≡ false → (l : Ledger) (mark k : ℕ) (f : Option BoardFault) → spend_fault l mark k ≡ f → now_suspended l ≡ cond (is_none f) 1 0 + now_suspended (unless_refused f (changed_at (moved ev) k l) l)
spending_one ev ends l mark k (Some f) e = omega arith
spending_one ev ends nothing mark k None e = cc
spending_one ev ends (holding h) mark k None e = let count = simp ((spend_accepted h mark k e).1, ends) at (count_changed (moved ev) h.rows k refl) in omega (arith, count)

-- a call is accepted where it gets no fault
pub accepted_is : {F : Type 0} (by : F → CallFault) (f : Option F) (a : Answer) → is_ok (unless_fault (option_map by f) a) ≡ is_none f
accepted_is by None a = refl
accepted_is by (Some f) a = refl

pub balance_one : (l : Ledger) (c : Call) → cond (is_suspension c && accepted (reply_to l c)) 1 0 + now_suspended l ≡ cond (is_restoration c && accepted (reply_to l c)) 1 0 + cond (is_dismissal c && accepted (reply_to l c)) 1 0 + now_suspended (call_after l c)
balance_one nothing (call.Open mark events period departures) = omega (arith, unless_keeps (open_fault nothing events period (vec_items departures)) (holding (opened_as mark events period (vec_items departures))) nothing refl)
balance_one (holding h) (call.Open mark events period departures) = refl
balance_one nothing (call.Load bytes) = omega (arith, load_none (vec_items bytes))
balance_one (holding h) (call.Load bytes) = refl
balance_one nothing (call.Add a) = refl
balance_one (holding h) (call.Add a) = omega (arith, unless_keeps (add_fault (holding h) a) (holding (grown h (constraint_of a))) (holding h) (count_more h.rows a))
balance_one l (call.Retime k time) = omega (arith, unless_keeps (retime_fault l k time) (changed_at (λ c. with_time c time) k l) l (kept (λ c. with_time c time) (λ c. refl) l k))
balance_one l (call.Withdraw k) = omega (arith, unless_keeps (withdraw_fault l k) (changed_at (moved event.Withdraw) k l) l (kept (moved event.Withdraw) withdrawal_keeps l k))
balance_one l (call.Suspend k) = rw accepted_is (omega (arith, suspension_one l k (suspend_fault l k) refl))
balance_one l (call.Restore mark k) = rw accepted_is (omega (arith, spending_one event.Restore refl l mark k (spend_fault l mark k) refl))
balance_one l (call.Dismiss mark k) = rw accepted_is (omega (arith, spending_one event.Dismiss refl l mark k (spend_fault l mark k) refl))
