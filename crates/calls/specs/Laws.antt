-- What holds of every list of calls.
use Rattle.std.specs.Prelude.{◌≡◌, ℕ, ◌+◌, Bool, true, false, ◌&&◌, List, ◌++◌, count_by, zip}
use Rattle.timetable.specs.declared.Constraint.{Constraint}
use Rattle.timetable.specs.Words.{suspended}
use Rattle.board.specs.Ledger.{Ledger, nothing, holding}
use Rattle.calls.specs.declared.Call.{Call}
use Rattle.calls.specs.declared.Call.TheVariants as call
use Rattle.calls.specs.declared.Reply.{Reply}
use Rattle.calls.specs.Replies.{accepted}
use Rattle.calls.specs.Histories.{call_after, reply_to, ledger_through, replies_to}

-- how many rows are suspended
abbrev pub suspended_rows : List Constraint → ℕ
suspended_rows rows = count_by (λ c. suspended c.state) rows

-- how many constraints are suspended now
abbrev pub now_suspended : Ledger → ℕ
now_suspended nothing = 0
now_suspended (holding h) = suspended_rows h.rows

-- a call that suspends
abbrev pub is_suspension : Call → Bool
is_suspension (call.Suspend number) = true
is_suspension _ = false

-- a call that restores
abbrev pub is_restoration : Call → Bool
is_restoration (call.Restore mark number) = true
is_restoration _ = false

-- a call that dismisses
abbrev pub is_dismissal : Call → Bool
is_dismissal (call.Dismiss mark number) = true
is_dismissal _ = false

-- how many calls of a kind were accepted
abbrev pub accepted_calls : (Call → Bool) → List Call → List Reply → ℕ
accepted_calls kind calls replies = count_by (λ p. kind p.0 && accepted p.1) (zip calls replies)

-- what holds of a list of calls from what the ledger held before: a refused call changes nothing; performing two lists in turn is performing
-- one behind the other; and accepted suspensions, with what was suspended before, are accepted restorations and accepted
-- dismissals, with what is suspended now
pub record HistoryLaw (before : Ledger) (calls : List Call) : Type 0 where
  pub refusals : (l : Ledger) (c : Call) → accepted (reply_to l c) ≡ false → call_after l c ≡ l
  pub joined_ledger : (more : List Call) → ledger_through before (calls ++ more) ≡ ledger_through (ledger_through before calls) more
  pub joined_replies : (more : List Call) → replies_to before (calls ++ more) ≡ replies_to before calls ++ replies_to (ledger_through before calls) more
  pub balance : accepted_calls is_suspension calls (replies_to before calls) + now_suspended before ≡ (accepted_calls is_restoration calls (replies_to before calls) + accepted_calls is_dismissal calls (replies_to before calls)) + now_suspended (ledger_through before calls)
