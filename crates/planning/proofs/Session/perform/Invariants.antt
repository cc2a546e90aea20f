use Rattle.std.proofs.Common.{◌≡◌, ◌+◌, ◌-◌, ◌≤◌, ◌++◌, length, drop, vec_items, vec_len, vec_capacity}
use Rattle.calls.specs.Histories.{ledger_through, replies_to}
use Rattle.planning.specs.Sessions.{session_ledger}
use Rattle.planning.proofs.Session.perform.Given as goal

abbrev pub invariant-loop-call : goal.invariant-loop-call
invariant-loop-call l = record {
  ledger : ledger_through (session_ledger l.self) (drop l.call-index l.calls) ≡ ledger_through (session_ledger l.initial.self) l.calls;
  replies : vec_items l.replies ++ replies_to (session_ledger l.self) (drop l.call-index l.calls) ≡ vec_items l.initial.replies ++ replies_to (session_ledger l.initial.self) l.calls;
  room : vec_len l.replies + (length l.calls - l.call-index) ≤ vec_capacity l.replies;
}
