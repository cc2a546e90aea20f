use Rattle.std.proofs.Common.{◌≡◌}
use Rattle.calls.specs.Laws.{now_suspended}
use Rattle.planning.specs.Tickets.{closed}
use Rattle.planning.specs.Sessions.{session_ledger}
use Rattle.planning.proofs.Session.close.Given as goal

abbrev pub invariant-loop : goal.invariant-loop
invariant-loop l = closed (session_ledger l.self) ≡ closed (session_ledger l.initial.self)

abbrev pub decreases-loop : goal.decreases-loop
decreases-loop l = now_suspended (session_ledger l.self)
