use Rattle.calls.specs.Laws.{now_suspended}
use Rattle.planning.specs.Sessions.{session_ledger}
use Rattle.planner.proofs.print_closing.Given as goal

abbrev pub decreases-loop-mark : goal.decreases-loop-mark
decreases-loop-mark l = now_suspended (session_ledger l.session)
