use Rattle.calls.proofs.Histories.{history_law}
use Rattle.planning.specs.Sessions.{session_ledger}
use Rattle.planning.proofs.Session.perform.Goals as goal

pub returns-in_err-reserve-clause-law : goal.returns-in_err-reserve-clause-law
returns-in_err-reserve-clause-law c = history_law (session_ledger c.args.self.now) c.args.calls.now

pub returns-clause-law : goal.returns-clause-law
returns-clause-law c = history_law (session_ledger c.args.self.now) c.args.calls.now
