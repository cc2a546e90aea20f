use Rattle.std.proofs.Common.{◌∙◌, arith}
use Rattle.planning.specs.Places.{places_of}
use Rattle.planning.specs.Sessions.{session_ledger}
use Rattle.planning.proofs.Closing.{first_lowest, none_lowest, one_less}
use Rattle.planning.proofs.Session.dismiss_lowest.Goals as goal

pub returns-in_err-mark-clause-ticket : goal.returns-in_err-mark-clause-ticket
returns-in_err-mark-clause-ticket c =
    let s = c.args.self.now in
    c.from_residual.ensures ∙ none_lowest (session_ledger s) (places_of s.tickets) 128 s.held c.in_err-mark.ensures.none

pub returns-clause-ticket : goal.returns-clause-ticket
returns-clause-ticket c =
    let s = c.args.self.now in
    first_lowest (session_ledger s) (places_of s.tickets) 128 (c.in_ok-mark.mark, c.in_ok-mark.number) (omega arith) s.held c.in_ok-mark.ensures.first

pub returns-clause-fewer : goal.returns-clause-fewer
returns-clause-fewer c =
    let s = c.args.self.now in
    rw c.spend.ensures.after (one_less (session_ledger s) (places_of s.tickets) (c.in_ok-mark.mark, c.in_ok-mark.number) s.held c.in_ok-mark.ensures.first)
