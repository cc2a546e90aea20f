use Rattle.std.proofs.Common.{◌∙◌, sym, arith}
use Rattle.planning.specs.Places.{places_of}
use Rattle.planning.specs.Sessions.{session_ledger}
use Rattle.planning.proofs.Closing.{closed_on, none_left, none_held, closed_settled}
use Rattle.planning.proofs.Session.close.Goals as goal

pub loop-preserved : goal.loop-preserved
loop-preserved c = rw (c.dismiss_lowest.ensures.after, closed_on) c.loop.invariant

pub destroy-requires : goal.destroy-requires
destroy-requires c =
    let s = c.dismiss_lowest.new.self in
    let last = c.dismiss_lowest.ensures in
    let none = none_left (session_ledger c.loop.self) (session_ledger s) c.dismiss_lowest.result (sym c.loop-test.ensures) last.ticket last.after in
    none_held (session_ledger s) (places_of s.tickets) (omega arith) s.held none

pub returns : goal.returns
returns c =
    let s = c.dismiss_lowest.new.self in
    let last = c.dismiss_lowest.ensures in
    let none = none_left (session_ledger c.loop.self) (session_ledger s) c.dismiss_lowest.result (sym c.loop-test.ensures) last.ticket last.after in
    sym (closed_settled (session_ledger s) (places_of s.tickets) (omega arith) s.held none) ∙ rw (last.after, closed_on) c.loop.invariant
