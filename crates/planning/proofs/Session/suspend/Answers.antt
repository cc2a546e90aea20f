use Rattle.std.proofs.Common.{◌<◌, sym, arith}
use Rattle.std.proofs.lemmas.Grind.{common_steps}
use Rattle.planning.specs.Places.{places_of}
use Rattle.planning.specs.Sessions.{session_ledger}
use Rattle.planning.proofs.Held.{suspended_holds}
use Rattle.planning.proofs.Session.suspend.Goals as goal

pub invariant_of-self-2 : goal.invariant_of-self-2
invariant_of-self-2 c =
    let s = c.args.self.now in
    let done = c.in_ok-ticket.ensures in
    let few : c.args.number < 128 = grind (arith, common_steps) in
    record { held = λ k. rw (c.put.ensures, done.after) (suspended_holds (session_ledger s) c.board_number.result c.in_ok-ticket.ticket (places_of s.tickets) (omega arith) s.held (omega arith) (sym done.reply) done.ticket.0 done.ticket.1 k) }
