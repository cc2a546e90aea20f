use Rattle.planning.specs.Places.{places_of}
use Rattle.planning.specs.Sessions.{session_ledger}
use Rattle.planning.proofs.Held.{spent_holds}
use Rattle.planning.proofs.Session.spend.Goals as goal

pub invariant_of-self-2 : goal.invariant_of-self-2
invariant_of-self-2 g c =
    let s = c.args.self.now in
    let spent = c.requires.1.1.1 _ _ _ _ c.step.ensures in
    record { held = λ k. rw (c.take.ensures.after, spent.1) (spent_holds g.event c.requires.1.0 (session_ledger s) c.args.mark c.from.result c.in-Some.ticket (places_of s.tickets) s.held c.in-Some.ensures.ticket k) }
