use Rattle.planning.proofs.Held.{load_due, add_due, retime_due, withdraw_due}
use Rattle.planning.proofs.Session.answer.Goals as goal

pub invariant_of-self-in-Load : goal.invariant_of-self-in-Load
invariant_of-self-in-Load c = record { held = λ k. rw (c.load.ensures.after, load_due) (c.args.self.now.held k) }

pub invariant_of-self-in-Add : goal.invariant_of-self-in-Add
invariant_of-self-in-Add c = record { held = λ k. rw (c.add.ensures.after, add_due) (c.args.self.now.held k) }

pub invariant_of-self-in-Retime : goal.invariant_of-self-in-Retime
invariant_of-self-in-Retime c = record { held = λ k. rw (c.retime.ensures.after, retime_due) (c.args.self.now.held k) }

pub invariant_of-self-in-Withdraw : goal.invariant_of-self-in-Withdraw
invariant_of-self-in-Withdraw c = record { held = λ k. rw (c.withdraw.ensures.after, withdraw_due) (c.args.self.now.held k) }
