use Rattle.std.proofs.Common.{◌∙◌, w32}
use Rattle.std.proofs.lemmas.Nat.Bits.{bit_at_set_same, bit_at_set_other, bit_at-zero}
use Rattle.runs.proofs.net.Events.only.Goals as goal

pub returns-then-event-lt32-clause-added : goal.returns-then-event-lt32-clause-added
returns-then-event-lt32-clause-added c = λ h. bit_at_set_same w32 0 c.args.event h

pub returns-then-event-lt32-clause-others : goal.returns-then-event-lt32-clause-others
returns-then-event-lt32-clause-others c = λ e ne. bit_at_set_other w32 0 c.args.event c.if-event-lt32.true e ne ∙ bit_at-zero e
