use Rattle.std.proofs.Common.{w32}
use Rattle.std.proofs.lemmas.Nat.Bits.{bit_at_set_same, bit_at_set_other}
use Rattle.runs.proofs.net.Events.add.Goals as goal

pub returns-clause-added : goal.returns-clause-added
returns-clause-added c = bit_at_set_same w32 c.args.self.now.0 c.args.event c.requires

pub returns-clause-others : goal.returns-clause-others
returns-clause-others c = bit_at_set_other w32 c.args.self.now.0 c.args.event c.requires
