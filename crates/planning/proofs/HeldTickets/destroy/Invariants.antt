use Rattle.std.proofs.Common.{vec_items, vec_len}
use Rattle.planning.specs.Places.{NoneHeld}
use Rattle.planning.proofs.HeldTickets.destroy.Given as goal

abbrev pub invariant-loop-place : goal.invariant-loop-place
invariant-loop-place l = NoneHeld (vec_items l.places)

abbrev pub decreases-loop-place : goal.decreases-loop-place
decreases-loop-place l = vec_len l.places
