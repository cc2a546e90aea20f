use Rattle.std.proofs.Common.{◌≡◌, ◌≤◌, vec_items, vec_len, vec_capacity}
use Rattle.planning.specs.Places.{NoneHeld}
use Rattle.planning.proofs.HeldTickets.new.Given as goal

abbrev pub invariant-loop : goal.invariant-loop
invariant-loop l = NoneHeld (vec_items l.places) × (vec_len l.places ≡ l.counter) × (128 ≤ vec_capacity l.places)
