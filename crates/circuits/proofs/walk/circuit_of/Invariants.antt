use Rattle.std.proofs.Common.{◌≡◌, length, take}
use Rattle.circuits.proofs.walk.circuit_of.Given as goal

abbrev pub invariant-loop-place : goal.invariant-loop-place
invariant-loop-place l = (length l.arcs ≡ 32) × (take l.place l.arcs ≡ take l.place l.numbers)
