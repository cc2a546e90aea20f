-- A board without constraints: there is no circuit, and nothing is out of range.
use Rattle.std.proofs.Common.{◌≡◌, ℕ, true, List, [], ◌∷◌, sym, ap, subst, arith}
use Rattle.timetable.specs.declared.Constraint.{Constraint}
use Rattle.board.specs.Circuits.{NoFreeCircuit}
use Rattle.board.specs.Invariant.{all_in_range}

no_circuit : NoFreeCircuit []
no_circuit d i [] c = omega (arith, c.1)
no_circuit d i (l ∷ run) c = c.0.0

pub empty_sound : (rows : List Constraint) → rows ≡ [] → NoFreeCircuit rows
empty_sound rows e = subst NoFreeCircuit (sym e) no_circuit

pub empty_in_range : (events : ℕ) (rows : List Constraint) → rows ≡ [] → all_in_range events rows ≡ true
empty_in_range events rows e = ap (all_in_range events) e
