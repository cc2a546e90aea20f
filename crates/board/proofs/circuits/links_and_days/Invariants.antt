use Rattle.std.proofs.Common.{◌≡◌, map, take}
use Rattle.weights.specs.DaysKind.{days_of}
use Rattle.timetable.specs.Words.{link_of, free_days}
use Rattle.board.proofs.circuits.links_and_days.Given as goal

abbrev pub invariant-loop-row : goal.invariant-loop-row
invariant-loop-row l = record {
  links : l.links.items ≡ map link_of (take l.row-index l.rows);
  days : map (λ w. days_of w.mask) l.days.items ≡ map free_days (take l.row-index l.rows);
}
