use Rattle.std.proofs.Common.{◌≡◌, map, take}
use Rattle.board_file.specs.Numbers.{four_at}
use Rattle.board_file.proofs.fill_departures.Given as goal

abbrev pub invariant-loop-i : goal.invariant-loop-i
invariant-loop-i l = take l.i l.departures ≡ map (λ body. four_at body 0) (take l.i l.bodies)
