use Rattle.std.proofs.Common.{rules}
use Rattle.board.proofs.Rows.{empty_fit}
use Rattle.board.proofs.Board.new.Goals as goal

pub invariant_of-result : goal.invariant_of-result
invariant_of-result c =
    let fit = empty_fit _ _ c.in_ok-new.ensures.0 in
    record { room = search rules; few = search rules; opened = search rules; ranges = fit.ranges; sound = fit.sound; held = search rules; blank = search rules }
