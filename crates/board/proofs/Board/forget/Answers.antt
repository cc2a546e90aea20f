use Rattle.std.proofs.Common.{rules}
use Rattle.board.proofs.Rows.{empty_fit}
use Rattle.board.proofs.Board.forget.Goals as goal

pub invariant_of-self : goal.invariant_of-self
invariant_of-self c =
    let fit = empty_fit _ _ c.clear-2.ensures.items in
    record { room = search rules; few = search rules; opened = search rules; ranges = fit.ranges; sound = fit.sound; held = search rules; blank = search rules }
