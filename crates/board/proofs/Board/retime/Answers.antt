use Rattle.std.proofs.Common.{vec_items, arith, rules}
use Rattle.board.proofs.Rows.{Fit, retimed_fit}
use Rattle.board.proofs.Board.retime.Goals as goal

pub invariant_of-self : goal.invariant_of-self
invariant_of-self c =
    let board = c.args.self.now in
    let rows = vec_items board.table.rows in
    let before : Fit board.opening rows = record { few = omega (arith, board.few, board.table.rows.ok.0); ranges = board.ranges; sound = board.sound; blank = λ new. omega (arith, (board.blank new).0, board.table.rows.ok.0) } in
    let fit = retimed_fit board.opening rows (vec_items c.retime.new.self.rows) before c.args.time c.from.result (omega arith) c.retime.ensures.rows in
    record {
      room = search rules;
      few = omega (arith, fit.few, c.retime.new.self.rows.ok.0);
      opened = board.opened;
      ranges = fit.ranges;
      sound = fit.sound;
      held = search rules;
      blank = search rules;
    }
