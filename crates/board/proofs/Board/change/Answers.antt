use Rattle.std.proofs.Common.{vec_items, ◌∙◌, arith, rules}
use Rattle.board.proofs.Rows.{Fit, moved_fit}
use Rattle.board.proofs.Kept.{held_after, none_kept}
use Rattle.board.proofs.Board.change.Goals as goal

pub invariant_of-self : goal.invariant_of-self
invariant_of-self c =
    let board = c.args.self.now in
    let rows = vec_items board.table.rows in
    let before : Fit board.opening rows = record { few = omega (arith, board.few, board.table.rows.ok.0); ranges = board.ranges; sound = board.sound; blank = λ new. omega (arith, (board.blank new).0, board.table.rows.ok.0) } in
    let fit = moved_fit board.opening rows (vec_items c.change.new.self.rows) before c.args.event c.from.result c.change.ensures.rows in
    record {
      room = search rules;
      few = omega (arith, fit.few, c.change.new.self.rows.ok.0);
      opened = board.opened;
      ranges = fit.ranges;
      sound = fit.sound;
      held = λ o is. held_after c.args.event board.day _ (vec_items board.departures) o.period rows _ c.from.result (vec_items board.kept) c.day_after-self.ensures c.change.ensures.rows (board.held o is);
      blank = λ new. (omega (arith, fit.blank new, c.change.new.self.rows.ok.0), (board.blank new).1, c.day_after-self.ensures ∙ none_kept c.args.event board.day (board.blank new).2);
    }
