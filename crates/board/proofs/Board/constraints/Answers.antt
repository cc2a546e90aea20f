use Rattle.std.proofs.Common.{vec_items, sym, subst, arith}
use Rattle.board.specs.Holding.{ledger_of}
use Rattle.board.specs.Lending.{LendsRows}
use Rattle.board.proofs.Lending.{lends}
use Rattle.board.proofs.Board.constraints.Goals as goal

pub returns : goal.returns
returns c =
    let board = c.args.self.now in
    subst (LendsRows (ledger_of board)) (sym c.as_slice.ensures.value)
    (lends board.opening (vec_items board.departures) (vec_items board.table.rows) (omega (arith, board.few, board.table.rows.ok.0)) board.opened board.ranges board.sound (λ e. omega (arith, (board.blank e).0, board.table.rows.ok.0)))
