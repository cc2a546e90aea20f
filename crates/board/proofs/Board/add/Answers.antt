use Rattle.std.proofs.Common.{◌≡◌, false, ◌∷◌, ◌++◌, [], Some, None, vec_items, sym, subst, ap, ◌∙◌, arith, rules}
use Rattle.std.proofs.lemmas.Grind.{common_steps}
use Rattle.board.specs.declared.fault.BoardFault.TheVariants.{Circuit}
use Rattle.board.specs.Circuits.{closes_circuit}
use Rattle.board.specs.Ledger.{CircuitLaw, add_fault, constraint_of}
use Rattle.board.specs.Holding.{ledger_of}
use Rattle.board.proofs.Additions.{circuit_law}
use Rattle.board.proofs.Rows.{Fit, added_fit}
use Rattle.board.proofs.Board.add.Goals as goal

pub returns-then-closes_circuit-clause-law : goal.returns-then-closes_circuit-clause-law
returns-then-closes_circuit-clause-law c =
    let board = c.args.self.now in
    let reply : Some Circuit ≡ add_fault (ledger_of board) c.args.addition = grind (arith, common_steps) in
    subst (CircuitLaw (ledger_of board) c.args.addition) (sym reply) (circuit_law board.opening (vec_items board.departures) (vec_items board.table.rows) c.args.addition board.ranges)

pub invariant_of-self : goal.invariant_of-self
invariant_of-self c =
    let board = c.args.self.now in
    let a = c.args.addition in
    let rows = vec_items board.table.rows in
    let o = c.in_ok-opening.opening in
    let calm : closes_circuit o.events rows a ≡ false = grind (arith, common_steps) in
    let before : Fit board.opening rows = record { few = omega (arith, board.few, board.table.rows.ok.0); ranges = board.ranges; sound = board.sound; blank = λ new. omega (arith, (board.blank new).0, board.table.rows.ok.0) } in
    let grown : vec_items c.push.new.self.rows ≡ rows ++ constraint_of a ∷ [] = c.in-Ok.ensures.rows ∙ ap (λ x. rows ++ x ∷ []) c.in_ok-constraint.ensures.row in
    let fit = added_fit board.opening rows (vec_items c.push.new.self.rows) before o c.len-count.result a c.in_ok-opening.ensures (omega (arith, board.table.rows.ok.0, c.len-count.ensures)) (sym c.in_ok-constraint.ensures.reply) calm grown in
    record {
      room = search rules;
      few = omega (arith, fit.few, c.push.new.self.rows.ok.0);
      opened = board.opened;
      ranges = fit.ranges;
      sound = fit.sound;
      held = search rules;
      blank = search rules;
    }

pub returns-clause-law : goal.returns-clause-law
returns-clause-law c =
    let board = c.args.self.now in
    let reply : None ≡ add_fault (ledger_of board) c.args.addition = grind (arith, common_steps) in
    subst (CircuitLaw (ledger_of board) c.args.addition) (sym reply) (circuit_law board.opening (vec_items board.departures) (vec_items board.table.rows) c.args.addition board.ranges)
