use Rattle.std.proofs.Common.{◌≡◌, rules, arith}
use Rattle.std.proofs.lemmas.Grind.{common_steps}
use Rattle.board.specs.Holding.{ledger_of}
use Rattle.board.specs.Loads.{load_after}
use Rattle.board.proofs.Loading.{load_law}
use Rattle.board.proofs.Board.load.Goals as goal

pub returns-else-is_err-clause-law : goal.returns-else-is_err-clause-law
returns-else-is_err-clause-law c =
    let after : ledger_of c.read_file-outcome.new.self ≡ load_after (ledger_of c.args.self.now) c.args.bytes.now = grind (arith, common_steps) in
    load_law c.args.bytes.now (λ i. search rules) (ledger_of c.args.self.now) _ after

pub returns-then-is_err-clause-law : goal.returns-then-is_err-clause-law
returns-then-is_err-clause-law c =
    let after : ledger_of c.forget.new.self ≡ load_after (ledger_of c.args.self.now) c.args.bytes.now = grind (arith, common_steps) in
    load_law c.args.bytes.now (λ i. search rules) (ledger_of c.args.self.now) _ after
