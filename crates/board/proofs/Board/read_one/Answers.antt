use Rattle.std.proofs.Common.{◌+◌, ◌≤◌, length, Ok, sym, ap, ◌∙◌, arith}
use Rattle.std.proofs.lemmas.Result.{err_from_is_err_and}
use Rattle.board_file.specs.declared.Entry.{Entry}
use Rattle.board_file.proofs.Readings.{addition_within}
use Rattle.board.specs.Holding.{ledger_of}
use Rattle.board.proofs.Loading.{judged_refused, judged_accepted, step_refused, step_ended, step_trailing, step_judged, step_added}
use Rattle.board.proofs.Board.read_one.Goals as goal

pub returns-in_err-read_entry-clause-step : goal.returns-in_err-read_entry-clause-step
returns-in_err-read_entry-clause-step c =
    let p = err_from_is_err_and c.from_residual.result c.from_residual.ensures.1 in
    rw (p.1, p.2) (step_refused c.args.bytes.now c.args.place (ledger_of c.args.self.now) _ (sym c.in_err-read_entry.ensures))

pub returns-in_err-read_end-in-End-clause-step : goal.returns-in_err-read_end-in-End-clause-step
returns-in_err-read_end-in-End-clause-step c =
    let p = err_from_is_err_and c.from_residual-in_err-read_end-in-End.result c.from_residual-in_err-read_end-in-End.ensures.1 in
    let end = sym c.in_ok-read_entry.ensures ∙ ap (λ (e : Entry). Ok e) c.in-End.is in
    rw (p.1, p.2) (step_trailing c.args.bytes.now c.args.place (ledger_of c.args.self.now) _ end (sym c.in_err-read_end-in-End.ensures))

pub returns-in_ok-read_end-in-End-clause-step : goal.returns-in_ok-read_end-in-End-clause-step
returns-in_ok-read_end-in-End-clause-step c =
    let end = sym c.in_ok-read_entry.ensures ∙ ap (λ (e : Entry). Ok e) c.in-End.is in
    step_ended c.args.bytes.now c.args.place (ledger_of c.args.self.now) end (sym c.in_ok-read_end-in-End.ensures)

pub returns-in_ok-judged-in-Add : goal.returns-in_ok-judged-in-Add
returns-in_ok-judged-in-Add c =
    let entry = sym c.in_ok-read_entry.ensures ∙ ap (λ (e : Entry). Ok e) c.in-Add.is in
    let within : c.args.place + 10 ≤ length c.args.bytes.now = addition_within c.args.bytes.now c.args.place c.in-Add.addition entry in
    let accepted = judged_accepted c.args.place c.add.result c.in_ok-judged-in-Add.field-0 (sym c.judged.ensures ∙ c.in_ok-judged-in-Add.was) ∙ c.add.ensures.reply in
    record {
      further = (omega arith, within);
      step = step_added c.args.bytes.now c.args.place (ledger_of c.args.self.now) (ledger_of c.add.new.self) c.in-Add.addition entry accepted c.add.ensures.after;
    }

pub returns-in_err-judged-in-Add-clause-step : goal.returns-in_err-judged-in-Add-clause-step
returns-in_err-judged-in-Add-clause-step c =
    let p = err_from_is_err_and c.from_residual-in_err-judged-in-Add.result c.from_residual-in_err-judged-in-Add.ensures.1 in
    let q = judged_refused c.args.place c.add.result c.in_err-judged-in-Add.field-0.0 (sym c.judged.ensures ∙ c.in_err-judged-in-Add.was) in
    let entry = sym c.in_ok-read_entry.ensures ∙ ap (λ (e : Entry). Ok e) c.in-Add.is in
    rw (p.1, p.2, q.2) (step_judged c.args.bytes.now c.args.place (ledger_of c.args.self.now) c.in-Add.addition q.0 entry (q.1 ∙ c.add.ensures.reply))
