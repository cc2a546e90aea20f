use Rattle.std.proofs.Common.{◌≡◌, ◌≤◌, ℕ, List, take, replicate, length, sym, ap, ◌∙◌, arith}
use Rattle.std.proofs.lemmas.Grind.{common_steps}
use Rattle.std.proofs.lemmas.List.{length-take-le}
use Rattle.std.proofs.lemmas.Result.{err_from_is_err_and}
use Rattle.board.specs.Ledger.{open_fault, open_after}
use Rattle.board.proofs.Loading.{judged_refused, judged_accepted, head_refused, departures_refused, opened_so, read_refused, read_done}
use Rattle.board.proofs.Board.open_by.Goals as goal

pub returns-in_err-judged : goal.returns-in_err-judged
returns-in_err-judged c =
    let p = err_from_is_err_and c.from_residual.result c.from_residual.ensures.1 in
    let q = judged_refused 0 c.check_head.result c.in_err-judged.field-0.0 (sym c.judged.ensures ∙ c.in_err-judged.was) in
    rw (p.1, p.2, q.2) (λ new. head_refused c.args.bytes.now c.args.opening q.0 (q.1 ∙ c.check_head.ensures))

pub returns-in_err-read_departures : goal.returns-in_err-read_departures
returns-in_err-read_departures c =
    let p = err_from_is_err_and c.from_residual-in_err-read_departures.result c.from_residual-in_err-read_departures.ensures.1 in
    let judged = judged_accepted 0 c.check_head.result c.in_ok-judged.field-0 (sym c.judged.ensures ∙ c.in_ok-judged.was) ∙ c.check_head.ensures in
    let places : List ℕ = replicate 32 0 in
    let few : c.args.opening.events ≤ 32 = grind (arith, common_steps, judged) in
    let long : length (take c.from.result places) ≡ c.args.opening.events = length-take-le c.from.result places (omega (arith, few, c.from.ensures)) ∙ c.from.ensures in
    rw (p.1, p.2) (λ new. departures_refused c.args.bytes.now c.args.opening judged _ (read_refused c.args.opening.events c.args.bytes.now (take c.from.result places) _ long c.in_err-read_departures.ensures.reply))

pub returns : goal.returns
returns c =
    let bytes = c.args.bytes.now in
    let o = c.args.opening in
    let judged = judged_accepted 0 c.check_head.result c.in_ok-judged.field-0 (sym c.judged.ensures ∙ c.in_ok-judged.was) ∙ c.check_head.ensures in
    let places : List ℕ = replicate 32 0 in
    let few : o.events ≤ 32 = grind (arith, common_steps, judged) in
    let long : length (take c.from.result places) ≡ o.events = length-take-le c.from.result places (omega (arith, few, c.from.ensures)) ∙ c.from.ensures in
    let departures = c.read_departures.new.departures in
    let done = read_done o.events bytes (take c.from.result places) departures long c.in_ok-read_departures.ensures.reply c.in_ok-read_departures.ensures.after in
    rw c.judged-2.ensures (λ new. opened_so bytes o judged departures _ c.open.result done (c.open.ensures.reply ∙ ap (λ l. open_fault l o.events o.period departures) new) (c.open.ensures.after ∙ ap (λ l. open_after l o.mark o.events o.period departures) new))
