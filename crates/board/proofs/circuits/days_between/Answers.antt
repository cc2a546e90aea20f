use Rattle.std.proofs.Common.{rules, ◌*◌, ◌+◌, ◌<◌, ◌≤◌, map, length, replicate, sym, ap, ◌∙◌, mul-le-mul, arith}
use Rattle.std.proofs.lemmas.List.{length-take-le}
use Rattle.faults.specs.Causes.{reply_of}
use Rattle.weights.specs.DaysKind.{days_of, days_kind}
use Rattle.runs.proofs.Columns.{cell_inside, at_read}
use Rattle.board.proofs.Openings.{range_few}
use Rattle.board.proofs.DaysTable.{days_table_accepted_blank, cell_between}
use Rattle.board.proofs.circuits.days_between.Goals as goal

pub unwrap-requires : goal.unwrap-requires
unwrap-requires c =
    let same = c.as_slice.ensures.value ∙ c.links_and_days-links.ensures.links in
    let days = ap (map (λ w. days_of w.mask)) c.as_slice-2.ensures.value ∙ c.links_and_days-links.ensures.days in
    let accepted = days_table_accepted_blank (λ w. days_of w.mask) c.args.n c.args.rows.now c.as_slice.result.now c.as_slice-2.result.now c.none-nothing.result c.requires.range c.requires.rows c.requires.few same days in
    let reply = c.table_of_runs.ensures.table.reply ∙ ap reply_of accepted in
    search (rules, reply)

pub returns : goal.returns
returns c =
    let n = c.args.n in
    let blank = c.none-nothing.result in
    let same = c.as_slice.ensures.value ∙ c.links_and_days-links.ensures.links in
    let days = ap (map (λ w. days_of w.mask)) c.as_slice-2.ensures.value ∙ c.links_and_days-links.ensures.days in
    let accepted = days_table_accepted_blank (λ w. days_of w.mask) n c.args.rows.now c.as_slice.result.now c.as_slice-2.result.now blank c.requires.range c.requires.rows c.requires.few same days in
    let most : n ≤ 32 = range_few n c.requires.range in
    let small : n * n ≤ 32 * 32 = mul-le-mul most most in
    let square = length-take-le (n * n) (replicate 1024 blank) (omega (arith, small)) in
    let h = cell_inside n c.args.i c.args.j c.requires.inside.0 c.requires.inside.1 in
    let inside : c.args.i * n + c.args.j < length c.table_of_runs.new.cells = omega (arith, h, c.table_of_runs.auto.cells, square) in
    sym (at_read days_kind (λ w. days_of w.mask) c.table_of_runs.new.cells _ c.index-cells-i.result inside c.index-cells-i.is)
    ∙ cell_between (λ w. days_of w.mask) n c.args.rows.now c.as_slice.result.now c.as_slice-2.result.now _ _ _ _ _ c.args.i c.args.j same days accepted c.table_of_runs.ensures.table c.requires.inside.0 c.requires.inside.1
