use Rattle.std.proofs.Common.{◌≡◌, true, false, length, sym, ◌∙◌, arith, rules}
use Rattle.runs.specs.Runs.{cell, closed_runs}
use Rattle.runs.specs.Gaining.{some_gains}
use Rattle.runs.specs.Links.{net_of, at}
use Rattle.runs.proofs.Columns.{rows_more}
use Rattle.runs.proofs.Extending.{net_within, row_room}
use Rattle.runs.proofs.Rows.{row_gains}
use Rattle.runs.proofs.Searches.{lowest_passed, lowest_found}
use Rattle.runs.proofs.net.WeightedNet.fill_rows.Goals as goal

pub invariant_of-reached : goal.invariant_of-reached
invariant_of-reached g c =
    let net = c.args.self.now in
    let side : length c.fill_row.new.before ≡ net.events = omega (arith, c.fill_row.auto.before, c.loop-i.auto.spare, c.requires.side) in
    record {
      side = side;
      room = row_room g.W.Weight.kind g.met.W.Weight.lawful g.W.Weight.meaning (net_of net.links.now) net.weights.now c.fill_row.new.before net.events net.events c.loop-i.i net.fit.light side net.few c.fill_row.ensures.before;
    }

pub returns-then-does_gain-clause-gain : goal.returns-then-does_gain-clause-gain
returns-then-does_gain-clause-gain g c =
    let K = g.W.Weight.kind in
    let net = c.args.self.now in
    let w = at K g.W.Weight.meaning net.weights.now in
    let gains : some_gains K w (closed_runs (net_of net.links.now) net.events c.loop-i.i) ≡ true = row_gains K g.met.W.Weight.lawful (net_of net.links.now) w net.events (net_within net.events net.links.now net.fit.within) g.met.W.Weight.idempotent c.loop-i.i (at K g.W.Weight.meaning c.fill_row.new.before)
    (g.W.Weight.meaning c.closed_choice.result) c.fill_row.ensures.before c.closed_choice.ensures ∙ sym c.does_gain.ensures ∙ c.if-does_gain.true in
    sym (lowest_found (λ j. some_gains K w (closed_runs (net_of net.links.now) net.events j)) c.loop-i.i net.events c.loop-i-test.true c.loop-i.invariant.none_gains gains)

pub loop-i-preserved : goal.loop-i-preserved
loop-i-preserved g c =
    let K = g.W.Weight.kind in
    let m = g.W.Weight.meaning in
    let net = c.args.self.now in
    let w = at K m net.weights.now in
    let none : some_gains K w (closed_runs (net_of net.links.now) net.events c.loop-i.i) ≡ false = row_gains K g.met.W.Weight.lawful (net_of net.links.now) w net.events (net_within net.events net.links.now net.fit.within) g.met.W.Weight.idempotent c.loop-i.i (at K m c.fill_row.new.before)
    (m c.closed_choice.result) c.fill_row.ensures.before c.closed_choice.ensures ∙ sym c.does_gain.ensures ∙ c.if-does_gain.false in
    record {
      cells = rows_more K m net.events c.loop-i.i _ c.loop-i.cells c.fill_row.new.row (cell K (net_of net.links.now) w net.events) c.loop-i-test.true (c.loop-i.auto.cells ∙ c.requires.square) (search rules) c.fill_row.ensures.row c.loop-i.invariant.cells;
      none_gains = lowest_passed (λ j. some_gains K w (closed_runs (net_of net.links.now) net.events j)) c.loop-i.i c.loop-i.invariant.none_gains none;
    }
