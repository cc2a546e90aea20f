use Rattle.std.proofs.Common.{◌≡◌, ◌<◌, ◌≤◌, true, length, arith, rules}
use Rattle.std.proofs.ByRecursion.{All-weaker}
use Rattle.runs.specs.Tables.{events_below, spans_at_most_one}
use Rattle.runs.proofs.Searches.{links_are_below}
use Rattle.runs.proofs.Tables.{fit_from, law_from}
use Rattle.runs.proofs.table.table_of_runs.Goals as goal

pub of-requires-clause-within : goal.of-requires-clause-within
of-requires-clause-within g c =
    let below : events_below c.args.n c.args.links.now ≡ true = search rules in
    let few : c.args.n ≤ 32 = search rules in
    All-weaker (λ l. (l.from < c.args.n) × (l.to < c.args.n)) (λ l. l.from < 32) (λ l ends. let start = ends.0 in omega (arith, start, few)) c.args.links.now (links_are_below c.args.n c.args.links.now below)

pub invariant_of-net : goal.invariant_of-net
invariant_of-net g c =
    let below : events_below c.args.n c.args.links.now ≡ true = search rules in
    let paired : length c.args.links.now ≡ length c.args.weights.now = search rules in
    let light : spans_at_most_one g.W.Weight.kind g.W.Weight.meaning c.args.weights.now ≡ true = search rules in
    record {
      few = search rules;
      departing = c.of.ensures;
      fit = fit_from g.W.Weight.kind g.W.Weight.meaning c.args.n c.args.links.now c.args.weights.now below paired light;
    }

pub returns-clause-law : goal.returns-clause-law
returns-clause-law g c =
    let met = g.met.W.Weight in
    law_from g.W.Weight.kind g.W.Weight.meaning c.args.n c.args.links.now c.args.weights.now c.args.cells.now c.args.spare.now _ c.fill_table.new.spare met.lawful met.idempotent c.fill_table.result (search rules)
