use Rattle.std.proofs.Common.{leb, ◌∙◌, rules}
use Rattle.std.proofs.lemmas.Iterator.{YieldsList-from_slice}
use Rattle.std.proofs.lemmas.Iterator.Search.{all_from_yields_List}
use Rattle.runs.proofs.Searches.{every_is}
use Rattle.runs.proofs.table.spans_at_most_one.Goals as goal

pub returns : goal.returns
returns g c =
    let light = λ (w : g.row.W.Denot). leb (g.W.Weight.kind.span (g.W.Weight.meaning w)) 1 in
    all_from_yields_List light _ _ c.all.result c.all.ensures.ran (YieldsList-from_slice c.args.weights.now (cc)) (λ x b q k. search rules) ∙ every_is light c.args.weights.now
