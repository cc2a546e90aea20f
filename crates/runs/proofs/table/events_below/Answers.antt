use Rattle.std.proofs.Common.{◌∙◌, rules}
use Rattle.std.proofs.lemmas.Iterator.{YieldsList-from_slice}
use Rattle.std.proofs.lemmas.Iterator.Search.{all_from_yields_List}
use Rattle.runs.specs.Tables.{link_below}
use Rattle.runs.proofs.Searches.{every_is}
use Rattle.runs.proofs.table.events_below.Goals as goal

pub returns : goal.returns
returns c = all_from_yields_List (link_below c.args.n) _ _ c.all.result c.all.ensures.ran (YieldsList-from_slice c.args.links.now (cc)) (λ x b q k. search rules) ∙ every_is (link_below c.args.n) c.args.links.now
