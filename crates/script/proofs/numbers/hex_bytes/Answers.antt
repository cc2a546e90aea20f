use Rattle.std.proofs.Common.{vec_items, rules}
use Rattle.std.proofs.lemmas.List.{drop_more}
use Rattle.script.proofs.Gathering.{pair_more}
use Rattle.script.proofs.numbers.hex_bytes.Goals as goal

pub loop-high-preserved : goal.loop-high-preserved
loop-high-preserved c =
    pair_more c.in-Some.byte _ (vec_items c.loop-high.bytes) (vec_items c.push.new.self) _ _ _ (drop_more c.as_chunks.result.0.now c.loop-high.high-index _ (search rules)) c.in-Some.ensures c.in_ok-push.ensures.items c.loop-high.invariant
