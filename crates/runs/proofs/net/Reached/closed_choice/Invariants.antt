use Rattle.std.proofs.Common.{◌≡◌, length, drop}
use Rattle.std.specs.Iterator.Adapters.{zip_first, zip_second}
use Rattle.std.specs.Slice.Iter.{iter_rest}
use Rattle.runs.specs.Links.{at}
use Rattle.runs.proofs.Extending.{with_rest}
use Rattle.runs.proofs.net.Reached.closed_choice.Given as goal

abbrev pub invariant-loop-link : goal.invariant-loop-link
invariant-loop-link g l =
    let K = g.W.Weight.kind in
    let m = g.W.Weight.meaning in
    let net = l.self.net.now in
    let rest = with_rest K net.links.now (at K m net.weights.now) (at K m l.self.weights.now) in
    let k = length l.yielded in
    record {
      can : (goal.iterator-loop-link g).can_next l.link-iterator;
      finite : (goal.iterator-loop-link g).is_finite l.link-iterator;
      links : iter_rest (zip_first l.link-iterator) ≡ drop k net.links.now;
      weights : iter_rest (zip_second l.link-iterator) ≡ drop k net.weights.now;
      chosen : rest l.j k (m l.best) ≡ rest l.j 0 (m l.initial.best);
    }
