use Rattle.std.proofs.Common.{◌≡◌, ◌+◌, ◌≤◌, [], ◌∷◌, ◌++◌, length, drop, sym, ap, ◌∙◌, arith, length-append, inl, inr, ⊎_elim}
use Rattle.runs.specs.Links.{net_of, at}
use Rattle.runs.specs.Rounds.{arrive}
use Rattle.runs.proofs.Extending.{with_rest, rest_all, choice_step, passed_step}
use Rattle.runs.proofs.Order.{none_choice}
use Rattle.runs.proofs.Turns.{comes, ended}
use Rattle.runs.proofs.net.Reached.closed_choice.Goals as goal

pub loop-link-preserved-then-from-j : goal.loop-link-preserved-then-from-j
loop-link-preserved-then-from-j g c =
    let K = g.W.Weight.kind in
    let m = g.W.Weight.meaning in
    let net = c.args.self.now.net.now in
    let before = c.args.self.now.weights.now in
    let k = length c.loop-link.yielded in
    let more : length (c.loop-link.yielded ++ (c.in-Some.link, c.in-Some.weight) ∷ []) ≡ k + 1 = length-append c.loop-link.yielded _ in
    let tl = comes net.links.now _ k c.in-Some.link.now (sym c.loop-link.invariant.links ∙ c.in-Some.ensures.steps.0) in
    let tw = comes net.weights.now _ k c.in-Some.weight.now (sym c.loop-link.invariant.weights ∙ c.in-Some.ensures.steps.1) in
    record {
      can = (tt, tt);
      finite = tt;
      links = tl.after ∙ ap (λ z. drop z net.links.now) (sym more);
      weights = tw.after ∙ ap (λ z. drop z net.weights.now) (sym more);
      chosen = ap (λ z. with_rest K net.links.now (at K m net.weights.now) (at K m before) c.args.j z (m c.choose-best.result)) more
          ∙ choice_step K g.met.W.Weight.lawful m net.events net.links.now net.weights.now before net.fit c.args.self.now.side c.args.j k c.from-then-from-j.result c.in-Some.link.now
          c.loop-link.best c.in-Some.weight.now c.index-self-from.result (m c.choose-best.result) tl tw (omega arith) (omega arith) c.index-self-from.is
          (c.choose-best.ensures ∙ ap (K.choice (m c.loop-link.best)) (c.chained.ensures ∙ ap (λ y. K.chaining (m y) (m c.in-Some.weight.now)) (sym c.index-self-from.is)))
          ∙ c.loop-link.invariant.chosen;
    }

pub loop-link-preserved : goal.loop-link-preserved
loop-link-preserved g c =
    let K = g.W.Weight.kind in
    let m = g.W.Weight.meaning in
    let net = c.args.self.now.net.now in
    let before = c.args.self.now.weights.now in
    let k = length c.loop-link.yielded in
    let more : length (c.loop-link.yielded ++ (c.in-Some.link, c.in-Some.weight) ∷ []) ≡ k + 1 = length-append c.loop-link.yielded _ in
    let tl = comes net.links.now _ k c.in-Some.link.now (sym c.loop-link.invariant.links ∙ c.in-Some.ensures.steps.0) in
    let tw = comes net.weights.now _ k c.in-Some.weight.now (sym c.loop-link.invariant.weights ∙ c.in-Some.ensures.steps.1) in
    record {
      can = (tt, tt);
      finite = tt;
      links = tl.after ∙ ap (λ z. drop z net.links.now) (sym more);
      weights = tw.after ∙ ap (λ z. drop z net.weights.now) (sym more);
      chosen = ap (λ z. with_rest K net.links.now (at K m net.weights.now) (at K m before) c.args.j z (m c.loop-link.best)) more
          ∙ passed_step K g.met.W.Weight.lawful m net.events net.links.now net.weights.now before net.fit c.args.self.now.side c.args.j k c.in-Some.link.now
          (m c.loop-link.best) tl (λ e. c.if-from-j.false (omega arith))
          ∙ c.loop-link.invariant.chosen;
    }

pub returns : goal.returns
returns g c =
    let K = g.W.Weight.kind in
    let m = g.W.Weight.meaning in
    let L = g.met.W.Weight.lawful in
    let net = c.args.self.now.net.now in
    let w = at K m net.weights.now in
    let x = at K m c.args.self.now.weights.now in
    let k = length c.loop-link.yielded in
    let all : length net.links.now ≤ k = ended net.links.now net.weights.now _ _ k net.fit.paired c.loop-link.invariant.links c.loop-link.invariant.weights (⊎_elim (λ u. inl u.1.0) (λ u. inr u.1.0) c.in-None.ensures.steps) in
    let total = arrive K (net_of net.links.now) w x c.args.j (net_of net.links.now).links in
    sym (rest_all K L net.links.now w x c.args.j k (m c.loop-link.best) all)
    ∙ (c.loop-link.invariant.chosen ∙ (ap (λ y. K.choice y total) c.none-best.ensures ∙ none_choice K L total))
