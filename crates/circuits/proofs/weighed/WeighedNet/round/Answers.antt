use Rattle.std.proofs.Common.{◌≡◌, ℕ, get_or, ap, sym, ◌∙◌, arith, w64, SFits, rules}
use Rattle.std.proofs.lemmas.List.{length-set}
use Rattle.std.proofs.lemmas.Int.{ints, clamps}
use Rattle.circuits.specs.Arcs.{end_of}
use Rattle.circuits.specs.Rounds.{at}
use Rattle.circuits.specs.Weighed.{arcs_in, weight_in, no_weighed_arc}
use Rattle.circuits.proofs.Rises.{rise_none, raised_more}
use Rattle.circuits.proofs.WeighedLists.{start_at, end_at}
use Rattle.circuits.proofs.weighed.WeighedNet.round.Goals as goal

pub loop-weighed-init : goal.loop-weighed-init
loop-weighed-init c = (search rules, λ j h. sym (rise_none _ _ _ j))

pub loop-weighed-preserved : goal.loop-weighed-preserved
loop-weighed-preserved c =
    let xs = c.args.self.now.arcs.now in
    let k : ℕ = c.loop-weighed.weighed-index in
    let inside = c.args.self.now.within k no_weighed_arc c.loop-weighed-test.true in
    let few = c.args.self.now.few in
    let ends : c.from-end.result ≡ end_of (arcs_in xs) k = c.from-end.ensures ∙ sym (end_at xs k) in (
      simp length-set c.loop-weighed.invariant.0,
      raised_more (arcs_in xs) (weight_in xs) (at c.args.old) c.loop-weighed.new k c.from-end.result _ c.loop-weighed.invariant.0 ends (omega (arith, inside.1, c.from-end.ensures))
          (let old_fits = c.requires (get_or xs k no_weighed_arc).arc.from in
          let weight_fits = c.args.self.now.modest k no_weighed_arc c.loop-weighed-test.true in
          let start = ap (at c.args.old) (start_at xs k) in
          let new_fits : SFits w64 (at c.loop-weighed.new c.from-end.result) = search rules in
          omega (arith, ints, clamps, c.max.ensures.value, c.brought.ensures))
          c.loop-weighed.invariant.1,
    )
