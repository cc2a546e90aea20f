use Rattle.std.proofs.Common.{◌≡◌, ℕ, ◌-◌, ◌<◌, length, sym, refl, ap, ◌∙◌, subst, arith}
use native.Mathlib.Decide.{ℕ_discrete, dec_lt}
use Rattle.std.specs.Int.{bit_at}
use Rattle.std.proofs.ByRecursion.{All-get_or}
use Rattle.runs.specs.Links.{no_link, net_of, at}
use Rattle.runs.specs.Rounds.{Brought, Grown, LastFrom}
use Rattle.runs.proofs.Columns.{at_read, at_set_same, at_set_other}
use Rattle.runs.proofs.Extending.{chosen_is}
use Rattle.runs.proofs.Members.{counting_in}
use Rattle.runs.proofs.Rounds.{grown_none, grown_on, grown_by, brought_by, brought_on}
use Rattle.runs.proofs.net.Reached.extend_from.Goals as goal
use Rattle.runs.proofs.net.Reached.extend_from.Goals.{then-not-same, else-not-same}

pub loop-next-init : goal.loop-next-init
loop-next-init g c =
    let K = g.W.Weight.kind in
    let m = g.W.Weight.meaning in
    let net = c.args.self.now.net.now in
    let last : LastFrom net.links.now (length net.links.now) c.args.from c.from-next.result = subst (LastFrom net.links.now (length net.links.now) c.args.from) (sym c.from-next.ensures) (net.departing.lasts c.args.from (omega (arith, c.requires.inside, net.few))) in
    record {
      place = last.is;
      inside = last.within;
      grown = grown_none K g.met.W.Weight.lawful g.met.W.Weight.idempotent (net_of net.links.now) (at K m net.weights.now) (at K m c.args.self.now.weights.now) (at K m c.args.row.now);
      brought = λ k low high same. absurd (last.none_after k low high same);
      kept = λ j zero. (zero, refl);
    }

pub loop-next-preserved : goal.loop-next-preserved
loop-next-preserved g c =
    let K = g.W.Weight.kind in
    let m = g.W.Weight.meaning in
    let L = g.met.W.Weight.lawful in
    let I = g.met.W.Weight.idempotent in
    let net = c.args.self.now.net.now in
    let ls = net.links.now in
    let w = at K m net.weights.now in
    let x = at K m c.args.self.now.weights.now in
    let k = c.loop-next.next - 1 in
    let r = at K m c.loop-next.row in
    let s = at K m c.if-not-same.row in
    let to = c.from-to.result in
    let inside : k < length ls = omega (arith, c.loop-next.invariant.inside, c.loop-next-test.true) in
    let from_is : (net_of ls).from k ≡ c.args.from = c.loop-next.invariant.place c.loop-next-test.true in
    let to_is : to ≡ (net_of ls).to k = c.from-to.ensures in
    let ends = All-get_or (λ l. (l.from < net.events) × (l.to < net.events)) ls k no_link inside net.fit.within in
    let place : to < length c.loop-next.row = omega (arith, ends.1, to_is, c.loop-next.auto.row, c.requires.side) in
    let chosen : m c.choose-chosen.result ≡ K.choice (r to) (K.chaining (x c.args.from) (w k)) =
    chosen_is K L m net.events ls net.weights.now c.args.self.now.weights.now net.fit c.args.self.now.side c.loop-next.row to c.args.from k c.index-row-to.result c.index-self-from.result c.index-self-number.result c.chained.result
    c.choose-chosen.result place c.requires.inside inside c.index-row-to.is c.chained.ensures c.choose-chosen.ensures in
    let here : s to ≡ K.choice (r to) (K.chaining (x c.args.from) (w k)) = elim c.if-not-same.branch [
      | then-not-same w ↦ ap (λ xs. at K m xs to) w.row-is ∙ at_set_same K m c.loop-next.row to c.choose-chosen.result place ∙ chosen
      | else-not-same w ↦ ap (λ xs. at K m xs to) w.row-is ∙ at_read K m c.loop-next.row to c.index-row-to-in-loop-next.result place c.index-row-to-in-loop-next.is
          ∙ sym ((L.equal_says (m c.choose-chosen.result) (m c.index-row-to-in-loop-next.result)).0 (sym c.same.ensures ∙ w.if-not-same.false)) ∙ chosen
    ] in
    let others : (j : ℕ) → (j ≡ to → ⊥) → s j ≡ r j = elim c.if-not-same.branch [
      | then-not-same w ↦ λ j ne. ap (λ xs. at K m xs j) w.row-is ∙ at_set_other K m c.loop-next.row to j c.choose-chosen.result ne
      | else-not-same w ↦ λ j ne. ap (λ xs. at K m xs j) w.row-is
    ] in
    let kept : (j : ℕ) → bit_at c.if-not-same.changed.0 j ≡ 0 → (bit_at c.loop-next.changed.0 j ≡ 0) × (s j ≡ r j) = elim c.if-not-same.branch [
      | then-not-same w ↦ λ j zero.
          let ne : j ≡ to → ⊥ = λ e. let one : bit_at c.if-not-same.changed.0 j ≡ 1 = ap (λ v. bit_at v.0 j) w.changed-is ∙ ap (bit_at w.add.new.self.0) e ∙ w.add.ensures.added in absurd (omega (arith, one, zero)) in
          (sym (w.add.ensures.others j ne) ∙ ap (λ v. bit_at v.0 j) (sym w.changed-is) ∙ zero, others j ne)
      | else-not-same w ↦ λ j zero. (ap (λ e. bit_at e.0 j) (sym w.changed-is) ∙ zero, ap (λ xs. at K m xs j) w.row-is)
    ] in
    let at_end : s ((net_of ls).to k) ≡ K.choice (r ((net_of ls).to k)) (K.chaining (x ((net_of ls).from k)) (w k)) =
    subst (λ t. s t ≡ K.choice (r t) (K.chaining (x ((net_of ls).from k)) (w k))) to_is (here ∙ ap (λ f. K.choice (r to) (K.chaining (x f) (w k))) (sym from_is)) in
    let grown : Grown K (net_of ls) w x r s = grown_by K L I (net_of ls) w x r s k (counting_in k 0 (length ls) (omega arith) (omega (arith, inside))) at_end (λ j ne. others j (λ e. ne (e ∙ to_is))) in
    let earlier : LastFrom ls k ((net_of ls).from k) c.from-next-in-loop-next.result = subst (LastFrom ls k ((net_of ls).from k)) (sym c.from-next-in-loop-next.ensures) (net.departing.earliers k inside) in
    record {
      place = λ some. earlier.is some ∙ from_is;
      inside = omega (arith, earlier.within, inside);
      grown = grown_on K L I (net_of ls) w x (at K m c.args.row.now) r s c.loop-next.invariant.grown grown;
      brought = λ l low high same. elim (dec_lt l c.loop-next.next) [
        | no later ↦ brought_on K L I (net_of ls) w x r s l grown (c.loop-next.invariant.brought l (omega arith) high same)
        | yes sooner ↦ elim (ℕ_discrete l k) [
          | yes e ↦ subst (λ z. Brought K (net_of ls) w x s z) (sym e) (brought_by K L I (net_of ls) w x r s k at_end)
          | no ne ↦ absurd (earlier.none_after l low (omega arith) (same ∙ sym from_is))
        ]
      ];
      kept = λ j zero. let now = kept j zero in let old = c.loop-next.invariant.kept j now.0 in (old.0, now.1 ∙ old.1);
    }

pub returns : goal.returns
returns g c = record {
  grown = c.loop-next.invariant.grown;
  brought = λ l high same. c.loop-next.invariant.brought l (omega (arith, c.loop-next-test.false)) high same;
  kept = c.loop-next.invariant.kept;
}
