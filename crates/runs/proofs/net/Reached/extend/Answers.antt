use Rattle.std.proofs.Common.{◌≡◌, ℕ, ◌<◌, length, sym, refl, ap, ◌∙◌, subst, arith, eq-eqb}
use native.Mathlib.Decide.{ℕ_discrete}
use borrow.Author.Tests.{clash}
use Rattle.std.specs.Int.{bit_at}
use Rattle.std.proofs.lemmas.Nat.Bits.{bit_at-lt}
use Rattle.runs.specs.Links.{net_of, at}
use Rattle.runs.specs.Rounds.{Brought, Grown}
use Rattle.runs.proofs.Extending.{net_within}
use Rattle.runs.proofs.Members.{in_counting}
use Rattle.runs.proofs.Rounds.{grown_none, grown_on, brought_on, round_done}
use Rattle.runs.proofs.net.Reached.extend.Goals as goal
use Rattle.runs.proofs.net.Reached.extend.Goals.{then-has, else-has}

pub loop-from-init : goal.loop-from-init
loop-from-init g c =
    let K = g.W.Weight.kind in
    let m = g.W.Weight.meaning in
    let net = c.args.self.now.net.now in
    record {
      grown = grown_none K g.met.W.Weight.lawful g.met.W.Weight.idempotent (net_of net.links.now) (at K m net.weights.now) (at K m c.args.self.now.weights.now) (at K m c.args.row.now);
      brought = λ k h less. absurd (omega arith);
      kept = λ j zero. refl;
    }

pub loop-from-preserved : goal.loop-from-preserved
loop-from-preserved g c =
    let K = g.W.Weight.kind in
    let m = g.W.Weight.meaning in
    let L = g.met.W.Weight.lawful in
    let I = g.met.W.Weight.idempotent in
    let net = c.args.self.now.net.now in
    let links = net_of net.links.now in
    let w = at K m net.weights.now in
    let x = at K m c.args.self.now.weights.now in
    let f = c.loop-from.from in
    let r = at K m c.loop-from.row in
    let s = at K m c.if-has.row in
    let grown : Grown K links w x r s = elim c.if-has.branch [
      | then-has e ↦ subst (λ xs. Grown K links w x r (at K m xs)) (sym e.row-is) e.extend_from.ensures.grown
      | else-has e ↦ subst (λ xs. Grown K links w x r (at K m xs)) (sym e.row-is) (grown_none K L I links w x r)
    ] in
    let here : (k : ℕ) → k < length net.links.now → links.from k ≡ f → Brought K links w x s k = elim c.if-has.branch [
      | then-has e ↦ λ k h same. subst (λ xs. Brought K links w x (at K m xs) k) (sym e.row-is) (e.extend_from.ensures.brought k h same)
      | else-has e ↦ λ k h same.
          let zero : bit_at c.args.recent.0 f ≡ 0 = elim (ℕ_discrete (bit_at c.args.recent.0 f) 1) [
            | yes one ↦ absurd (clash (sym e.if-has.false ∙ c.has.ensures ∙ eq-eqb (bit_at c.args.recent.0 f) 1 one))
            | no ne ↦ omega (arith, ne, bit_at-lt c.args.recent.0 f)
          ] in
          let first : Brought K links w x (at K m c.args.row.now) k = c.requires.brought k h (ap (bit_at c.args.recent.0) same ∙ zero) in
          brought_on K L I links w x (at K m c.args.row.now) s k (grown_on K L I links w x (at K m c.args.row.now) r s c.loop-from.invariant.grown grown) first
    ] in
    let kept : (j : ℕ) → bit_at c.if-has.changed.0 j ≡ 0 → (bit_at c.loop-from.changed.0 j ≡ 0) × (s j ≡ r j) = elim c.if-has.branch [
      | then-has e ↦ λ j zero. let t = e.extend_from.ensures.kept j (ap (λ v. bit_at v.0 j) (sym e.changed-is) ∙ zero) in (t.0, ap (λ xs. at K m xs j) e.row-is ∙ t.1)
      | else-has e ↦ λ j zero. (ap (λ v. bit_at v.0 j) (sym e.changed-is) ∙ zero, ap (λ xs. at K m xs j) e.row-is)
    ] in
    record {
      grown = grown_on K L I links w x (at K m c.args.row.now) r s c.loop-from.invariant.grown grown;
      brought = λ k h less. elim (ℕ_discrete (links.from k) f) [
        | yes same ↦ here k h same
        | no ne ↦ brought_on K L I links w x r s k grown (c.loop-from.invariant.brought k h (omega arith))
      ];
      kept = λ j zero. let now = kept j zero in now.1 ∙ c.loop-from.invariant.kept j now.0;
    }

pub returns : goal.returns
returns g c =
    let K = g.W.Weight.kind in
    let m = g.W.Weight.meaning in
    let net = c.args.self.now.net.now in
    let links = net_of net.links.now in
    record {
      row = round_done K g.met.W.Weight.lawful g.met.W.Weight.idempotent links (at K m net.weights.now) (at K m c.args.self.now.weights.now) (at K m c.args.row.now) (at K m c.loop-from.row) c.loop-from.invariant.grown
          (λ l h. let below = (net_within net.events net.links.now net.fit.within l h).0 in let last = in_counting l 0 (length net.links.now) h in c.loop-from.invariant.brought l (omega (arith, last)) (omega (arith, below, c.loop-from-test.false)));
      kept = c.loop-from.invariant.kept;
    }
