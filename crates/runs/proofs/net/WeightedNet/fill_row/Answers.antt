use Rattle.std.proofs.Common.{◌≡◌, ℕ, ◌+◌, ◌-◌, ◌<◌, ◌≤◌, cond, length, sym, ap, ◌∙◌, arith, ne_eqb, eqb-true}
use native.Mathlib.Decide.{ℕ_discrete}
use Rattle.std.specs.Int.{bit_at}
use Rattle.std.proofs.lemmas.Nat.Bits.{bit_at-zero}
use Rattle.runs.specs.Runs.{cell}
use Rattle.runs.specs.Links.{net_of, at}
use Rattle.runs.proofs.Cells.{cell_zero}
use Rattle.runs.proofs.Extending.{net_within, row_room}
use Rattle.runs.proofs.Members.{counting_in}
use Rattle.runs.proofs.Rounds.{cell_one}
use Rattle.runs.proofs.Rows.{next_row, brought_row, settled_row}
use Rattle.runs.proofs.net.WeightedNet.fill_row.Goals as goal

pub loop-init : goal.loop-init
loop-init g c =
    let K = g.W.Weight.kind in
    let m = g.W.Weight.meaning in
    let L = g.met.W.Weight.lawful in
    let net = c.args.self.now in
    let links = net_of net.links.now in
    let w = at K m net.weights.now in
    let i = c.args.i in
    let first : (j : ℕ) → j < net.events → at K m c.seed_row.new.row j ≡ cell K links w 1 i j = λ j h. c.seed_row.ensures j (omega (arith, c.requires.side, h)) ∙ sym (cell_one K L g.met.W.Weight.idempotent links w i j) in
    record {
      before = λ j h. ap (λ xs. at K m xs j) c.copy_from_slice.ensures.after ∙ first j h;
      row = first;
      old = λ j h zero. elim (ℕ_discrete i j) [
        | yes e ↦ absurd (let one : bit_at c.only-recent.result.0 j ≡ 1 = ap (bit_at c.only-recent.result.0) (sym e) ∙ c.only-recent.ensures.added (omega (arith, h, net.few, e)) in omega (arith, one, zero))
        | no ne ↦ cell_one K L g.met.W.Weight.idempotent links w i j ∙ ap (λ t. cond t K.start K.none) (ne_eqb i j ne) ∙ sym (cell_zero K L links w i j)
      ];
    }

pub invariant_of-reached : goal.invariant_of-reached
invariant_of-reached g c =
    let net = c.args.self.now in
    let side : length c.loop.before ≡ net.events = omega (arith, c.loop.auto.before, c.copy_from_slice.ensures.len, c.requires.same, c.requires.side) in
    let short : c.loop.counter ≤ 32 = omega (arith, c.loop-test.true, net.few) in
    record {
      side = side;
      room = row_room g.W.Weight.kind g.met.W.Weight.lawful g.W.Weight.meaning (net_of net.links.now) net.weights.now c.loop.before net.events c.loop.counter c.args.i net.fit.light side short c.loop.invariant.before;
    }

pub extend-recent-requires-clause-brought : goal.extend-recent-requires-clause-brought
extend-recent-requires-clause-brought g c =
    let K = g.W.Weight.kind in
    let m = g.W.Weight.meaning in
    let net = c.args.self.now in
    let links = net_of net.links.now in
    let within = net_within net.events net.links.now net.fit.within in
    λ l h zero.
    let inside = counting_in l 0 (length net.links.now) (omega arith) (omega (arith, h)) in
    brought_row K g.met.W.Weight.lawful links (at K m net.weights.now) net.events within g.met.W.Weight.idempotent c.loop.counter c.args.i l (at K m c.loop.before) (at K m c.loop.row) (omega (arith, c.loop.auto.counter)) c.loop.invariant.before c.loop.invariant.row inside
    (c.loop.invariant.old (links.from l) (within l inside).0 zero)

pub returns-then-is_empty : goal.returns-then-is_empty
returns-then-is_empty g c =
    let K = g.W.Weight.kind in
    let m = g.W.Weight.meaning in
    let L = g.met.W.Weight.lawful in
    let net = c.args.self.now in
    let links = net_of net.links.now in
    let w = at K m net.weights.now in
    let within = net_within net.events net.links.now net.fit.within in
    let next = next_row K L links w net.events within g.met.W.Weight.idempotent c.loop.counter c.args.i (at K m c.loop.before) (at K m c.loop.row) (at K m c.extend-recent.new.row) (omega (arith, c.loop.auto.counter)) c.loop.invariant.before c.loop.invariant.row c.extend-recent.ensures.row in
    let none : c.extend-recent.result.0 ≡ 0 = eqb-true c.extend-recent.result.0 0 (sym c.is_empty.ensures ∙ c.if-is_empty.true) in
    let same : (j : ℕ) → j < net.events → at K m c.extend-recent.new.row j ≡ at K m c.loop.before j = λ j h. c.extend-recent.ensures.kept j (ap (λ v. bit_at v j) none ∙ bit_at-zero j) ∙ c.loop.invariant.row j h ∙ sym (c.loop.invariant.before j h) in
    let done = settled_row K L links w net.events within c.loop.counter net.events c.args.i (at K m c.loop.before) (at K m c.extend-recent.new.row) (omega (arith, c.loop-test.true)) c.loop.invariant.before next same in
    record { row = λ j h. same j h ∙ done j h; before = done }

pub loop-preserved : goal.loop-preserved
loop-preserved g c =
    let K = g.W.Weight.kind in
    let m = g.W.Weight.meaning in
    let net = c.args.self.now in
    let links = net_of net.links.now in
    let w = at K m net.weights.now in
    let within = net_within net.events net.links.now net.fit.within in
    let next = next_row K g.met.W.Weight.lawful links w net.events within g.met.W.Weight.idempotent c.loop.counter c.args.i (at K m c.loop.before) (at K m c.loop.row) (at K m c.extend-recent.new.row) (omega (arith, c.loop.auto.counter)) c.loop.invariant.before c.loop.invariant.row c.extend-recent.ensures.row in
    let back : c.loop.counter + 1 - 1 ≡ c.loop.counter = omega arith in
    record {
      before = λ j h. ap (λ xs. at K m xs j) c.copy_from_slice-in-loop.ensures.after ∙ next j h;
      row = next;
      old = λ j h zero. sym (next j h) ∙ c.extend-recent.ensures.kept j zero ∙ c.loop.invariant.row j h ∙ ap (λ k. cell K links w k c.args.i j) (sym back);
    }

pub returns : goal.returns
returns g c =
    let K = g.W.Weight.kind in
    let net = c.args.self.now in
    let links = net_of net.links.now in
    let w = at K g.W.Weight.meaning net.weights.now in
    let all : (j : ℕ) → j < net.events → cell K links w c.loop.counter c.args.i j ≡ cell K links w net.events c.args.i j = λ j h. let end : c.loop.counter ≡ net.events = omega (arith, h, c.loop-test.false, c.loop.auto.counter-end) in ap (λ k. cell K links w k c.args.i j) end in
    record { row = λ j h. c.loop.invariant.row j h ∙ all j h; before = λ j h. c.loop.invariant.before j h ∙ all j h }
