use Rattle.std.proofs.Common.{◌≡◌, ℕ, ℤ, ◌+◌, ◌≤◌, ◌<◌, length, take, get_or, nat_abs, ◌+ℤ◌, sym, ap, ◌∙◌, subst, arith}
use Rattle.std.proofs.lemmas.Int.{ints}
use Rattle.std.proofs.lemmas.List.{take_more, length-take}
use Rattle.circuits.specs.Arcs.{sum, numbers_of}
use Rattle.circuits.proofs.Ratios.{sum_push}
use Rattle.circuits.proofs.numbers.Circuit.sum_along.Goals as goal

pub loop-arc-preserved : goal.loop-arc-preserved
loop-arc-preserved g c =
    let xs = c.numbers-arc-items.result.now in
    let i : ℕ = c.loop-arc.arc-index in
    let a : ℕ = get_or xs i 0 in
    let x : ℤ = c.number-total.result in
    let lt : i < length xs = c.loop-arc-test.true in
    let same : xs ≡ numbers_of c.args.self.now = c.numbers-arc-items.ensures in
    let few : length xs ≤ 32 = omega (arith, ap length same, length-take c.args.self.now.len c.args.self.now.arcs, c.args.self.now.short) in
    let known : get_or (numbers_of c.args.self.now) i 0 ≡ c.from.result = ap (λ ys. get_or ys i 0) (sym same) ∙ sym c.from.ensures in
    let here : nat_abs x ≤ 1099511627776 = c.requires.small i 0 (subst (λ ys. i < length ys) same lt) x (rw known c.number-total.ensures) in
    let small = c.loop-arc.invariant.small in
    record {
      sums = λ f h.
          let one : x ≡ f a = h c.from.result x c.number-total.ensures ∙ ap f c.from.ensures in
          let more : sum f (take (i + 1) xs) ≡ sum f (take i xs) +ℤ f a = ap (sum f) (take_more xs i 0 lt) ∙ sum_push f (take i xs) a in
          omega (arith, ints, c.loop-arc.invariant.sums f h);
      small = omega (arith, ints);
    }
