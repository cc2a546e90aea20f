use Rattle.std.proofs.Common.{◌≡◌, ℕ, ◌<◌, ◌≤◌, length, get_or, take, drop, ◌++◌, sym, ◌∙◌, subst, arith}
use Rattle.std.specs.List.{AllByRecursion}
use Rattle.std.proofs.ByRecursion.{All-from_get_or}
use Rattle.std.proofs.lemmas.List.{take_at, length-take}
use Rattle.circuits.specs.Arcs.{numbers_of, BeginsLowest}
use Rattle.circuits.proofs.Turns.{turned_list, turned_lowest}
use Rattle.circuits.proofs.numbers.Circuit.turned_to_lowest.Goals as goal

pub returns : goal.returns
returns c =
    let circuit = c.args.self in
    let xs = numbers_of circuit in
    let p : ℕ = c.in-Some.place in
    let ys = c.rotate_left.new.self in
    let long : length ys ≡ circuit.len = omega (arith, c.rotate_left.ensures.len, length-take circuit.len circuit.arcs, circuit.short) in
    let whole : take circuit.len (ys ++ drop circuit.len circuit.arcs) ≡ turned_list p xs = take_at ys _ circuit.len long ∙ c.rotate_left.ensures.after in
    let inside : p < length xs = subst (λ zs. p < length zs) c.numbers.ensures c.in-Some.ensures.0 in
    let low : AllByRecursion (λ b. get_or xs p 0 ≤ b) xs = subst (λ zs. AllByRecursion (λ b. get_or zs p 0 ≤ b) zs) c.numbers.ensures (All-from_get_or _ c.numbers.result.now 0 (λ k h. c.in-Some.ensures.1 k 0 h)) in
    record { place = p; numbers = whole; lowest = subst BeginsLowest (sym whole) (turned_lowest p xs inside low) }
