use Rattle.std.proofs.Common.{◌≡◌, ◌++◌, drop, vec_items}
use Rattle.std.specs.Option.{option_map}
use Rattle.script.specs.Numbers.{hex_bytes}
use Rattle.script.proofs.Gathering.{pair_bytes}
use Rattle.script.proofs.numbers.hex_bytes.Given as goal

abbrev pub invariant-loop-high : goal.invariant-loop-high
invariant-loop-high l = option_map (λ more. vec_items l.bytes ++ more) (pair_bytes (drop l.high-index l.pairs)) ≡ hex_bytes l.word
