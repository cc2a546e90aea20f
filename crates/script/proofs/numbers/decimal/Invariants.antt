use Rattle.std.proofs.Common.{◌≡◌, ◌≤◌, drop}
use Rattle.script.specs.Numbers.{all_digits, spelt_after}
use Rattle.script.proofs.numbers.decimal.Given as goal

abbrev pub invariant-loop-byte : goal.invariant-loop-byte
invariant-loop-byte l = (l.number ≤ l.limit) × (all_digits (drop l.byte-index l.word) ≡ all_digits l.word) × (spelt_after l.number (drop l.byte-index l.word) ≡ spelt_after 0 l.word)
