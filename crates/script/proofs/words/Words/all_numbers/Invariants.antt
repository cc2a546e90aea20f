use Rattle.std.proofs.Common.{◌≡◌, ◌++◌, vec_items}
use Rattle.std.specs.Option.{option_map}
use Rattle.script.specs.Numbers.{numbers_in}
use Rattle.script.specs.Forms.{largest_32}
use Rattle.script.proofs.words.Words.all_numbers.Given as goal

abbrev pub invariant-loop-word : goal.invariant-loop-word
invariant-loop-word l = option_map (λ more. vec_items l.numbers ++ more) (numbers_in largest_32 l.word-iterator) ≡ numbers_in largest_32 l.fn.self
