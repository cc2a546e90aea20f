use Rattle.std.proofs.Common.{◌≡◌, Some, rules, ◌+◌, ◌-◌, ◌*◌, ◌<◌, length, get_or, drop, sym, ap, ◌∙◌, arith}
use Rattle.std.proofs.lemmas.Bool.{eqb-false}
use Rattle.script.specs.Numbers.{spelt_after, number_in}
use Rattle.script.proofs.Numerals.{number_above, number_more, number_garbled, number_read}
use Rattle.script.proofs.numbers.decimal.Goals as goal

pub returns-then-not-is_ascii_digit : goal.returns-then-not-is_ascii_digit
returns-then-not-is_ascii_digit c = sym (number_garbled _ c.loop-byte.byte-index c.loop-byte.number c.loop-byte.invariant.1 c.loop-byte.invariant.2 _ c.loop-byte-test.true (sym c.if-not-is_ascii_digit.ensures.value))

pub returns-then-number-from : goal.returns-then-number-from
returns-then-number-from c =
    let more = number_more _ c.loop-byte.byte-index c.loop-byte.number c.loop-byte.invariant.1 c.loop-byte.invariant.2 c.loop-byte-test.true (sym c.if-not-is_ascii_digit.ensures.value) in
    let word = c.args.word.now in
    let i = c.loop-byte.byte-index in
    sym (number_above c.args.limit (c.loop-byte.number * 10 + (get_or word i 0 - 48)) word (drop (i + 1) word) more.1 (omega arith))

pub loop-byte-preserved : goal.loop-byte-preserved
loop-byte-preserved c =
    let more = number_more _ c.loop-byte.byte-index c.loop-byte.number c.loop-byte.invariant.1 c.loop-byte.invariant.2 c.loop-byte-test.true (sym c.if-not-is_ascii_digit.ensures.value) in
    let word = c.args.word.now in
    (omega arith, more.0, ap (λ n. spelt_after (c.loop-byte.number * 10 + n) (drop (c.loop-byte.byte-index + 1) word)) c.from.ensures ∙ more.1)

pub returns : goal.returns
returns c =
    let some : 0 < length c.args.word.now = omega (arith, eqb-false _ _ (sym c.if-is_empty.ensures)) in
    let read : number_in c.args.limit c.args.word.now ≡ Some c.loop-byte.number = number_read _ c.loop-byte.byte-index c.loop-byte.number c.loop-byte.invariant.1 c.loop-byte.invariant.2 _ c.loop-byte-test.false some c.loop-byte.invariant.0 in
    let within = c.loop-byte.invariant.0 in
    search rules
