-- A numeral read from the left: what is left of the word, behind the number so far, tells what the whole word tells.
use Rattle.std.proofs.Common.{rules}
use Rattle.std.proofs.lemmas.Str.Parse.{IsNumeralModel, numerals_by_fold}
use Rattle.std.proofs.Common.{◌≡◌, ℕ, ◌+◌, ◌-◌, ◌*◌, ◌<◌, ◌≤◌, true, false, ◌&&◌, leb, List, [], ◌∷◌, length, get_or, drop, Some, None, sym, refl, ap, ◌∙◌, arith}
use Rattle.std.proofs.lemmas.List.{at_drop_more, at_drop_all}
use Rattle.std.proofs.lemmas.Bool.{cond-true, cond-false, and_from, and_left, and_right, le-leb, lt-leb}
use Rattle.script.specs.Numbers.{is_digit, all_digits, is_numeral, spelt_after, number_in}

-- the words of digits are the numerals of the library, and spell the same numbers
pub own : IsNumeralModel (λ word. all_digits word ≡ true) (spelt_after 0)
own = numerals_by_fold _ (search rules) spelt_after (search rules)

-- a word that has other bytes than digits is no numeral
garbled : (word : List ℕ) → all_digits word ≡ false → is_numeral word ≡ false
garbled [] h = refl
garbled (b ∷ word) h = h

-- a word of digits, at least one, is a numeral
pub numeral_of_digits : (word : List ℕ) → 0 < length word → all_digits word ≡ true → is_numeral word ≡ true
numeral_of_digits [] some h = absurd (omega arith)
numeral_of_digits (b ∷ word) some h = h

-- more digits never make a number smaller
spelt_at_least : (n : ℕ) (bytes : List ℕ) → n ≤ spelt_after n bytes
spelt_at_least n [] = omega arith
spelt_at_least n (b ∷ bytes) = omega (arith, spelt_at_least (n * 10 + (b - 48)) bytes)

-- a number above the limit is none
pub number_above : (limit n : ℕ) (word rest : List ℕ) → spelt_after n rest ≡ spelt_after 0 word → limit < n → number_in limit word ≡ None
number_above limit n word rest spelt above =
    cond-false (is_numeral word && leb (spelt_after 0 word) limit) _ _ (and_right (is_numeral word) _ (lt-leb (spelt_after 0 word) limit (omega (arith, spelt_at_least n rest))))

module _ (word : List ℕ) (i n : ℕ) (digits : all_digits (drop i word) ≡ all_digits word) (spelt : spelt_after n (drop i word) ≡ spelt_after 0 word) where
  -- one more digit
  pub number_more : i < length word → is_digit (get_or word i 0) ≡ true
      → (all_digits (drop (i + 1) word) ≡ all_digits word) × (spelt_after (n * 10 + (get_or word i 0 - 48)) (drop (i + 1) word) ≡ spelt_after 0 word)
  number_more h t = (
    ap (λ v. v && all_digits (drop (i + 1) word)) (sym t) ∙ sym (at_drop_more all_digits word i 0 h) ∙ digits,
    sym (at_drop_more (spelt_after n) word i 0 h) ∙ spelt,
  )

  -- a byte that is no digit
  pub number_garbled : (limit : ℕ) → i < length word → is_digit (get_or word i 0) ≡ false → number_in limit word ≡ None
  number_garbled limit h t =
      let other : all_digits word ≡ false = sym digits ∙ at_drop_more all_digits word i 0 h ∙ ap (λ v. v && all_digits (drop (i + 1) word)) t in
      cond-false (is_numeral word && leb (spelt_after 0 word) limit) _ _ (and_left (is_numeral word) _ (garbled word other))

  -- all digits read
  pub number_read : (limit : ℕ) → length word ≤ i → 0 < length word → n ≤ limit → number_in limit word ≡ Some n
  number_read limit h some within =
      let whole : spelt_after 0 word ≡ n = sym spelt ∙ at_drop_all (spelt_after n) word i h in
      let only : all_digits word ≡ true = sym digits ∙ at_drop_all all_digits word i h in
      cond-true (is_numeral word && leb (spelt_after 0 word) limit) _ _ (and_from _ _ (numeral_of_digits word some only) (le-leb (spelt_after 0 word) limit (omega arith)))
      ∙ ap (λ (v : ℕ). Some v) whole
