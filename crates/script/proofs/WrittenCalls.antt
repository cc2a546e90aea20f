-- The text of a call is a line that makes it: its words are its keyword and the texts of its values, and those spell the values.
use Rattle.std.proofs.lemmas.Bool.Decides.{nat_tests}
use Rattle.std.proofs.Common.{◌≡◌, ℕ, ◌/◌, ◌%◌, ◌^◌, ◌<◌, ◌≤◌, Bool, true, false, ◌&&◌, List, [], ◌∷◌, ◌++◌, map, length, Some, decimal, refl, ap, ◌∙◌, arith}
use Rattle.std.specs.List.{flat_map, AllByRecursion}
use Rattle.std.proofs.lemmas.Fmt.{digits_decimal, digits_value-decimal, decimal_nonempty}
use Rattle.std.proofs.lemmas.Bool.{false≢true}
use Rattle.script.specs.Words.{in_word, begins_word, words}
use Rattle.script.specs.Numbers.{is_digit, is_numeral, hex_byte, hex_bytes}
use Rattle.script.specs.Forms.{Form, opening, loading, adding, retiming, withdrawing, suspending, restoring, dismissing}
use Rattle.script.specs.Lines.{calls, is_comment, line_of}
use Rattle.script.specs.Spelling.{Size, bits_8, bits_16, bits_32, largest, Field, number, letter, file, keyword_of, fields_of, SpeltBy, Spelt, hex_letter, field_text, text_of, Writable, LineLaw}
use Rattle.script.proofs.Numerals.{own, numeral_of_digits}
use Rattle.script.proofs.SpeltLines.{line_sound, line_complete, line_alike, line_takes_over, line_takes_over_by, line_silent, line_silent_by}

-- a text that is one word
abbrev worded : List ℕ → Bool
worded [] = false
worded (b ∷ []) = in_word b
worded (b ∷ d ∷ word) = in_word b && worded (d ∷ word)

first_in_word : (b : ℕ) (word : List ℕ) → worded (b ∷ word) ≡ true → in_word b ≡ true
first_in_word b [] h = h
first_in_word b (d ∷ word) h = grind (arith, nat_tests)

-- a word in front of a text that does not go on with it
word_then : (word rest : List ℕ) → worded word ≡ true → begins_word rest ≡ false → words (word ++ rest) ≡ word ∷ words rest
word_then [] rest h e = absurd (false≢true h)
word_then (b ∷ []) rest h e = grind (arith, nat_tests)
word_then (b ∷ d ∷ word) rest h e = let behind = word_then (d ∷ word) rest in let first = first_in_word d word in grind (arith, nat_tests)

-- Numbers.

small : (size : Size) (n : ℕ) → n ≤ largest size → n < 2 ^ 64
small bits_8 n h = omega arith
small bits_16 n h = omega arith
small bits_32 n h = omega arith

number_spelt : (size : Size) (n : ℕ) → n ≤ largest size → SpeltBy (number size n) (decimal n)
number_spelt size n h =
    let fits = small size n h in
    (numeral_of_digits (decimal n) (decimal_nonempty n fits) (digits_decimal own n fits), digits_value-decimal own n fits, h)

digit_in_word : (b : ℕ) → is_digit b ≡ true → in_word b ≡ true
digit_in_word b h = grind (arith, nat_tests)

numeral_worded : (word : List ℕ) → is_numeral word ≡ true → worded word ≡ true
numeral_worded [] h = absurd (false≢true h)
numeral_worded (b ∷ []) h = grind (arith, nat_tests)
numeral_worded (b ∷ d ∷ word) h = let behind = numeral_worded (d ∷ word) in let digit = digit_in_word b in grind (arith, nat_tests)

-- Files.

letter_in_word : (d : ℕ) → in_word (hex_letter d) ≡ true
letter_in_word d = grind (arith, nat_tests)

abbrev two_letters : ℕ → List ℕ
two_letters b = hex_letter (b / 16) ∷ hex_letter (b % 16) ∷ []

byte_is : (b : ℕ) → b < 256 → hex_byte (hex_letter (b / 16)) (hex_letter (b % 16)) ≡ Some b
byte_is b h = grind (arith, nat_tests)

file_spelt : (bytes : List ℕ) → AllByRecursion (λ b. b < 256) bytes → hex_bytes (flat_map two_letters bytes) ≡ Some bytes
file_spelt [] h = refl
file_spelt (b ∷ bytes) h = let behind = file_spelt bytes h.1 in let byte = byte_is b h.0 in grind (arith, nat_tests)

file_worded : (b : ℕ) (bytes : List ℕ) → worded (flat_map two_letters (b ∷ bytes)) ≡ true
file_worded b [] = grind (arith, nat_tests)
file_worded b (d ∷ bytes) = let behind = file_worded d bytes in let high = letter_in_word (b / 16) in let low = letter_in_word (b % 16) in grind (arith, nat_tests)

file_some_worded : (bytes : List ℕ) → 0 < length bytes → worded (flat_map two_letters bytes) ≡ true
file_some_worded [] h = absurd (omega arith)
file_some_worded (b ∷ bytes) h = file_worded b bytes

-- Every value.

text_spelt : (field : Field) → Writable field → SpeltBy field (field_text field)
text_spelt (number size n) h = number_spelt size n h
text_spelt (letter b) h = (refl, h.1)
text_spelt (file bytes) h = file_spelt bytes h.1

text_worded : (field : Field) → Writable field → worded (field_text field) ≡ true
text_worded (number size n) h = numeral_worded (decimal n) (number_spelt size n h).0
text_worded (letter b) h = h.0
text_worded (file bytes) h = file_some_worded bytes h.0

-- values behind spaces
abbrev spaced : List Field → List ℕ
spaced fields = flat_map (λ field. 32 ∷ field_text field) fields

no_word_yet : (fields : List Field) → begins_word (spaced fields) ≡ false
no_word_yet [] = refl
no_word_yet (field ∷ fields) = refl

texts_are_words : (fields : List Field) → AllByRecursion Writable fields → words (spaced fields) ≡ map field_text fields
texts_are_words [] h = refl
texts_are_words (field ∷ fields) h =
    word_then (field_text field) (spaced fields) (text_worded field h.0) (no_word_yet fields) ∙ ap (λ (ws : List (List ℕ)). field_text field ∷ ws) (texts_are_words fields h.1)

texts_spelt : (fields : List Field) → AllByRecursion Writable fields → Spelt fields (map field_text fields)
texts_spelt [] h = tt
texts_spelt (field ∷ fields) h = (text_spelt field h.0, texts_spelt fields h.1)

-- The whole line.

keyword_worded : (form : Form) → worded (keyword_of form) ≡ true
keyword_worded (opening mark events period departures) = refl
keyword_worded (loading bytes) = refl
keyword_worded (adding a) = refl
keyword_worded (retiming n time) = refl
keyword_worded (withdrawing n) = refl
keyword_worded (suspending n) = refl
keyword_worded (restoring mark n) = refl
keyword_worded (dismissing mark n) = refl

no_comment : (form : Form) → is_comment (text_of form) ≡ false
no_comment (opening mark events period departures) = refl
no_comment (loading bytes) = refl
no_comment (adding a) = refl
no_comment (retiming n time) = refl
no_comment (withdrawing n) = refl
no_comment (suspending n) = refl
no_comment (restoring mark n) = refl
no_comment (dismissing mark n) = refl

words_of_text : (form : Form) → AllByRecursion Writable (fields_of form) → words (text_of form) ≡ keyword_of form ∷ map field_text (fields_of form)
words_of_text form h =
    word_then (keyword_of form) (spaced (fields_of form)) (keyword_worded form) (no_word_yet (fields_of form)) ∙ ap (λ (ws : List (List ℕ)). keyword_of form ∷ ws) (texts_are_words (fields_of form) h)

-- the text of a call makes it
pub text_makes : (form : Form) → AllByRecursion Writable (fields_of form) → line_of (text_of form) ≡ calls form
text_makes form h = line_complete (text_of form) form (no_comment form) (rw (words_of_text form h) (refl, texts_spelt (fields_of form) h))

-- what a line is
pub line_law : (line : List ℕ) → LineLaw line
line_law line = record { sound = line_sound line; complete = line_complete line; takeover = line_takes_over line; takeover_by = line_takes_over_by line; silent = line_silent line; silent_by = line_silent_by line; alike = line_alike line; written = text_makes }
