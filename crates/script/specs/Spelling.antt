-- How a planner spells a call: its keyword, and a word for each of its values. What a line must be to make the call, and a line that does.
use Rattle.std.specs.Prelude.{◌≡◌, ℕ, ◌+◌, ◌/◌, ◌%◌, ◌<◌, ◌≤◌, true, false, cond, ◌⊎◌, List, [], ◌∷◌, ◌++◌, map, length, Some, codes, decimal, nat_lt}
use Rattle.std.specs.List.{flat_map, AllByRecursion}
use Rattle.script.specs.Words.{in_word, words}
use Rattle.script.specs.Numbers.{is_numeral, spelt_after, hex_bytes}
use Rattle.script.specs.Forms.{Form, opening, loading, adding, retiming, withdrawing, suspending, restoring, dismissing, largest_8, largest_16, largest_32}
use Rattle.script.specs.Lines.{calls, takes_over, is_silent, is_comment, line_of}

-- how many bits a number has
pub data Size : Type 0 where
  bits_8 : Size
  bits_16 : Size
  bits_32 : Size

-- the largest number of a size
abbrev pub largest : Size → ℕ
largest bits_8 = largest_8
largest bits_16 = largest_16
largest bits_32 = largest_32

-- a value of a call: a number of a size, a letter, or the bytes of a file
pub data Field : Type 0 where
  number : (size : Size) → (n : ℕ) → Field
  letter : (b : ℕ) → Field
  file : (bytes : List ℕ) → Field

-- the keyword of a call
abbrev pub keyword_of : Form → List ℕ
keyword_of (opening mark events period departures) = codes "open"
keyword_of (loading bytes) = codes "load"
keyword_of (adding a) = codes "add"
keyword_of (retiming n time) = codes "retime"
keyword_of (withdrawing n) = codes "withdraw"
keyword_of (suspending n) = codes "suspend"
keyword_of (restoring mark n) = codes "restore"
keyword_of (dismissing mark n) = codes "dismiss"

-- the values of a file: none where it is empty
abbrev pub file_fields : List ℕ → List Field
file_fields [] = []
file_fields (b ∷ bytes) = file (b ∷ bytes) ∷ []

-- the values of a call, in the order in which they are written
abbrev pub fields_of : Form → List Field
fields_of (opening mark events period departures) = number bits_16 mark ∷ number bits_8 events ∷ number bits_32 period ∷ map (number bits_32) departures
fields_of (loading bytes) = file_fields bytes
fields_of (adding a) = number bits_8 a.from ∷ number bits_8 a.to ∷ number bits_16 a.time ∷ number bits_8 a.tokens ∷ number bits_8 a.days ∷ letter a.letter ∷ []
fields_of (retiming n time) = number bits_16 n ∷ number bits_16 time ∷ []
fields_of (withdrawing n) = number bits_16 n ∷ []
fields_of (suspending n) = number bits_16 n ∷ []
fields_of (restoring mark n) = number bits_16 mark ∷ number bits_16 n ∷ []
fields_of (dismissing mark n) = number bits_16 mark ∷ number bits_16 n ∷ []

-- a word spells a value: a number in decimal, within its size; a letter as itself, an ASCII character; a file in hexadecimal
abbrev pub SpeltBy : Field → List ℕ → Type 0
SpeltBy (number size n) word = (is_numeral word ≡ true) × (spelt_after 0 word ≡ n) × (n ≤ largest size)
SpeltBy (letter b) word = (word ≡ b ∷ []) × (b < 128)
SpeltBy (file bytes) word = hex_bytes word ≡ Some bytes

-- words spell values, one word each, in order
abbrev pub Spelt : List Field → List (List ℕ) → Type 0
Spelt [] [] = Unit {0}
Spelt [] (word ∷ others) = ⊥
Spelt (field ∷ fields) [] = ⊥
Spelt (field ∷ fields) (word ∷ others) = SpeltBy field word × Spelt fields others

-- words spell a call: its keyword, and then its values
abbrev pub Spells : Form → List (List ℕ) → Type 0
Spells form [] = ⊥
Spells form (keyword ∷ others) = (keyword ≡ keyword_of form) × Spelt (fields_of form) others

-- a hexadecimal digit, in lower case
abbrev pub hex_letter : ℕ → ℕ
hex_letter d = cond (nat_lt d 10) (48 + d) (87 + d)

-- a value as a planner writes it
abbrev pub field_text : Field → List ℕ
field_text (number size n) = decimal n
field_text (letter b) = b ∷ []
field_text (file bytes) = flat_map (λ b. hex_letter (b / 16) ∷ hex_letter (b % 16) ∷ []) bytes

-- a call as a planner writes it: its keyword, and each value behind a space
abbrev pub text_of : Form → List ℕ
text_of form = keyword_of form ++ flat_map (λ field. 32 ∷ field_text field) (fields_of form)

-- a value that can be written: a number within its size, a letter that is an ASCII character and no blank, at least one byte of a file
abbrev pub Writable : Field → Type 0
Writable (number size n) = n ≤ largest size
Writable (letter b) = (in_word b ≡ true) × (b < 128)
Writable (file bytes) = (0 < length bytes) × AllByRecursion (λ b. b < 256) bytes

-- what a line is: it makes a call exactly when it is no comment and its words spell the call; it is the takeover exactly when it is no
-- comment and that is its one word; it is silent exactly when it is a comment or has no word; so lines of the same words that are no
-- comments are alike; and each call whose values can be written is made by its text
pub record LineLaw (line : List ℕ) : Type 0 where
  pub sound : (form : Form) → line_of line ≡ calls form → (is_comment line ≡ false) × Spells form (words line)
  pub complete : (form : Form) → is_comment line ≡ false → Spells form (words line) → line_of line ≡ calls form
  pub takeover : line_of line ≡ takes_over → (is_comment line ≡ false) × (words line ≡ codes "takeover" ∷ [])
  pub takeover_by : is_comment line ≡ false → words line ≡ codes "takeover" ∷ [] → line_of line ≡ takes_over
  pub silent : line_of line ≡ is_silent → (is_comment line ≡ true) ⊎ (words line ≡ [])
  pub silent_by : (is_comment line ≡ true) ⊎ (words line ≡ []) → line_of line ≡ is_silent
  pub alike : (other : List ℕ) → is_comment line ≡ false → is_comment other ≡ false → words other ≡ words line → line_of other ≡ line_of line
  pub written : (form : Form) → AllByRecursion Writable (fields_of form) → line_of (text_of form) ≡ calls form
