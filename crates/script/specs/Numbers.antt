-- The numbers that words spell, in decimal and in hexadecimal.
use Rattle.std.specs.Prelude.{ℕ, ◌+◌, ◌-◌, ◌*◌, Bool, true, false, cond, ◌&&◌, List, [], ◌∷◌, Some, None, Option, nat_le}
use Rattle.std.specs.Option.{option_map}

-- what follows of a value, if there is one
abbrev pub bind : {A B : Type 0} → Option A → (A → Option B) → Option B
bind None next = None
bind (Some x) next = next x

-- a decimal digit
abbrev pub is_digit : ℕ → Bool
is_digit b = nat_le 48 b && nat_le b 57

-- decimal digits only
abbrev pub all_digits : List ℕ → Bool
all_digits [] = true
all_digits (b ∷ bytes) = is_digit b && all_digits bytes

-- a numeral: at least one digit, and digits only; it may begin with zeros
abbrev pub is_numeral : List ℕ → Bool
is_numeral [] = false
is_numeral (b ∷ bytes) = all_digits (b ∷ bytes)

-- the number that digits go on to spell behind those of a number
abbrev pub spelt_after : ℕ → List ℕ → ℕ
spelt_after n [] = n
spelt_after n (b ∷ bytes) = spelt_after (n * 10 + (b - 48)) bytes

-- the number that a word spells in decimal, if it is at most the limit
abbrev pub number_in : ℕ → List ℕ → Option ℕ
number_in limit word = cond (is_numeral word && nat_le (spelt_after 0 word) limit) (Some (spelt_after 0 word)) None

-- the number that the first word spells, and the words behind it
abbrev pub first_number : ℕ → List (List ℕ) → Option (ℕ × List (List ℕ))
first_number limit [] = None
first_number limit (word ∷ others) = option_map (λ n. (n, others)) (number_in limit word)

-- a number cut off, by its value, with the words behind it
abbrev pub number_cut : {N : Type 0} → (N → ℕ) → Option N → List (List ℕ) → Option (ℕ × List (List ℕ))
number_cut value None others = None
number_cut value (Some n) others = Some (value n, others)

-- the numbers that all words spell
abbrev pub numbers_in : ℕ → List (List ℕ) → Option (List ℕ)
numbers_in limit [] = Some []
numbers_in limit (word ∷ others) = bind (number_in limit word) (λ n. option_map (λ ns. n ∷ ns) (numbers_in limit others))

-- the number that a hexadecimal digit stands for, in lower or upper case
abbrev pub hex_digit : ℕ → Option ℕ
hex_digit b =
    cond (is_digit b) (Some (b - 48))
    (cond (nat_le 97 b && nat_le b 102) (Some (b - 87))
    (cond (nat_le 65 b && nat_le b 70) (Some (b - 55)) None))

-- the byte that two hexadecimal digits stand for, the higher first
abbrev pub hex_byte : ℕ → ℕ → Option ℕ
hex_byte high low = bind (hex_digit high) (λ h. option_map (λ l. h * 16 + l) (hex_digit low))

-- the bytes that a word spells in hexadecimal: an even number of digits, two to a byte
abbrev pub hex_bytes : List ℕ → Option (List ℕ)
hex_bytes [] = Some []
hex_bytes (high ∷ []) = None
hex_bytes (high ∷ low ∷ digits) = bind (hex_byte high low) (λ b. option_map (λ bs. b ∷ bs) (hex_bytes digits))
