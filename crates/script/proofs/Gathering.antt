-- Bytes gathered from the left: what is gathered, in front of what the rest gives, is what the whole gives.
use Rattle.std.proofs.lemmas.Bool.Decides.{nat_tests}
use Rattle.std.proofs.Common.{◌≡◌, ℕ, zero, suc, ◌+◌, ◌*◌, ◌/◌, ◌%◌, List, [], ◌∷◌, ◌++◌, length, get_or, Some, None, Option, sym, refl, ap, ◌∙◌, append_assoc, arith}
use Rattle.std.specs.Simd.{first_chunks}
use Rattle.std.specs.Option.{option_map}
use Rattle.script.specs.Numbers.{bind, hex_byte, hex_bytes}

-- the bytes that pairs of digits stand for
abbrev pub pair_bytes : List (List ℕ) → Option (List ℕ)
pair_bytes [] = Some []
pair_bytes (pair ∷ pairs) = bind (hex_byte (get_or pair 0 0) (get_or pair 1 0)) (λ b. option_map (λ bs. b ∷ bs) (pair_bytes pairs))

pairs_of : (n : ℕ) (word : List ℕ) → length word ≡ n * 2 → pair_bytes (first_chunks 2 n word) ≡ hex_bytes word
pairs_of zero [] h = refl
pairs_of zero (b ∷ word) h = absurd (omega arith)
pairs_of (suc n) [] h = absurd (omega arith)
pairs_of (suc n) (b ∷ []) h = absurd (omega arith)
pairs_of (suc n) (high ∷ low ∷ digits) h = let behind = pairs_of n digits (omega arith) in grind (arith, nat_tests)

-- a word of an even number of digits is spelt by its pairs
pub pairs_of_word : (word : List ℕ) → length word % 2 ≡ 0 → pair_bytes (first_chunks 2 (length word / 2) word) ≡ hex_bytes word
pairs_of_word word h = pairs_of (length word / 2) word (omega arith)

no_bytes : (n : ℕ) (word : List ℕ) → length word ≡ 1 + n * 2 → hex_bytes word ≡ None
no_bytes n [] h = absurd (omega arith)
no_bytes zero (b ∷ []) h = refl
no_bytes zero (b ∷ d ∷ word) h = absurd (omega arith)
no_bytes (suc n) (b ∷ []) h = absurd (omega arith)
no_bytes (suc n) (high ∷ low ∷ digits) h = let behind = no_bytes n digits (omega arith) in grind (arith, nat_tests)

-- a word of an odd number of digits spells no bytes
pub odd_word : (word : List ℕ) → length word % 2 ≡ 1 → hex_bytes word ≡ None
odd_word word h = no_bytes (length word / 2) word (omega arith)

-- one more at the end of what is gathered is one more at the front of what the rest gives
gathered : (xs : List ℕ) (n : ℕ) (o : Option (List ℕ)) → option_map (λ more. (xs ++ (n ∷ [])) ++ more) o ≡ option_map (λ more. xs ++ more) (option_map (λ ns. n ∷ ns) o)
gathered xs n None = refl
gathered xs n (Some ms) = grind (arith, append_assoc)

-- one byte more
pub pair_more : (b : ℕ) (pair xs ys : List ℕ) (left rest : List (List ℕ)) (whole : Option (List ℕ)) → left ≡ pair ∷ rest → Some b ≡ hex_byte (get_or pair 0 0) (get_or pair 1 0) → ys ≡ xs ++ (b ∷ [])
    → option_map (λ more. xs ++ more) (pair_bytes left) ≡ whole → option_map (λ more. ys ++ more) (pair_bytes rest) ≡ whole
pair_more b pair xs ys left rest whole first is pushed so_far =
    let step : pair_bytes left ≡ option_map (λ bs. b ∷ bs) (pair_bytes rest) = ap pair_bytes first ∙ ap (λ (o : Option ℕ). bind o (λ c. option_map (λ bs. c ∷ bs) (pair_bytes rest))) (sym is) in
    ap (λ (zs : List ℕ). option_map (λ more. zs ++ more) (pair_bytes rest)) pushed
    ∙ gathered xs b (pair_bytes rest)
    ∙ ap (λ (o : Option (List ℕ)). option_map (λ more. xs ++ more) o) (sym step)
    ∙ so_far
