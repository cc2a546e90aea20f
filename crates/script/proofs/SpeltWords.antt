-- The words that spell a call are read as the call, and no others are.
use Rattle.std.proofs.lemmas.Bool.Decides.{nat_tests}
use Rattle.std.proofs.Common.{◌≡◌, ℕ, List, [], ◌∷◌, Some, None, Option, refl, arith}
use Rattle.std.specs.Option.{option_map}
use Rattle.script.specs.Words.{only_word}
use Rattle.script.specs.Numbers.{bind, first_number}
use Rattle.script.specs.Forms.{one_number, two_numbers}
use Rattle.script.specs.Spelling.{Size, bits_16, largest, Field, number, SpeltBy, Spelt}

-- a value that follows of another is there only if the other is
pub bind_some : {A B : Type 0} (o : Option A) (next : A → Option B) (y : B) → bind o next ≡ Some y → (x : A) × (o ≡ Some x) × (next x ≡ Some y)
bind_some None next y e = absurd cc
bind_some (Some x) next y e = (x, refl, e)

pub mapped_some : {A B : Type 0} (o : Option A) (f : A → B) (y : B) → option_map f o ≡ Some y → (x : A) × (o ≡ Some x) × (f x ≡ y)
mapped_some None f y e = absurd cc
mapped_some (Some x) f y e = (x, refl, cc)

-- Numbers.

-- a first number, and what the words behind it spell
pub first_sound : (size : Size) (words : List (List ℕ)) (x : ℕ × List (List ℕ)) (more : List Field) → first_number (largest size) words ≡ Some x → Spelt more x.1 → Spelt (number size x.0 ∷ more) words
first_sound size [] x more e h = absurd cc
first_sound size (word ∷ others) x more e h = grind (arith, nat_tests)

pub last_sound : (field : Field) (words : List (List ℕ)) (word : List ℕ) → only_word words ≡ Some word → SpeltBy field word → Spelt (field ∷ []) words
last_sound field words word e h = grind (arith, nat_tests)

-- One number, and two.

pub one_sound : (words : List (List ℕ)) (n : ℕ) → one_number words ≡ Some n → Spelt (number bits_16 n ∷ []) words
one_sound words n e = grind (arith, nat_tests)

pub two_sound : (words : List (List ℕ)) (x : ℕ × ℕ) → two_numbers words ≡ Some x → Spelt (number bits_16 x.0 ∷ number bits_16 x.1 ∷ []) words
two_sound words x e = grind (arith, nat_tests)
