-- The words of a line: blanks separate them.
use Rattle.std.specs.Prelude.{ℕ, Bool, false, cond, not, ◌||◌, List, [], ◌∷◌, Some, None, Option, ◌==◌}
use Rattle.std.specs.Borrow.{Bor}

-- a space, a tabulator or a carriage return
abbrev pub is_blank : ℕ → Bool
is_blank b = b == 32 || (b == 9 || b == 13)

-- any other byte stands in a word
abbrev pub in_word : ℕ → Bool
in_word b = not (is_blank b)

-- whether the first byte stands in a word
abbrev pub begins_word : List ℕ → Bool
begins_word [] = false
begins_word (b ∷ bytes) = in_word b

-- a byte in front of the first word
abbrev pub onto_first : ℕ → List (List ℕ) → List (List ℕ)
onto_first b [] = (b ∷ []) ∷ []
onto_first b (word ∷ words) = (b ∷ word) ∷ words

-- the words of a text: a byte that is no blank belongs to the word that begins behind it, or else is a word's last
abbrev pub words : List ℕ → List (List ℕ)
words [] = []
words (b ∷ bytes) = cond (is_blank b) (words bytes) (cond (begins_word bytes) (onto_first b (words bytes)) ((b ∷ []) ∷ words bytes))

-- a word cut off and the words behind it; or none
abbrev pub words_cut : Option (Bor (List ℕ)) → List (List ℕ) → List (List ℕ)
words_cut None others = []
words_cut (Some word) others = word.now ∷ others

-- the one word of a list that has one
abbrev pub only_word : List (List ℕ) → Option (List ℕ)
only_word [] = None
only_word (word ∷ []) = Some word
only_word (word ∷ other ∷ others) = None
