-- The lines of a script, and what each of them is.
use Rattle.std.specs.Prelude.{◌≡◌, ℕ, Bool, true, false, cond, not, List, [], ◌∷◌, ◌++◌, Some, None, codes, Option, ◌==◌}
use Rattle.std.specs.Borrow.{Bor}
use Rattle.std.specs.List.{flat_map, AllByRecursion}
use Rattle.std.specs.Str.{bytes_eq}
use Rattle.script.specs.declared.Line.{Line}
use Rattle.script.specs.declared.Line.TheVariants as line
use Rattle.script.specs.Words.{words, onto_first}
use Rattle.script.specs.Forms.{Form, form_of, form_in}

-- the end of a line
abbrev pub ends_line : ℕ → Bool
ends_line b = b == 10

-- any other byte stands in a line
abbrev pub in_line : ℕ → Bool
in_line b = not (ends_line b)

-- the lines of a script: each reaches to its end, or to that of the script
abbrev pub lines : List ℕ → List (List ℕ)
lines [] = []
lines (b ∷ bytes) = cond (ends_line b) ([] ∷ lines bytes) (onto_first b (lines bytes))

-- a script whose last line has its end
abbrev pub with_end : List ℕ → List ℕ
with_end [] = []
with_end (b ∷ []) = cond (ends_line b) (b ∷ []) (b ∷ 10 ∷ [])
with_end (b ∷ d ∷ bytes) = b ∷ with_end (d ∷ bytes)

-- what the lines of a script are: each with its end, one behind the other, they are the script; and no line has an end in it
pub record LinesLaw (script : List ℕ) : Type 0 where
  pub whole : flat_map (λ line. line ++ (10 ∷ [])) (lines script) ≡ with_end script
  pub plain : AllByRecursion (λ line. AllByRecursion (λ b. in_line b ≡ true) line) (lines script)

-- a line cut off and the script behind it, as lines; or none
abbrev pub lines_cut : Option (Bor (List ℕ) × Bor (List ℕ)) → List (List ℕ)
lines_cut None = []
lines_cut (Some cut) = cut.0.now ∷ lines cut.1.now

-- what a line is: a call, a takeover, nothing to reply to, or unknown
pub data Reading : Type 0 where
  calls : Form → Reading
  takes_over : Reading
  is_silent : Reading
  is_unknown : Reading

-- a call, or unknown where there is no form
abbrev pub reading_as : Option Form → Reading
reading_as None = is_unknown
reading_as (Some form) = calls form

-- a takeover has no fields
abbrev pub takeover_in : List (List ℕ) → Reading
takeover_in [] = takes_over
takeover_in (word ∷ others) = is_unknown

-- what the words of a line say: nothing without a word, else what the keyword and its fields say
abbrev pub reading_in : List (List ℕ) → Reading
reading_in [] = is_silent
reading_in (keyword ∷ fields) = cond (bytes_eq keyword (codes "takeover")) (takeover_in fields) (reading_as (form_in keyword fields))

-- a comment begins with a number sign
abbrev pub is_comment : List ℕ → Bool
is_comment [] = false
is_comment (b ∷ bytes) = b == 35

-- what a line is: silent as a comment, else what its words say
abbrev pub line_of : List ℕ → Reading
line_of bytes = cond (is_comment bytes) is_silent (reading_in (words bytes))

-- what is read of a line, as plain values
abbrev pub reading_of : Line → Reading
reading_of (line.Call c) = calls (form_of c)
reading_of line.Takeover = takes_over
reading_of line.Silent = is_silent
reading_of line.Unknown = is_unknown
