-- The law of a line: which calls it makes, and that each call has a line.
use Rattle.std.proofs.lemmas.Bool.Decides.{nat_tests}
use Rattle.std.proofs.Common.{◌≡◌, ℕ, true, false, ◌⊎◌, List, [], ◌∷◌, Some, None, codes, Option, sym, refl, ◌∙◌, inl, inr, ⊎_elim, arith}
use Rattle.std.specs.Str.{bytes_eq}
use Rattle.std.proofs.lemmas.Slice.Eq.{bytes_eq-Decides}
use Rattle.std.proofs.lemmas.Bool.{cases_Bool, cond-true, cond-false}
use Rattle.script.specs.Words.{onto_first, words}
use Rattle.script.specs.Forms.{Form, opening, loading, adding, retiming, withdrawing, suspending, restoring, dismissing, form_in}
use Rattle.script.specs.Lines.{calls, takes_over, is_silent, reading_as, takeover_in, reading_in, is_comment, line_of}
use Rattle.script.specs.Spelling.{keyword_of, Spells}
use Rattle.script.proofs.SpeltForms.{Full, form_sound, form_complete}

-- each word of a text has a byte
full_onto : (b : ℕ) (ws : List (List ℕ)) → Full ws → Full (onto_first b ws)
full_onto b [] h = (omega arith, tt)
full_onto b (w ∷ ws) h = (omega arith, h.1)

full_words : (bytes : List ℕ) → Full (words bytes)
full_words [] = tt
full_words (b ∷ bytes) = let behind = full_words bytes in let onto = full_onto b (words bytes) in grind (arith, nat_tests)

-- no takeover is a call
no_takeover : (ws : List (List ℕ)) (form : Form) → takeover_in ws ≡ calls form → ⊥
no_takeover [] form e = cc
no_takeover (w ∷ ws) form e = cc

some_form : (o : Option Form) (form : Form) → reading_as o ≡ calls form → o ≡ Some form
some_form None form e = absurd cc
some_form (Some f) form e = grind (arith, nat_tests)

-- words that are read as a call spell it
words_sound : (ws : List (List ℕ)) (form : Form) → Full ws → reading_in ws ≡ calls form → Spells form ws
words_sound [] form full e = cc
words_sound (keyword ∷ ws) form full e =
    ⊎_elim
    (λ t. absurd (no_takeover ws form (sym (cond-true _ _ _ t) ∙ e)))
    (λ t. form_sound keyword ws form full.1 (some_form (form_in keyword ws) form (sym (cond-false _ _ _ t) ∙ e)))
    (cases_Bool (bytes_eq keyword (codes "takeover")))

-- no call's keyword is that of the takeover
not_takeover : (form : Form) → bytes_eq (keyword_of form) (codes "takeover") ≡ false
not_takeover (opening mark events period departures) = refl
not_takeover (loading bytes) = refl
not_takeover (adding a) = refl
not_takeover (retiming n time) = refl
not_takeover (withdrawing n) = refl
not_takeover (suspending n) = refl
not_takeover (restoring mark n) = refl
not_takeover (dismissing mark n) = refl

-- words that spell a call are read as it
words_complete : (ws : List (List ℕ)) (form : Form) → Spells form ws → reading_in ws ≡ calls form
words_complete [] form h = absurd h
words_complete (keyword ∷ ws) form h = let other = not_takeover form in let reads = form_complete form ws h.1 in grind (arith, nat_tests)

-- a line that makes a call is no comment, and its words spell the call
pub line_sound : (line : List ℕ) (form : Form) → line_of line ≡ calls form → (is_comment line ≡ false) × Spells form (words line)
line_sound line form e = let sound = words_sound (words line) form (full_words line) in grind (arith, nat_tests)

-- a line that is no comment and whose words spell a call makes the call
pub line_complete : (line : List ℕ) (form : Form) → is_comment line ≡ false → Spells form (words line) → line_of line ≡ calls form
line_complete line form plain h = cond-false (is_comment line) _ _ plain ∙ words_complete (words line) form h

-- lines of the same words are alike
pub line_alike : (line other : List ℕ) → is_comment line ≡ false → is_comment other ≡ false → words other ≡ words line → line_of other ≡ line_of line
line_alike line other plain also same = grind (arith, nat_tests)

-- Takeovers.

no_form_takes_over : (o : Option Form) → reading_as o ≡ takes_over → ⊥
no_form_takes_over None e = cc
no_form_takes_over (Some form) e = cc

alone : (ws : List (List ℕ)) → takeover_in ws ≡ takes_over → ws ≡ []
alone [] e = refl
alone (w ∷ ws) e = absurd cc

words_take_over : (ws : List (List ℕ)) → reading_in ws ≡ takes_over → ws ≡ codes "takeover" ∷ []
words_take_over [] e = absurd cc
words_take_over (keyword ∷ ws) e = let decides = bytes_eq-Decides keyword (codes "takeover") in let none = alone ws in let other = no_form_takes_over (form_in keyword ws) in grind (arith, nat_tests)

pub line_takes_over : (line : List ℕ) → line_of line ≡ takes_over → (is_comment line ≡ false) × (words line ≡ codes "takeover" ∷ [])
line_takes_over line e = let takes = words_take_over (words line) in grind (arith, nat_tests)

pub line_takes_over_by : (line : List ℕ) → is_comment line ≡ false → words line ≡ codes "takeover" ∷ [] → line_of line ≡ takes_over
line_takes_over_by line plain e = grind (arith, nat_tests)

-- Silent lines.

no_silent_form : (o : Option Form) → reading_as o ≡ is_silent → ⊥
no_silent_form None e = cc
no_silent_form (Some form) e = cc

no_silent_takeover : (ws : List (List ℕ)) → takeover_in ws ≡ is_silent → ⊥
no_silent_takeover [] e = cc
no_silent_takeover (w ∷ ws) e = cc

no_words : (ws : List (List ℕ)) → reading_in ws ≡ is_silent → ws ≡ []
no_words [] e = refl
no_words (keyword ∷ ws) e =
    ⊎_elim
    (λ t. absurd (no_silent_takeover ws (sym (cond-true _ _ _ t) ∙ e)))
    (λ t. absurd (no_silent_form (form_in keyword ws) (sym (cond-false _ _ _ t) ∙ e)))
    (cases_Bool (bytes_eq keyword (codes "takeover")))

pub line_silent : (line : List ℕ) → line_of line ≡ is_silent → (is_comment line ≡ true) ⊎ (words line ≡ [])
line_silent line e = ⊎_elim inl (λ t. inr (no_words (words line) (grind (arith, nat_tests)))) (cases_Bool (is_comment line))

pub line_silent_by : (line : List ℕ) → (is_comment line ≡ true) ⊎ (words line ≡ []) → line_of line ≡ is_silent
line_silent_by line (inl t) = cond-true (is_comment line) _ _ t
line_silent_by line (inr none) = grind (arith, nat_tests)
