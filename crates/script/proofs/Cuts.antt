-- A text cut behind its first word: behind the blanks at its front its words are the same, and there a word begins, if any is left.
use Rattle.std.proofs.lemmas.Bool.Decides.{nat_tests}
use Rattle.std.proofs.Common.{◌≡◌, ℕ, suc, ◌+◌, ◌-◌, ◌<◌, Bool, true, false, cond, not, List, [], ◌∷◌, length, Some, None, take, drop, sym, refl, ap, ◌∙◌, subst, ⊎_elim, one-add, arith, length-drop}
use Rattle.std.proofs.lemmas.List.{drop_all, take_all}
use Rattle.std.proofs.lemmas.Bool.{cases_Bool, cond-true, cond-false, not-true, not_from_false, false≢true}
use Rattle.std.specs.List.{position, position_or_len}
use Rattle.std.specs.Option.{unwrap_or}
use Rattle.std.proofs.lemmas.List.Sums.{prefix_len-le-length}
use Rattle.script.specs.Words.{is_blank, in_word, begins_word, onto_first, words}

-- behind the blanks at the front the words are the same
pub words_behind_blanks : (bytes : List ℕ) → words (drop (position_or_len in_word bytes) bytes) ≡ words bytes
words_behind_blanks [] = refl
words_behind_blanks (b ∷ bytes) =
    ⊎_elim
    (λ e. ap (λ v. words (drop (cond (not (not v)) (1 + position_or_len in_word bytes) 0) (b ∷ bytes))) e ∙ ap (λ n. words (drop n (b ∷ bytes))) (one-add (position_or_len in_word bytes)) ∙ words_behind_blanks bytes ∙ sym (cond-true (is_blank b) (words bytes) _ e))
    (λ e. ap (λ v. words (drop (cond (not (not v)) (1 + position_or_len in_word bytes) 0) (b ∷ bytes))) e)
    (cases_Bool (is_blank b))

-- behind the blanks at the front a word begins, unless nothing is left
pub word_behind_blanks : (bytes : List ℕ) → 0 < length (drop (position_or_len in_word bytes) bytes) → begins_word (drop (position_or_len in_word bytes) bytes) ≡ true
word_behind_blanks [] h = absurd (omega arith)
word_behind_blanks (b ∷ bytes) h =
    let Begins : ℕ → Type 0 = λ n. 0 < length (drop n (b ∷ bytes)) → begins_word (drop n (b ∷ bytes)) ≡ true in
    let both : Begins (position_or_len in_word (b ∷ bytes)) =
    ⊎_elim
    (λ e. subst Begins (sym (cond-true (not (in_word b)) _ _ (ap (λ v. not (not v)) e) ∙ one-add (position_or_len in_word bytes))) (word_behind_blanks bytes))
    (λ e. subst Begins (sym (cond-false (not (in_word b)) _ _ (ap (λ v. not (not v)) e))) (λ g. not_from_false (is_blank b) e))
    (cases_Bool (is_blank b)) in
    both h

-- no byte of a word at the front where no word begins
none_at_front : (bytes : List ℕ) → begins_word bytes ≡ false → position_or_len is_blank bytes ≡ 0
none_at_front [] h = refl
none_at_front (b ∷ bytes) h = cond-false (in_word b) _ _ h

-- where a word begins, it reaches to the next blank
pub words_at_word : (bytes : List ℕ) → begins_word bytes ≡ true → words bytes ≡ take (position_or_len is_blank bytes) bytes ∷ words (drop (position_or_len is_blank bytes) bytes)
words_at_word [] h = absurd (false≢true h)
words_at_word (b ∷ bytes) h =
    let cut : List ℕ → ℕ → List (List ℕ) = λ l n. take n l ∷ words (drop n l) in
    let whole : position_or_len is_blank (b ∷ bytes) ≡ suc (position_or_len is_blank bytes) = cond-true (in_word b) _ _ h ∙ one-add (position_or_len is_blank bytes) in
    cond-false (is_blank b) _ _ (not-true (is_blank b) h)
    ∙ ⊎_elim
    (λ e. cond-true (begins_word bytes) _ _ e ∙ ap (onto_first b) (words_at_word bytes e))
    (λ e. cond-false (begins_word bytes) _ _ e ∙ ap (λ n. (b ∷ take n bytes) ∷ words (drop n bytes)) (sym (none_at_front bytes e)))
    (cases_Bool (begins_word bytes))
    ∙ ap (cut (b ∷ bytes)) (sym whole)

-- What `next` does: it cuts off the blanks at the front, and then the first word of what is left, if anything is.
pub no_word : (text : List ℕ) → position in_word text ≡ None → [] ≡ words text
no_word text none = let behind = words_behind_blanks text in let all = drop_all (position_or_len in_word text) text in grind (arith, nat_tests)

pub cut_word : (text rest word after : List ℕ) (n m : ℕ) → position in_word text ≡ Some n → rest ≡ drop n text → m ≡ position_or_len is_blank rest → word ≡ take m rest → after ≡ drop m rest → word ∷ words after ≡ words text
cut_word text rest word after n m found behind long front back = let begins = word_behind_blanks text in let at = words_at_word rest in let same = words_behind_blanks text in let left = length-drop (position_or_len in_word text) text in grind (arith, nat_tests)

-- a range to the end
pub to_end : (n : ℕ) (bytes : List ℕ) → take (length bytes - n) (drop n bytes) ≡ drop n bytes
to_end n bytes = take_all (length bytes - n) (drop n bytes) (omega (arith, length-drop n bytes))

-- where the first that passes a test stands, or else the length
pub first_or_length : (passes : ℕ → Bool) (bytes : List ℕ) → unwrap_or (position passes bytes) (length bytes) ≡ position_or_len passes bytes
first_or_length passes bytes = let bound = prefix_len-le-length (λ b. not (passes b)) bytes in grind (arith, nat_tests)
