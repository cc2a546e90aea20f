-- A script cut behind its first line.
use Rattle.std.proofs.lemmas.Bool.Decides.{nat_tests}
use Rattle.std.proofs.Common.{◌≡◌, ℕ, suc, ◌+◌, ◌<◌, ◌≤◌, Bool, true, false, get_or, List, [], ◌∷◌, length, take, drop, Some, None, sym, ap, ◌∙◌, ⊎_elim, one-add, arith}
use Rattle.std.proofs.lemmas.List.{drop_all, take_all, drop-drop}
use Rattle.std.proofs.lemmas.List.Sums.{position_or_len_is}
use Rattle.std.proofs.lemmas.Bool.{cases_Bool, cond-true, cond-false, not_from_true, not_from_false}
use Rattle.std.specs.List.{position, position_or_len}
use Rattle.script.specs.Words.{onto_first}
use Rattle.script.specs.Lines.{ends_line, in_line, lines}

-- the first line and the lines behind its end
abbrev pub first_and_rest : List ℕ → ℕ → List (List ℕ)
first_and_rest script n = take n script ∷ lines (drop 1 (drop n script))

-- a byte in front of the first line of what follows
longer : (b : ℕ) (bytes : List ℕ) → lines bytes ≡ first_and_rest bytes (position_or_len ends_line bytes) → onto_first b (lines bytes) ≡ first_and_rest (b ∷ bytes) (suc (position_or_len ends_line bytes))
longer b bytes e = ap (onto_first b) e

-- The first line of a script that is not empty reaches to its first end of a line.
pub lines_first : (b : ℕ) (bytes : List ℕ) → lines (b ∷ bytes) ≡ first_and_rest (b ∷ bytes) (position_or_len ends_line (b ∷ bytes))
lines_first b [] = grind (arith, nat_tests)
lines_first b (d ∷ bytes) =
    ⊎_elim
    (λ e. cond-true (ends_line b) _ _ e ∙ ap (first_and_rest (b ∷ d ∷ bytes)) (sym (cond-false (in_line b) (1 + position_or_len ends_line (d ∷ bytes)) 0 (not_from_true (ends_line b) e))))
    (λ e. cond-false (ends_line b) _ _ e ∙ longer b (d ∷ bytes) (lines_first d bytes) ∙ ap (first_and_rest (b ∷ d ∷ bytes)) (sym (cond-true (in_line b) (1 + position_or_len ends_line (d ∷ bytes)) 0 (not_from_false (ends_line b) e) ∙ one-add (position_or_len ends_line (d ∷ bytes)))))
    (cases_Bool (ends_line b))

first : (script : List ℕ) → 0 < length script → lines script ≡ first_and_rest script (position_or_len ends_line script)
first [] some = absurd (omega arith)
first (b ∷ bytes) some = lines_first b bytes

-- What `next_line` does: it cuts at the first end of a line, and leaves that out.
pub cut_line : (script : List ℕ) (n : ℕ) → 0 < length script → position ends_line script ≡ Some n → take n script ∷ lines (drop (n + 1) script) ≡ lines script
cut_line script n some found = let whole = first script some in let behind = drop-drop 1 n script in grind (arith, nat_tests)

pub cut_last_line : (script : List ℕ) → 0 < length script → position ends_line script ≡ None → script ∷ [] ≡ lines script
cut_last_line script some none = let whole = first script some in let front = take_all (position_or_len ends_line script) script in let back = drop_all (position_or_len ends_line script) script in grind (arith, nat_tests)

-- the first that passes stands where all before it fail and it passes
pub first_passing : (passes : ℕ → Bool) (bytes : List ℕ) (i : ℕ) → i < length bytes → ((k : ℕ) → k < i → passes (get_or bytes k 0) ≡ false) → passes (get_or bytes i 0) ≡ true → Some i ≡ position passes bytes
first_passing passes bytes i h before here = let at = position_or_len_is passes bytes i 0 (omega arith) before (λ l. here) in grind (arith, nat_tests)

-- where all fail, none does
pub none_passing : (passes : ℕ → Bool) (bytes : List ℕ) (i : ℕ) → length bytes ≤ i → ((k : ℕ) → k < i → passes (get_or bytes k 0) ≡ false) → None ≡ position passes bytes
none_passing passes bytes i h before = let at = position_or_len_is passes bytes (length bytes) 0 (omega arith) (λ k l. before k (omega arith)) (λ l. absurd (omega arith)) in grind (arith, nat_tests)
