-- The lines of a script, put together again.
use Rattle.std.proofs.lemmas.Bool.Decides.{nat_tests}
use Rattle.std.proofs.Common.{arith, ◌≡◌, ℕ, true, List, [], ◌∷◌, ◌++◌, sym, refl, subst, ⊎_elim}
use Rattle.std.proofs.lemmas.Bool.{cases_Bool, cond-true, cond-false, not_from_false}
use Rattle.std.specs.List.{flat_map, AllByRecursion}
use Rattle.script.specs.Words.{onto_first}
use Rattle.script.specs.Lines.{ends_line, in_line, lines, with_end, LinesLaw}

-- lines with their ends, one behind the other
abbrev together : List (List ℕ) → List ℕ
together ls = flat_map (λ line. line ++ (10 ∷ [])) ls

-- a byte in front of the first line is a byte in front of the script; a script that is not empty has a first line
onto_together : (b d : ℕ) (bytes : List ℕ) → together (onto_first b (lines (d ∷ bytes))) ≡ b ∷ together (lines (d ∷ bytes))
onto_together b d bytes = grind (arith, nat_tests)

pub script_whole : (script : List ℕ) → together (lines script) ≡ with_end script
script_whole [] = refl
script_whole (b ∷ []) = grind (arith, nat_tests)
script_whole (b ∷ d ∷ bytes) = let behind = script_whole (d ∷ bytes) in let onto = onto_together b d bytes in grind (arith, nat_tests)

-- each byte of a line is no end
abbrev Plain : List (List ℕ) → Type 0
Plain ls = AllByRecursion (λ line. AllByRecursion (λ b. in_line b ≡ true) line) ls

onto_plain : (b : ℕ) (ls : List (List ℕ)) → in_line b ≡ true → Plain ls → Plain (onto_first b ls)
onto_plain b [] e h = ((e, tt), tt)
onto_plain b (line ∷ ls) e h = ((e, h.0), h.1)

pub script_plain : (script : List ℕ) → Plain (lines script)
script_plain [] = tt
script_plain (b ∷ bytes) =
    ⊎_elim
    (λ e. subst Plain (sym (cond-true (ends_line b) ([] ∷ lines bytes) (onto_first b (lines bytes)) e)) (tt, script_plain bytes))
    (λ e. subst Plain (sym (cond-false (ends_line b) ([] ∷ lines bytes) (onto_first b (lines bytes)) e)) (onto_plain b (lines bytes) (not_from_false (ends_line b) e) (script_plain bytes)))
    (cases_Bool (ends_line b))

-- what the lines of a script are
pub script_law : (script : List ℕ) → LinesLaw script
script_law script = record { whole = script_whole script; plain = script_plain script }
