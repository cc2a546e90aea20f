-- A word that is no keyword.
use Rattle.std.proofs.lemmas.Bool.Decides.{nat_tests}
use Rattle.std.proofs.Common.{arith, ◌≡◌, ℕ, List, None, codes, sym, ◌∙◌, false}
use Rattle.std.specs.Str.{bytes_eq}
use Rattle.std.proofs.lemmas.Slice.Eq.{bytes_eq-Decides}
use Rattle.std.proofs.lemmas.Bool.{cond-false}
use Rattle.script.specs.Forms.{form_in}

other : (word text : List ℕ) → (word ≡ text → ⊥) → bytes_eq word text ≡ false
other word text not = let decides = bytes_eq-Decides word text in grind (arith, nat_tests)

-- a word that is none of the keywords makes no form
pub no_keyword : (word : List ℕ) (fields : List (List ℕ)) → (word ≡ codes "open" → ⊥) → (word ≡ codes "load" → ⊥) → (word ≡ codes "add" → ⊥) → (word ≡ codes "retime" → ⊥) → (word ≡ codes "withdraw" → ⊥) → (word ≡ codes "suspend" → ⊥) → (word ≡ codes "restore" → ⊥) → (word ≡ codes "dismiss" → ⊥) → None ≡ form_in word fields
no_keyword word fields a b c d e f g h =
    sym (cond-false _ _ _ (other word _ a) ∙ cond-false _ _ _ (other word _ b) ∙ cond-false _ _ _ (other word _ c) ∙ cond-false _ _ _ (other word _ d)
    ∙ cond-false _ _ _ (other word _ e) ∙ cond-false _ _ _ (other word _ f) ∙ cond-false _ _ _ (other word _ g) ∙ cond-false _ _ _ (other word _ h))
