-- Each form: its fields are read as the call exactly when they spell it.
use Rattle.std.proofs.lemmas.Bool.Decides.{nat_tests}
use Rattle.std.proofs.Common.{◌≡◌, ℕ, ◌<◌, cond, List, [], ◌∷◌, map, length, Some, None, codes, Option, sym, refl, ◌∙◌, subst, ⊎_elim, arith}
use Rattle.std.specs.Option.{option_map}
use Rattle.std.specs.Str.{bytes_eq}
use Rattle.std.proofs.lemmas.Slice.Eq.{bytes_eq-Decides}
use Rattle.std.proofs.lemmas.Bool.{cases_Bool, cond-true, cond-false}
use Rattle.timetable.specs.declared.Addition.{Addition}
use Rattle.script.specs.Words.{only_word}
use Rattle.script.specs.Numbers.{bind, first_number, numbers_in, hex_byte, hex_bytes}
use Rattle.script.specs.Forms.{Form, opening, loading, adding, retiming, withdrawing, suspending, restoring, dismissing, letter_in, one_number, two_numbers, opening_in, file_in, loading_in, addition_in, adding_in, form_in}
use Rattle.script.specs.Spelling.{bits_8, bits_16, bits_32, largest, Field, number, letter, keyword_of, file_fields, fields_of, SpeltBy, Spelt, Spells}
use Rattle.script.proofs.SpeltWords.{bind_some, mapped_some, first_sound, last_sound, one_sound, two_sound}

-- Openings.

numbers_sound : (words : List (List ℕ)) (ns : List ℕ) → numbers_in (largest bits_32) words ≡ Some ns → Spelt (map (number bits_32) ns) words
numbers_sound [] ns e = grind (arith, nat_tests)
numbers_sound (word ∷ others) ns e = let behind = numbers_sound others in grind (arith, nat_tests)

numbers_complete : (ns : List ℕ) (words : List (List ℕ)) → Spelt (map (number bits_32) ns) words → numbers_in (largest bits_32) words ≡ Some ns
numbers_complete [] [] h = refl
numbers_complete [] (word ∷ others) h = absurd h
numbers_complete (n ∷ ns) [] h = absurd h
numbers_complete (n ∷ ns) (word ∷ others) h = let behind = numbers_complete ns others h.1 in grind (arith, nat_tests)

-- a form that is read under a keyword, spelt by that keyword and the words read
abbrev Read : List ℕ → List (List ℕ) → Form → Type 0
Read keyword words form = (keyword ≡ keyword_of form) × Spelt (fields_of form) words

opening_sound : (words : List (List ℕ)) (form : Form) → opening_in words ≡ Some form → Read (codes "open") words form
opening_sound words form e =
    let m = bind_some (first_number (largest bits_16) words) _ form e in
    let n = bind_some (first_number (largest bits_8) m.0.1) _ form m.2 in
    let p = bind_some (first_number (largest bits_32) n.0.1) _ form n.2 in
    let d = mapped_some (numbers_in (largest bits_32) p.0.1) (λ l. opening m.0.0 n.0.0 p.0.0 l) form p.2 in
    let departures : List Field = map (number bits_32) d.0 in
    let periods : List Field = number bits_32 p.0.0 ∷ departures in
    let events : List Field = number bits_8 n.0.0 ∷ periods in
    subst (Read (codes "open") words) d.2
    (refl, first_sound bits_16 words m.0 events m.1 (first_sound bits_8 m.0.1 n.0 periods n.1 (first_sound bits_32 n.0.1 p.0 departures p.1 (numbers_sound p.0.1 d.0 d.1))))

opening_complete : (mark events period : ℕ) (departures : List ℕ) (words : List (List ℕ)) → Spelt (fields_of (opening mark events period departures)) words → opening_in words ≡ Some (opening mark events period departures)
opening_complete mark events period departures words h = let all = numbers_complete departures in grind (arith, nat_tests)

-- Loadings. A word is never empty, so a file that a word spells is not.

-- each word has a byte
abbrev pub Full : List (List ℕ) → Type 0
Full [] = Unit {0}
Full (word ∷ others) = (0 < length word) × Full others

file_of_word : (word bytes : List ℕ) → 0 < length word → hex_bytes word ≡ Some bytes → Spelt (file_fields bytes) (word ∷ [])
file_of_word [] bytes some e = absurd (omega arith)
file_of_word (high ∷ []) bytes some e = absurd cc
file_of_word (high ∷ low ∷ digits) bytes some e = let b = bind_some (hex_byte high low) _ bytes e in let m = mapped_some (hex_bytes digits) _ bytes b.2 in grind (arith, nat_tests)

file_sound : (words : List (List ℕ)) (bytes : List ℕ) → Full words → file_in words ≡ Some bytes → Spelt (file_fields bytes) words
file_sound [] bytes full e = grind (arith, nat_tests)
file_sound (word ∷ []) bytes full e = file_of_word word bytes full.0 e
file_sound (word ∷ other ∷ others) bytes full e = absurd cc

loading_sound : (words : List (List ℕ)) (form : Form) → Full words → loading_in words ≡ Some form → Read (codes "load") words form
loading_sound words form full e =
    let m = mapped_some (file_in words) loading form e in
    subst (Read (codes "load") words) m.2 (refl, file_sound words m.0 full m.1)

-- Additions.

letter_sound : (word : List ℕ) (b : ℕ) → letter_in word ≡ Some b → SpeltBy (letter b) word
letter_sound [] b e = absurd cc
letter_sound (a ∷ []) b e = grind (arith, nat_tests)
letter_sound (a ∷ d ∷ word) b e = absurd cc

addition_sound : (words : List (List ℕ)) (a : Addition) → addition_in words ≡ Some a → Spelt (fields_of (adding a)) words
addition_sound words a e =
    let f = bind_some (first_number (largest bits_8) words) _ a e in
    let t = bind_some (first_number (largest bits_8) f.0.1) _ a f.2 in
    let s = bind_some (first_number (largest bits_16) t.0.1) _ a t.2 in
    let k = bind_some (first_number (largest bits_8) s.0.1) _ a s.2 in
    let d = bind_some (first_number (largest bits_8) k.0.1) _ a k.2 in
    let l = mapped_some (bind (only_word d.0.1) letter_in) _ a d.2 in
    let w = bind_some (only_word d.0.1) letter_in l.0 l.1 in
    let fifth : List Field = letter l.0 ∷ [] in
    let fourth : List Field = number bits_8 d.0.0 ∷ fifth in
    let third : List Field = number bits_8 k.0.0 ∷ fourth in
    let second : List Field = number bits_16 s.0.0 ∷ third in
    let first : List Field = number bits_8 t.0.0 ∷ second in
    subst (λ (x : Addition). Spelt (fields_of (adding x)) words) l.2
    (first_sound bits_8 words f.0 first f.1
    (first_sound bits_8 f.0.1 t.0 second t.1
    (first_sound bits_16 t.0.1 s.0 third s.1
    (first_sound bits_8 s.0.1 k.0 fourth k.1
    (first_sound bits_8 k.0.1 d.0 fifth d.1
    (last_sound (letter l.0) d.0.1 w.0 w.1 (letter_sound w.0 l.0 w.2)))))))

-- All forms.

-- a case of a keyword, and what follows where the word is another
case_sound : (keyword text : List ℕ) (words : List (List ℕ)) (here next : Option Form) (form : Form)
    → (here ≡ Some form → Read text words form) → (next ≡ Some form → Spells form (keyword ∷ words))
    → cond (bytes_eq keyword text) here next ≡ Some form → Spells form (keyword ∷ words)
case_sound keyword text words here next form now later e =
    ⊎_elim
    (λ t. let r = now (sym (cond-true _ _ _ t) ∙ e) in ((bytes_eq-Decides keyword text).0 t ∙ r.0, r.1))
    (λ t. later (sym (cond-false _ _ _ t) ∙ e))
    (cases_Bool (bytes_eq keyword text))

one_form : (text : List ℕ) (make : ℕ → Form) (words : List (List ℕ)) (form : Form) → ((n : ℕ) → text ≡ keyword_of (make n)) → ((n : ℕ) → fields_of (make n) ≡ number bits_16 n ∷ []) → option_map make (one_number words) ≡ Some form → Read text words form
one_form text make words form key fields e =
    let m = mapped_some (one_number words) make form e in
    subst (Read text words) m.2 (key m.0, subst (λ (fs : List Field). Spelt fs words) (sym (fields m.0)) (one_sound words m.0 m.1))

two_form : (text : List ℕ) (make : ℕ → ℕ → Form) (words : List (List ℕ)) (form : Form) → ((k n : ℕ) → text ≡ keyword_of (make k n)) → ((k n : ℕ) → fields_of (make k n) ≡ number bits_16 k ∷ number bits_16 n ∷ [])
    → option_map (λ x. make x.0 x.1) (two_numbers words) ≡ Some form → Read text words form
two_form text make words form key fields e =
    let m = mapped_some (two_numbers words) (λ x. make x.0 x.1) form e in
    subst (Read text words) m.2 (key m.0.0 m.0.1, subst (λ (fs : List Field). Spelt fs words) (sym (fields m.0.0 m.0.1)) (two_sound words m.0 m.1))

adding_sound : (words : List (List ℕ)) (form : Form) → adding_in words ≡ Some form → Read (codes "add") words form
adding_sound words form e = let m = mapped_some (addition_in words) adding form e in subst (Read (codes "add") words) m.2 (refl, addition_sound words m.0 m.1)

-- what is read under a keyword is spelt by it and its fields
pub form_sound : (keyword : List ℕ) (words : List (List ℕ)) (form : Form) → Full words → form_in keyword words ≡ Some form → Spells form (keyword ∷ words)
form_sound keyword words form full =
    case_sound keyword (codes "open") words _ _ form (opening_sound words form)
    (case_sound keyword (codes "load") words _ _ form (loading_sound words form full)
    (case_sound keyword (codes "add") words _ _ form (adding_sound words form)
    (case_sound keyword (codes "retime") words _ _ form (two_form (codes "retime") retiming words form (λ k n. refl) (λ k n. refl))
    (case_sound keyword (codes "withdraw") words _ _ form (one_form (codes "withdraw") withdrawing words form (λ n. refl) (λ n. refl))
    (case_sound keyword (codes "suspend") words _ _ form (one_form (codes "suspend") suspending words form (λ n. refl) (λ n. refl))
    (case_sound keyword (codes "restore") words _ _ form (two_form (codes "restore") restoring words form (λ k n. refl) (λ k n. refl))
    (case_sound keyword (codes "dismiss") words _ None form (two_form (codes "dismiss") dismissing words form (λ k n. refl) (λ k n. refl))
    (λ e. absurd cc))))))))

-- the fields of a form are read under its keyword
pub form_complete : (form : Form) (words : List (List ℕ)) → Spelt (fields_of form) words → form_in (keyword_of form) words ≡ Some form
form_complete (opening mark events period departures) words h = opening_complete mark events period departures words h
form_complete (loading bytes) words h = grind (arith, nat_tests)
form_complete (adding a) words h = grind (arith, nat_tests)
form_complete (retiming n time) words h = grind (arith, nat_tests)
form_complete (withdrawing n) words h = grind (arith, nat_tests)
form_complete (suspending n) words h = grind (arith, nat_tests)
form_complete (restoring mark n) words h = grind (arith, nat_tests)
form_complete (dismissing mark n) words h = grind (arith, nat_tests)
