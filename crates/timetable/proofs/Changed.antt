-- One constraint of a table changed: what is lent and comes back changed, and what is past the end.
use Rattle.std.proofs.Common.{◌≡◌, ℕ, zero, suc, ◌<◌, ◌≤◌, List, [], ◌∷◌, length, get_or, set, refl, ap, ◌∙◌, arith}
use Rattle.std.proofs.lemmas.List.{get_or_past, get_or_default}
use Rattle.timetable.specs.declared.Constraint.{Constraint}
use Rattle.timetable.specs.Words.{no_constraint, row_at}
use Rattle.timetable.specs.Changes.{changed}

-- one constraint that was lent and comes back changed
pub changed_set : (f : Constraint → Constraint) (rows : List Constraint) (k : ℕ) (x y : Constraint) → k < length rows → x ≡ get_or rows k x → y ≡ f x → set rows k y ≡ changed f rows k
changed_set f [] k x y lt e g = absurd (omega arith)
changed_set f (c ∷ rows) zero x y lt e g = cc
changed_set f (c ∷ rows) (suc k) x y lt e g = ap (λ (zs : List Constraint). c ∷ zs) (changed_set f rows k x y (omega arith) e g)

-- past the end nothing is changed, and no constraint is found
pub changed_past : (f : Constraint → Constraint) (rows : List Constraint) (k : ℕ) → length rows ≤ k → rows ≡ changed f rows k
changed_past f [] k le = refl
changed_past f (c ∷ rows) zero le = absurd (omega arith)
changed_past f (c ∷ rows) (suc k) le = ap (λ (zs : List Constraint). c ∷ zs) (changed_past f rows k (omega arith))

pub row_past : (rows : List Constraint) (k : ℕ) → length rows ≤ k → row_at rows k ≡ no_constraint
row_past rows k le = get_or_past rows k no_constraint le

-- what is lent is the constraint of the number
pub row_lent : (rows : List Constraint) (k : ℕ) (x : Constraint) → k < length rows → x ≡ get_or rows k x → x ≡ row_at rows k
row_lent rows k x lt e = e ∙ get_or_default rows k x no_constraint lt
