-- Distinct numbers below n are at most n. By induction on n: take n - 1 out of the list, if it stands there; it stands
-- there once, and the others lie below n - 1.
use Rattle.std.proofs.Common.{◌≡◌, ℕ, zero, suc, ◌<◌, ◌≤◌, List, [], ◌∷◌, length, sym, refl, ap, ◌∙◌, subst, inl, inr, ⊎_elim, arith}
use Rattle.runs.specs.Nets.{In, Distinct}
use Rattle.runs.proofs.Members.{in?}

-- a list without the element e that it has
pub record Without (e : ℕ) (xs : List ℕ) : Type 0 where
  pub rest : List ℕ
  pub shorter : length xs ≡ suc (length rest)
  pub distinct : Distinct rest
  pub others : (x : ℕ) → In x rest → In x xs × (x ≡ e → ⊥)

without : (e : ℕ) (xs : List ℕ) → In e xs → Distinct xs → Without e xs
without e [] h d = absurd h
without e (x ∷ xs) (inl same) d = record { rest = xs; shorter = refl; distinct = d.1; others = λ y h. (inr h, λ ye. d.0 (subst (λ z. In z xs) (ye ∙ same) h)) }
without e (x ∷ xs) (inr h) d =
    let t : Without e xs = without e xs h d.1 in
    record {
      rest = x ∷ t.rest;
      shorter = ap suc t.shorter;
      distinct = ((λ m. d.0 (t.others x m).0), t.distinct);
      others = λ y. ⊎_elim (λ yx. (inl yx, λ ye. d.0 (subst (λ z. In z xs) (sym ye ∙ yx) h))) (λ m. (inr (t.others y m).0, (t.others y m).1));
    }

pub at_most : (n : ℕ) (xs : List ℕ) → Distinct xs → ((x : ℕ) → In x xs → x < n) → length xs ≤ n
at_most zero [] d below = omega arith
at_most zero (x ∷ xs) d below = absurd (let h : x < 0 = below x (inl refl) in omega arith)
at_most (suc n) xs d below = go (at_most n) (in? n xs)
  where
    go : ((ys : List ℕ) → Distinct ys → ((x : ℕ) → In x ys → x < n) → length ys ≤ n) → Dec (In n xs) → length xs ≤ suc n
    go ih (yes h) =
        let t : Without n xs = without n xs h d in
        let l : length t.rest ≤ n = ih t.rest t.distinct (λ x m. let lt : x < suc n = below x (t.others x m).0 in let ne : x ≡ n → ⊥ = (t.others x m).1 in omega arith) in
        omega (arith, t.shorter)
    go ih (no nh) =
        let l : length xs ≤ n = ih xs d (λ x m. let lt : x < suc n = below x m in let ne : x ≡ n → ⊥ = λ e. nh (subst (λ z. In z xs) e m) in omega arith) in
        omega arith
