-- Which elements a list has, and what holds of each.
use Rattle.std.proofs.Common.{◌≡◌, ℕ, zero, suc, ◌+◌, ◌<◌, ◌≤◌, Bool, true, false, cond, List, [], ◌∷◌, ◌++◌, map, filter, sym, refl, ap, ◌∙◌, subst, inl, inr, ⊎_elim, arith}
use native.Mathlib.Decide.{ℕ_discrete}
use Rattle.std.specs.List.{range_with_len, AllByRecursion}
use Rattle.runs.specs.Nets.{In}

pub in_left : {X : Type 0} (x : X) (xs ys : List X) → In x xs → In x (xs ++ ys)
in_left x [] ys h = absurd h
in_left x (y ∷ xs) ys (inl e) = inl e
in_left x (y ∷ xs) ys (inr h) = inr (in_left x xs ys h)

pub in_right : {X : Type 0} (x : X) (xs ys : List X) → In x ys → In x (xs ++ ys)
in_right x [] ys h = h
in_right x (y ∷ xs) ys h = inr (in_right x xs ys h)

pub in_map : {X Y : Type 0} (f : X → Y) (x : X) (xs : List X) → In x xs → In (f x) (map f xs)
in_map f x [] h = absurd h
in_map f x (y ∷ xs) (inl e) = inl (ap f e)
in_map f x (y ∷ xs) (inr h) = inr (in_map f x xs h)

pub in? : (x : ℕ) (xs : List ℕ) → Dec (In x xs)
in? x [] = no (λ h. h)
in? x (y ∷ xs) = go (ℕ_discrete x y) (in? x xs)
  where
    go : Dec (x ≡ y) → Dec (In x xs) → Dec (In x (y ∷ xs))
    go (yes e) d = yes (inl e)
    go (no ne) (yes h) = yes (inr h)
    go (no ne) (no nh) = no (⊎_elim ne nh)

pub all_in : {X : Type 0} (P : X → Type 0) (x : X) (xs : List X) → AllByRecursion P xs → In x xs → P x
all_in P x [] a h = absurd h
all_in P x (y ∷ xs) a (inl e) = subst P (sym e) a.0
all_in P x (y ∷ xs) a (inr h) = all_in P x xs a.1 h

pub all_from_in : {X : Type 0} (P : X → Type 0) (xs : List X) → ((x : X) → In x xs → P x) → AllByRecursion P xs
all_from_in P [] f = tt
all_from_in P (x ∷ xs) f = (f x (inl refl), all_from_in P xs (λ y h. f y (inr h)))

pub all_if : {X : Type 0} (P : X → Type 0) (xs : List X) (t : Bool) → (t ≡ true → AllByRecursion P xs) → AllByRecursion P (cond t xs [])
all_if P xs true f = f refl
all_if P xs false f = tt

-- what is counted lies below the end
pub in_counting : (x a n : ℕ) → In x (range_with_len a n) → x < a + n
in_counting x a zero h = absurd h
in_counting x a (suc n) (inl e) = omega arith
in_counting x a (suc n) (inr h) = let lt : x < a + 1 + n = in_counting x (a + 1) n h in omega arith

pub counting_in : (x a n : ℕ) → a ≤ x → x < a + n → In x (range_with_len a n)
counting_in x a zero low high = absurd (omega arith)
counting_in x a (suc n) low high = go (ℕ_discrete x a) (counting_in x (a + 1) n)
  where
    go : Dec (x ≡ a) → (a + 1 ≤ x → x < a + 1 + n → In x (range_with_len (a + 1) n)) → In x (range_with_len a (suc n))
    go (yes e) ih = inl e
    go (no ne) ih = inr (ih (omega arith) (omega arith))

-- what a filter keeps
pub kept_in : {X : Type 0} (passes : X → Bool) (x : X) (xs : List X) → In x (filter passes xs) → In x xs × (passes x ≡ true)
kept_in passes x [] h = absurd h
kept_in passes x (y ∷ xs) h = go (kept_in passes x xs) (passes y) refl h
  where
    go : (In x (filter passes xs) → In x xs × (passes x ≡ true)) → (t : Bool) → passes y ≡ t → In x (cond t (y ∷ filter passes xs) (filter passes xs)) → In x (y ∷ xs) × (passes x ≡ true)
    go ih true is (inl e) = (inl e, ap passes e ∙ is)
    go ih true is (inr m) = let t = ih m in (inr t.0, t.1)
    go ih false is m = let t = ih m in (inr t.0, t.1)

pub in_kept : {X : Type 0} (passes : X → Bool) (x : X) (xs : List X) → In x xs → passes x ≡ true → In x (filter passes xs)
in_kept passes x [] h p = absurd h
in_kept passes x (y ∷ xs) (inl e) p = subst (λ t. In x (cond t (y ∷ filter passes xs) (filter passes xs))) (sym (ap passes (sym e) ∙ p)) (inl e)
in_kept passes x (y ∷ xs) (inr h) p = go (in_kept passes x xs h p) (passes y)
  where
    go : In x (filter passes xs) → (t : Bool) → In x (cond t (y ∷ filter passes xs) (filter passes xs))
    go rest true = inr rest
    go rest false = rest
