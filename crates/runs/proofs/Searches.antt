-- Tests over lists and below a number, step by step: for loops that stop at the first element that fails, and for the search
-- for the lowest number that passes.
use Rattle.std.proofs.Common.{◌≡◌, ℕ, zero, suc, ◌+◌, ◌-◌, ◌<◌, ◌≤◌, Bool, true, false, cond, ◌&&◌, ltb, leb, List, [], ◌∷◌, length, get_or, drop, Some, None, Decides, Option, sym, refl, ap, ◌∙◌, ⊎_elim, add-one, arith}
use borrow.Author.Tests.{clash}
use Rattle.std.specs.List.{AllByRecursion, list_all}
use Rattle.std.proofs.lemmas.List.{drop_more, drop_all}
use Rattle.std.proofs.lemmas.Bool.Decides.{leb_tells, Decides-and, Decides-ltb}
use Rattle.std.proofs.ByRecursion.{Decides-by_and}
use Rattle.weights.specs.Kinds.{Kind}
use Rattle.runs.specs.declared.Link.{Link}
use Rattle.runs.specs.Gaining.{found_or, lowest}
use Rattle.runs.specs.Tables.{every, events_below}

pub and_both : (a b : Bool) → a ≡ true → b ≡ true → (a && b) ≡ true
and_both true b p q = q
and_both false b p q = p

pub and_first : (a b : Bool) → (a && b) ≡ true → a ≡ true
and_first true b e = refl
and_first false b e = e

pub and_second : (a b : Bool) → (a && b) ≡ true → b ≡ true
and_second true b e = e
and_second false b e = absurd (clash e)

pub decides_leb : (a b : ℕ) → Decides (leb a b) (a ≤ b)
decides_leb a b = ⊎_elim (λ t. (λ _. t.1, λ _. t.0)) (λ f. (λ e. absurd (clash (sym f.0 ∙ e)), λ h. absurd (let lt = f.1 in omega arith))) (leb_tells a b)

module _ {X : Type 0} (passes : X → Bool) (xs : List X) where
  every_more : (i : ℕ) (d : X) → i < length xs → every passes (drop i xs) ≡ (passes (get_or xs i d) && every passes (drop (i + 1) xs))
  every_more i d h = ap (every passes) (drop_more xs i d h)

  -- the element at i passes, so that the rest decides
  pub every_on : (i : ℕ) (d : X) → i < length xs → passes (get_or xs i d) ≡ true → every passes (drop i xs) ≡ every passes xs → every passes (drop (i + 1) xs) ≡ every passes xs
  every_on i d h e rest = sym (every_more i d h ∙ ap (λ t. t && every passes (drop (i + 1) xs)) e) ∙ rest

  -- the element at i fails
  pub every_off : (i : ℕ) (d : X) → i < length xs → passes (get_or xs i d) ≡ false → every passes (drop i xs) ≡ every passes xs → false ≡ every passes xs
  every_off i d h e rest = sym (every_more i d h ∙ ap (λ t. t && every passes (drop (i + 1) xs)) e) ∙ rest

  pub every_end : (i : ℕ) → length xs ≤ i → every passes (drop i xs) ≡ every passes xs → true ≡ every passes xs
  every_end i h rest = sym (ap (every passes) (drop_all i xs h)) ∙ rest

-- the library's own test of each element
pub every_is : {X : Type 0} (passes : X → Bool) (xs : List X) → list_all passes xs ≡ every passes xs
every_is passes [] = refl
every_is passes (x ∷ xs) = ap (λ t. passes x && t) (every_is passes xs)

pub every_says : {X : Type 0} (passes : X → Bool) (P : X → Type 0) → ((x : X) → Decides (passes x) (P x)) → (xs : List X) → Decides (every passes xs) (AllByRecursion P xs)
every_says passes P says xs = Decides-by_and passes P (every passes) says refl (λ _ _. refl) xs

pub links_are_below : (n : ℕ) (ls : List Link) → events_below n ls ≡ true → AllByRecursion (λ l. (l.from < n) × (l.to < n)) ls
links_are_below n ls = (every_says (λ l. ltb l.from n && ltb l.to n) (λ l. (l.from < n) × (l.to < n)) (λ l. Decides-and (ltb l.from n) (ltb l.to n) (Decides-ltb l.from n) (Decides-ltb l.to n)) ls).0

pub all_span : (K : Kind) {X : Type 0} (m : X → K.carrier) (most : ℕ) (xs : List X) → Decides (every (λ x. leb (K.span (m x)) most) xs) (AllByRecursion (λ x. K.span (m x) ≤ most) xs)
all_span K m most = every_says (λ x. leb (K.span (m x)) most) (λ x. K.span (m x) ≤ most) (λ x. decides_leb (K.span (m x)) most)

module _ (passes : ℕ → Bool) where
  pub lowest_passed : (j : ℕ) → lowest passes j ≡ None → passes j ≡ false → lowest passes (j + 1) ≡ None
  lowest_passed j none fails = ap (lowest passes) (add-one j) ∙ ap (λ o. found_or o (passes j) j) none ∙ ap (λ t. cond t (Some j) None) fails

  lowest_kept : (j d e : ℕ) → lowest passes j ≡ Some e → lowest passes (d + j) ≡ Some e
  lowest_kept j zero e some = let up : 0 + j ≡ j = omega arith in ap (lowest passes) up ∙ some
  lowest_kept j (suc d) e some = let up : suc d + j ≡ suc (d + j) = omega arith in ap (lowest passes) up ∙ ap (λ o. found_or o (passes (d + j)) (d + j)) (lowest_kept j d e some)

  pub lowest_found : (j n : ℕ) → j < n → lowest passes j ≡ None → passes j ≡ true → lowest passes n ≡ Some j
  lowest_found j n h none holds =
      let here : lowest passes (suc j) ≡ Some j = ap (λ o. found_or o (passes j) j) none ∙ ap (λ t. cond t (Some j) None) holds in
      let d : ℕ = n - suc j in
      let up : n ≡ d + suc j = omega arith in
      ap (lowest passes) up ∙ lowest_kept (suc j) d j here

  pub lowest_passes : (n j : ℕ) → lowest passes n ≡ Some j → passes j ≡ true
  lowest_passes zero j e = absurd (let z : ◌≡◌ {A = ℕ} 0 1 = cc in omega arith)
  lowest_passes (suc n) j e = go (lowest_passes n j) (lowest passes n) refl (passes n) refl e
    where
      go : (lowest passes n ≡ Some j → passes j ≡ true) → (o : Option ℕ) → lowest passes n ≡ o → (t : Bool) → passes n ≡ t → found_or o t n ≡ Some j → passes j ≡ true
      go ih (Some k) is t holds found = ih (is ∙ found)
      go ih None is true holds found = let same : n ≡ j = cc in ap passes (sym same) ∙ holds
      go ih None is false holds found = absurd (let z : ◌≡◌ {A = ℕ} 0 1 = cc in omega arith)

  pub none_passes : (n : ℕ) → lowest passes n ≡ None → (j : ℕ) → j < n → passes j ≡ false
  none_passes n none j h = go (passes j) refl
    where
      first : (k : ℕ) → k ≤ n → lowest passes k ≡ None
      first k le = by (lowest passes k) refl
        where
          by : (o : Option ℕ) → lowest passes k ≡ o → o ≡ None
          by None is = refl
          by (Some e) is = let d : ℕ = n - k in let up : n ≡ d + k = omega arith in absurd (let z : Some e ≡ None = sym (ap (lowest passes) up ∙ lowest_kept k d e is) ∙ none in let o : ◌≡◌ {A = ℕ} 0 1 = cc in omega arith)

      go : (t : Bool) → passes j ≡ t → t ≡ false
      go false is = refl
      go true is = absurd (let z : Some j ≡ None = sym (lowest_found j n h (first j (omega arith)) is) ∙ none in let o : ◌≡◌ {A = ℕ} 0 1 = cc in omega arith)
