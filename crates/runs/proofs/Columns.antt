-- Reads and writes of weights by their places, and of a row of the cells: cell (i, j) stands at i × n + j.
use Rattle.std.proofs.Common.{◌≡◌, ℕ, zero, suc, ◌+◌, ◌*◌, ◌<◌, ◌≤◌, List, [], ◌∷◌, ◌++◌, map, length, get_or, set, take, sym, ap, ◌∙◌, subst, arith, below_more}
use native.Mathlib.Decide.{dec_lt, ℕ_discrete}
use borrow.Rule.Slice.PartMut.{put_mid, post_of}
use Rattle.std.specs.List.{AllByRecursion, take-map}
use Rattle.std.proofs.lemmas.Nat.{mul-add-lt}
use Rattle.std.proofs.lemmas.List.{map-append, map-set, length-map, length-take-le, get_or-set_same, get_or-set_other, get_or-map, get_or_past, get_or_append_left, get_or-append-add, get_or-take}
use Rattle.weights.specs.Kinds.{Kind, Laws}
use Rattle.runs.specs.Links.{at}

pub cell_inside : (n i j : ℕ) → i < n → j < n → i * n + j < n * n
cell_inside n i j p q = mul-add-lt i n j n p q

module _ (K : Kind) {X : Type 0} (m : X → K.carrier) where
  -- what is read at a place
  pub at_read : (xs : List X) (t : ℕ) (y : X) → t < length xs → y ≡ get_or xs t y → at K m xs t ≡ m y
  at_read xs t y h e = get_or-map m xs t y K.none h ∙ ap m (sym e)

  pub at_set_same : (xs : List X) (p : ℕ) (w : X) → p < length xs → at K m (set xs p w) p ≡ m w
  at_set_same xs p w h =
      let hm : p < length (map m xs) = rw length-map h in
      ap (λ y. get_or y p K.none) (map-set m xs p w) ∙ get_or-set_same (map m xs) p (m w) K.none hm

  pub at_set_other : (xs : List X) (p q : ℕ) (w : X) → (q ≡ p → ⊥) → at K m (set xs p w) q ≡ at K m xs q
  at_set_other xs p q w ne = ap (λ y. get_or y q K.none) (map-set m xs p w) ∙ get_or-set_other (map m xs) p q (m w) K.none ne

  -- one more place is written by a function of the place
  pub fill_more : (xs : List X) (i : ℕ) (w : X) (new : ℕ → K.carrier) → i < length xs → m w ≡ new i → ((t : ℕ) → t < i → at K m xs t ≡ new t) → (t : ℕ) → t < i + 1 → at K m (set xs i w) t ≡ new t
  fill_more xs i w new h e before =
      below_more (λ t. at K m (set xs i w) t ≡ new t) i
      (λ t l. at_set_other xs i t w (λ same. omega arith) ∙ before t l)
      (at_set_same xs i w h ∙ e)

  at_past : (xs : List X) (t : ℕ) → length xs ≤ t → at K m xs t ≡ K.none
  at_past xs t h = let hm : length (map m xs) ≤ t = rw length-map h in get_or_past (map m xs) t K.none hm

  pub cleared_all : (xs : List X) → ((t : ℕ) → t < length xs → at K m xs t ≡ K.none) → (t : ℕ) → at K m xs t ≡ K.none
  cleared_all xs h t = elim (dec_lt t (length xs)) [ yes p ↦ h t p | no p ↦ at_past xs t (omega arith) ]

  pub all_from_at : (P : K.carrier → Type 0) (xs : List X) → ((t : ℕ) → t < length xs → P (at K m xs t)) → AllByRecursion (λ w. P (m w)) xs
  all_from_at P [] h = tt
  all_from_at P (x ∷ xs) h = (h 0 (omega arith), all_from_at P xs (λ t l. h (suc t) (omega arith)))

  -- light weights are light at every place, since none spans nothing
  pub light_at : Laws K → (xs : List X) → AllByRecursion (λ w. K.span (m w) ≤ 1) xs → (t : ℕ) → K.span (at K m xs t) ≤ 1
  light_at L [] h t = omega (arith, L.span_none)
  light_at L (x ∷ xs) h zero = h.0
  light_at L (x ∷ xs) h (suc t) = light_at L xs h.1 t

  at_left : (xs ys : List X) (t : ℕ) → t < length xs → at K m (xs ++ ys) t ≡ at K m xs t
  at_left xs ys t h =
      let hm : t < length (map m xs) = rw length-map h in
      ap (λ l. get_or l t K.none) (map-append m xs ys) ∙ get_or_append_left (map m xs) (map m ys) K.none t hm

  at_right : (xs ys : List X) (t : ℕ) → at K m (xs ++ ys) (length xs + t) ≡ at K m ys t
  at_right xs ys t =
      ap (λ l. get_or l (length xs + t) K.none) (map-append m xs ys)
      ∙ ap (λ n. get_or (map m xs ++ map m ys) (n + t) K.none) (sym (length-map xs m))
      ∙ get_or-append-add (map m xs) (map m ys) t K.none

  at_take : (a : ℕ) (xs : List X) (t : ℕ) → t < a → at K m (take a xs) t ≡ at K m xs t
  at_take a xs t h = ap (λ l. get_or l t K.none) (sym (take-map m a xs)) ∙ get_or-take a (map m xs) t K.none h

  -- one more row is written, and the ones before it are kept
  pub rows_more : (n i k : ℕ) (cells row : List X) (f : ℕ → ℕ → K.carrier) → i < n → length cells ≡ n * n → length row ≡ n → ((q : ℕ) → q < n → at K m row q ≡ f i q)
      → ((r q : ℕ) → r < i → q < n → at K m cells (r * n + q) ≡ f r q) → (r q : ℕ) → r < i + 1 → q < n → at K m (put_mid (i * n) k cells row) (r * n + q) ≡ f r q
  rows_more n i k cells row f hi square side here before r q hr hq =
      let front = take (i * n) cells in
      let back = row ++ post_of (i * n) k cells in
      let len : length front ≡ i * n = length-take-le (i * n) cells (omega (arith, cell_inside n i q hi hq)) in
      elim (ℕ_discrete r i) [
        | yes e ↦ subst (λ z. at K m (front ++ back) (z * n + q) ≡ f z q) (sym e)
            (ap (λ z. at K m (front ++ back) (z + q)) (sym len) ∙ at_right front back q ∙ at_left row (post_of (i * n) k cells) q (omega arith) ∙ here q hq)
        | no ne ↦ let lower : r * n + q < i * n = omega (arith, mul-add-lt r n q i (omega arith) hq) in at_left front back (r * n + q) (omega arith) ∙ at_take (i * n) cells (r * n + q) lower ∙ before r q (omega arith) hq
      ]
