-- A turn of a loop over the links of a net and their weights together: the k-th link and the k-th weight come, and all after them
-- are left.
use Rattle.std.proofs.Common.{◌≡◌, ℕ, ◌+◌, ◌<◌, ◌≤◌, List, ◌∷◌, length, get_or, drop, ◌⊎◌, inl, inr, sym, ◌∙◌, ap, arith, length-drop}
use native.Mathlib.Decide.{dec_lt}
use Rattle.std.specs.List.{AllByRecursion}
use Rattle.std.proofs.ByRecursion.{All-get_or}
use Rattle.std.proofs.lemmas.List.{drop_more, drop_all}
use Rattle.runs.specs.declared.Link.{Link}
use Rattle.runs.specs.Links.{no_link}

-- x comes at k in xs, and rest comes after it
pub record Comes {X : Type 0} (xs rest : List X) (k : ℕ) (x : X) : Type 0 where
  pub inside : k < length xs
  pub is : (d : X) → x ≡ get_or xs k d
  pub after : rest ≡ drop (k + 1) xs

pub comes : {X : Type 0} (xs rest : List X) (k : ℕ) (x : X) → drop k xs ≡ x ∷ rest → Comes xs rest k x
comes xs rest k x e = elim (dec_lt k (length xs)) [
  | yes h ↦ record { inside = h; is = λ d. let more = drop_more xs k d h in cc; after = let more = drop_more xs k x h in cc }
  | no past ↦ absurd (let none = drop_all k xs (omega arith) in let z : ◌≡◌ {A = ℕ} 0 1 = cc in omega arith)
]

pub ends_below : (n : ℕ) (ls rest : List Link) (k : ℕ) (link : Link) → AllByRecursion (λ l. (l.from < n) × (l.to < n)) ls → Comes ls rest k link → (link.from < n) × (link.to < n)
ends_below n ls rest k link within t = rw (t.is no_link) (All-get_or (λ l. (l.from < n) × (l.to < n)) ls k no_link t.inside within)

-- the same of the link that an iterator gives
pub link_ends : (n : ℕ) (ls left rest : List Link) (k : ℕ) (link : Link) → AllByRecursion (λ l. (l.from < n) × (l.to < n)) ls → left ≡ drop k ls → left ≡ link ∷ rest → (link.from < n) × (link.to < n)
link_ends n ls left rest k link within e f = ends_below n ls rest k link within (comes ls rest k link (sym e ∙ f))

-- where either list has nothing left, both are at their end
pub ended : {X Y : Type 0} (xs : List X) (ys : List Y) (xs' : List X) (ys' : List Y) (k : ℕ) → length xs ≡ length ys → xs' ≡ drop k xs → ys' ≡ drop k ys → (length xs' ≡ 0) ⊎ (length ys' ≡ 0) → length xs ≤ k
ended xs ys xs' ys' k paired e f (inl none) = omega (arith, ap length e, length-drop k xs)
ended xs ys xs' ys' k paired e f (inr none) = omega (arith, ap length f, length-drop k ys)
