-- The loop over the links that lets a round arrive: what is still to come is the choice over the links not yet seen.
use Rattle.std.proofs.Common.{◌≡◌, ℕ, ◌+◌, ◌-◌, ◌<◌, ◌≤◌, cond, eqb, List, [], ◌∷◌, length, get_or, drop, sym, refl, ap, ◌∙◌, subst, arith, eq-eqb, ne_eqb}
use Rattle.std.specs.List.{range_with_len, AllByRecursion}
use Rattle.std.proofs.lemmas.List.FromFn.{length-range_with_len, get_or-range_with_len}
use Rattle.std.proofs.ByRecursion.{All-get_or}
use Rattle.std.proofs.lemmas.List.{drop_more, drop_all, get_or-map}
use Rattle.weights.specs.Kinds.{Kind, Laws}
use Rattle.runs.specs.declared.Link.{Link}
use Rattle.runs.specs.Nets.{Net, Within}
use Rattle.runs.specs.Runs.{cell}
use Rattle.runs.specs.Links.{no_link, net_of, at}
use Rattle.runs.specs.Rounds.{arrive, Fit}
use Rattle.runs.proofs.Cells.{cell_span}
use Rattle.runs.proofs.Columns.{at_read, all_from_at, light_at}
use Rattle.runs.proofs.Members.{in_counting}
use Rattle.runs.proofs.Order.{none_choice}
use Rattle.runs.proofs.Turns.{Comes, ends_below}

pub net_within : (n : ℕ) (ls : List Link) → AllByRecursion (λ l. (l.from < n) × (l.to < n)) ls → Within n (net_of ls)
net_within n ls h l m = All-get_or (λ k. (k.from < n) × (k.to < n)) ls l no_link (let lt : l < 0 + length ls = in_counting l 0 (length ls) m in omega arith) h

-- the links from the k-th on
abbrev pub links_from : List Link → ℕ → List ℕ
links_from ls k = drop k (range_with_len 0 (length ls))

links_more : (ls : List Link) (k : ℕ) → k < length ls → links_from ls k ≡ k ∷ links_from ls (k + 1)
links_more ls k h =
    let inside : k < length (range_with_len 0 (length ls)) = rw length-range_with_len h in
    let here : get_or (range_with_len 0 (length ls)) k 0 ≡ k = get_or-range_with_len 0 (length ls) k 0 h ∙ omega arith in
    drop_more (range_with_len 0 (length ls)) k 0 inside ∙ ap (λ y. y ∷ links_from ls (k + 1)) here

links_all : (ls : List Link) (k : ℕ) → length ls ≤ k → links_from ls k ≡ []
links_all ls k h = drop_all k (range_with_len 0 (length ls)) (rw length-range_with_len h)

-- b, with what the links from the k-th on will add to it
abbrev pub with_rest : (K : Kind) → List Link → (w x : ℕ → K.carrier) → ℕ → ℕ → K.carrier → K.carrier
with_rest K ls w x j k b = K.choice b (arrive K (net_of ls) w x j (links_from ls k))

module _ (K : Kind) (L : Laws K) (ls : List Link) (w x : ℕ → K.carrier) (j : ℕ) where
  abbrev net : Net
  net = net_of ls

  -- what the k-th link adds where it goes to j
  abbrev addition : ℕ → K.carrier
  addition k = K.chaining (x (net.from k)) (w k)

  rest_more : (k : ℕ) → k < length ls → arrive K net w x j (links_from ls k) ≡ K.choice (cond (eqb (net.to k) j) (addition k) K.none) (arrive K net w x j (links_from ls (k + 1)))
  rest_more k h = ap (arrive K net w x j) (links_more ls k h)

  -- the k-th link goes to j, and is chosen into b
  pub taken_more : (k : ℕ) (b b' : K.carrier) → k < length ls → net.to k ≡ j → b' ≡ K.choice b (addition k) → with_rest K ls w x j (k + 1) b' ≡ with_rest K ls w x j k b
  taken_more k b b' h e chosen =
      let rest : K.carrier = arrive K net w x j (links_from ls (k + 1)) in
      ap (λ y. K.choice y rest) chosen
      ∙ L.choice_assoc b (addition k) rest
      ∙ ap (λ t. K.choice b (K.choice (cond t (addition k) K.none) rest)) (sym (eq-eqb (net.to k) j e))
      ∙ ap (K.choice b) (sym (rest_more k h))

  -- the k-th link goes elsewhere
  pub passed_more : (k : ℕ) (b b' : K.carrier) → k < length ls → (net.to k ≡ j → ⊥) → b' ≡ b → with_rest K ls w x j (k + 1) b' ≡ with_rest K ls w x j k b
  passed_more k b b' h ne same =
      let rest : K.carrier = arrive K net w x j (links_from ls (k + 1)) in
      ap (λ y. K.choice y rest) same
      ∙ ap (K.choice b) (sym (none_choice K L rest))
      ∙ ap (λ t. K.choice b (K.choice (cond t (addition k) K.none) rest)) (sym (ne_eqb (net.to k) j ne))
      ∙ ap (K.choice b) (sym (rest_more k h))

  pub rest_all : (k : ℕ) (b : K.carrier) → length ls ≤ k → with_rest K ls w x j k b ≡ b
  rest_all k b h = ap (λ y. K.choice b (arrive K net w x j y)) (links_all ls k h) ∙ L.choice_none b

-- a turn of a loop over links and weights
module _ (K : Kind) (L : Laws K) {X : Type 0} (m : X → K.carrier) (n : ℕ) (ls : List Link) (ws before : List X) (fit : Fit K m n ls ws) (side : length before ≡ n) where
  -- what is chosen between the cell that is read and the k-th link, chained behind what reaches its first event
  pub chosen_is : (row : List X) (to from k : ℕ) (old back weight chain chosen : X) → to < length row → from < n → k < length ls → old ≡ get_or row to old → m chain ≡ K.chaining (m (get_or before from back)) (m (get_or ws k weight))
      → m chosen ≡ K.choice (m old) (m chain) → m chosen ≡ K.choice (at K m row to) (K.chaining (at K m before from) (at K m ws k))
  chosen_is row to from k old back weight chain chosen place start inside old_is chain_is choice_is =
      choice_is ∙ ap (K.choice (m old)) chain_is
      ∙ ap (λ y. K.choice y (K.chaining (m (get_or before from back)) (m (get_or ws k weight)))) (sym (at_read K m row to old place old_is))
      ∙ ap (λ y. K.choice (at K m row to) (K.chaining y (m (get_or ws k weight)))) (sym (get_or-map m before from back K.none (omega arith)))
      ∙ ap (λ y. K.choice (at K m row to) (K.chaining (at K m before from) y)) (sym (get_or-map m ws k weight K.none (omega (arith, fit.paired, inside))))

  -- a turn of the loop that chooses over the links to j
  pub choice_step : (j k from : ℕ) (link : Link) (best weight back : X) (new : K.carrier) {links : List Link} {weights : List X} → Comes ls links k link → Comes ws weights k weight → link.to ≡ j → from ≡ link.from
      → back ≡ get_or before from back → new ≡ K.choice (m best) (K.chaining (m back) (m weight))
      → with_rest K ls (at K m ws) (at K m before) j (k + 1) new ≡ with_rest K ls (at K m ws) (at K m before) j k (m best)
  choice_step j k from link best weight back new tl tw to_is from_is back_is chosen =
      let w : ℕ → K.carrier = at K m ws in
      let x : ℕ → K.carrier = at K m before in
      let start : from < length before = omega (arith, (ends_below n ls _ k link fit.within tl).0) in
      let to_k : (get_or ls k no_link).to ≡ j = sym (ap (λ l. l.to) (tl.is no_link)) ∙ to_is in
      let from_k : from ≡ (get_or ls k no_link).from = from_is ∙ ap (λ l. l.from) (tl.is no_link) in
      taken_more K L ls w x j k (m best) new tl.inside to_k (
      chosen ∙ ap (λ y. K.choice (m best) (K.chaining y (m weight))) (sym (at_read K m before from back start back_is))
      ∙ ap (λ f. K.choice (m best) (K.chaining (x f) (m weight))) from_k
      ∙ ap (λ y. K.choice (m best) (K.chaining (x (get_or ls k no_link).from) y)) (sym (at_read K m ws k weight tw.inside (tw.is weight)))
      )

  pub passed_step : (j k : ℕ) (link : Link) (best : K.carrier) {links : List Link} → Comes ls links k link → (link.to ≡ j → ⊥)
      → with_rest K ls (at K m ws) (at K m before) j (k + 1) best ≡ with_rest K ls (at K m ws) (at K m before) j k best
  passed_step j k link best tl ne = passed_more K L ls (at K m ws) (at K m before) j k best best tl.inside (λ e. ne (ap (λ l. l.to) (tl.is no_link) ∙ e)) refl

-- a row of cells leaves room for one more link
pub row_room : (K : Kind) (L : Laws K) {X : Type 0} (m : X → K.carrier) (net : Net) (ws row : List X) (n k i : ℕ) → AllByRecursion (λ w. K.span (m w) ≤ 1) ws → length row ≡ n → k ≤ 32
    → ((j : ℕ) → j < n → at K m row j ≡ cell K net (at K m ws) k i j) → AllByRecursion (λ w. K.span (m w) ≤ 31) row
row_room K L m net ws row n k i light side few is = all_from_at K m (λ v. K.span v ≤ 31) row (λ t h.
    let small : K.span (cell K net (at K m ws) k i t) ≤ k - 1 = cell_span K L net (at K m ws) (light_at K m L ws light) k i t in
    subst (λ v. K.span v ≤ 31) (sym (is t (omega arith))) (omega arith))
