-- A cell by rounds: the runs of fewer than k + 1 links are the empty one and, behind each first link, those of fewer than k,
-- and chaining distributes over the choice. And a cell of k spans at most k - 1.
use Rattle.std.proofs.Common.{◌≡◌, ℕ, zero, suc, ◌+◌, ◌-◌, ◌≤◌, Bool, true, false, cond, eqb, List, [], ◌∷◌, ◌++◌, map, sym, refl, ap, ◌∙◌, inl, inr, arith}
use Rattle.weights.specs.Kinds.{Kind, Laws}
use Rattle.runs.specs.Nets.{Net, In}
use Rattle.runs.specs.Runs.{standing, longer, runs_below, closed_runs, weigh, choice_over, cell}
use Rattle.runs.specs.Rounds.{seed, extend}
use Rattle.runs.proofs.Order.{none_choice}

module _ (K : Kind) (L : Laws K) (net : Net) (w : ℕ → K.carrier) where
  over_append : (rs qs : List (List ℕ)) → choice_over K w (rs ++ qs) ≡ K.choice (choice_over K w rs) (choice_over K w qs)
  over_append [] qs = sym (none_choice K L (choice_over K w qs))
  over_append (r ∷ rs) qs = ap (K.choice (weigh K w r)) (over_append rs qs) ∙ sym (L.choice_assoc (weigh K w r) (choice_over K w rs) (choice_over K w qs))

  over_behind : (l : ℕ) (rs : List (List ℕ)) → choice_over K w (map (λ r. l ∷ r) rs) ≡ K.chaining (w l) (choice_over K w rs)
  over_behind l [] = sym (L.none_right (w l))
  over_behind l (r ∷ rs) = ap (K.choice (K.chaining (w l) (weigh K w r))) (over_behind l rs) ∙ sym (L.over_left (w l) (weigh K w r) (choice_over K w rs))

  over_if : (l : ℕ) (rs : List (List ℕ)) (b : Bool) → choice_over K w (cond b (map (λ r. l ∷ r) rs) []) ≡ cond b (K.chaining (w l) (choice_over K w rs)) K.none
  over_if l rs true = over_behind l rs
  over_if l rs false = refl

  over_longer : (behind : ℕ → List (List ℕ)) (i : ℕ) (ls : List ℕ) → choice_over K w (longer net behind i ls) ≡ extend K net w (λ e. choice_over K w (behind e)) i ls
  over_longer behind i [] = refl
  over_longer behind i (l ∷ ls) =
      over_append (cond (eqb (net.from l) i) (map (λ r. l ∷ r) (behind (net.to l))) []) (longer net behind i ls)
      ∙ ap (λ y. K.choice y (choice_over K w (longer net behind i ls))) (over_if l (behind (net.to l)) (eqb (net.from l) i))
      ∙ ap (K.choice (cond (eqb (net.from l) i) (K.chaining (w l) (choice_over K w (behind (net.to l)))) K.none)) (over_longer behind i ls)

  over_standing : (b : Bool) → choice_over K w (cond b ([] ∷ []) []) ≡ cond b K.start K.none
  over_standing true = L.choice_none K.start
  over_standing false = refl

  -- the column j of the cells of runs of fewer than k links
  abbrev pub cells_of : ℕ → ℕ → ℕ → K.carrier
  cells_of k j e = cell K net w k e j

  pub cell_zero : (i j : ℕ) → cell K net w 0 i j ≡ K.none
  unfolding cell
  cell_zero i j = refl

  pub cell_suc : (k i j : ℕ) → cell K net w (suc k) i j ≡ K.choice (seed K i j) (extend K net w (cells_of k j) i net.links)
  unfolding cell
  cell_suc k i j =
      over_append (standing i j) (longer net (λ e. runs_below net k e j) i net.links)
      ∙ ap (λ y. K.choice y (choice_over K w (longer net (λ e. runs_below net k e j) i net.links))) (over_standing (eqb i j))
      ∙ ap (K.choice (seed K i j)) (over_longer (λ e. runs_below net k e j) i net.links)

  pub closed_is : (n j : ℕ) → choice_over K w (closed_runs net n j) ≡ extend K net w (cells_of n j) j net.links
  unfolding cell
  closed_is n j = over_longer (λ e. runs_below net n e j) j net.links

  -- spans
  abbrev pub Light : Type 0
  Light = (l : ℕ) → K.span (w l) ≤ 1

  span_if : (b : Bool) (s : ℕ) (v : K.carrier) → K.span v ≤ s → K.span (cond b v K.none) ≤ s
  span_if true s v h = h
  span_if false s v h = omega (arith, L.span_none)

  extend_span : Light → (x : ℕ → K.carrier) (i s : ℕ) → ((e : ℕ) → K.span (x e) ≤ s) → (ls : List ℕ) → K.span (extend K net w x i ls) ≤ s + 1
  extend_span light x i s hx [] = omega (arith, L.span_none)
  extend_span light x i s hx (l ∷ ls) =
      let v : K.carrier = K.chaining (w l) (x (net.to l)) in
      let one : K.span v ≤ s + 1 = omega (arith, L.span_chaining (w l) (x (net.to l)), hx (net.to l), light l) in
      let rest : K.span (extend K net w x i ls) ≤ s + 1 = extend_span light x i s hx ls in
      omega (arith, L.span_choice (cond (eqb (net.from l) i) v K.none) (extend K net w x i ls), span_if (eqb (net.from l) i) (s + 1) v one)

  nothing_behind : (l : ℕ) (b : Bool) → cond b (K.chaining (w l) K.none) K.none ≡ K.none
  nothing_behind l true = L.none_right (w l)
  nothing_behind l false = refl

  pub extend_none : (x : ℕ → K.carrier) (i : ℕ) → ((e : ℕ) → x e ≡ K.none) → (ls : List ℕ) → extend K net w x i ls ≡ K.none
  extend_none x i none [] = refl
  extend_none x i none (l ∷ ls) =
      ap (λ y. K.choice (cond (eqb (net.from l) i) (K.chaining (w l) y) K.none) (extend K net w x i ls)) (none (net.to l))
      ∙ ap (λ y. K.choice y (extend K net w x i ls)) (nothing_behind l (eqb (net.from l) i))
      ∙ none_choice K L (extend K net w x i ls) ∙ extend_none x i none ls

  seed_span : (b : Bool) → K.span (cond b K.start K.none) ≤ 0
  seed_span true = omega (arith, L.span_start)
  seed_span false = omega (arith, L.span_none)

  pub cell_span : Light → (k i j : ℕ) → K.span (cell K net w k i j) ≤ k - 1
  cell_span light zero i j = rw (cell_zero i j) (omega (arith, L.span_none))
  cell_span light (suc zero) i j =
      let only : cell K net w 1 i j ≡ seed K i j = cell_suc 0 i j ∙ ap (K.choice (seed K i j)) (extend_none (cells_of 0 j) i (λ e. cell_zero e j) net.links) ∙ L.choice_none (seed K i j) in
      rw only (omega (arith, seed_span (eqb i j)))
  cell_span light (suc (suc k)) i j =
      let x : ℕ → K.carrier = cells_of (suc k) j in
      let hx : (e : ℕ) → K.span (x e) ≤ k = λ e. omega (arith, cell_span light (suc k) e j) in
      rw (cell_suc (suc k) i j) (omega (arith, L.span_choice (seed K i j) (extend K net w x i net.links), seed_span (eqb i j), extend_span light x i k hx net.links))

  -- only what stands at the links' ends counts
  pub extend_same : (x y : ℕ → K.carrier) (i : ℕ) (ls : List ℕ) → ((l : ℕ) → In l ls → x (net.to l) ≡ y (net.to l)) → extend K net w x i ls ≡ extend K net w y i ls
  extend_same x y i [] same = refl
  extend_same x y i (l ∷ ls) same =
      ap (λ v. K.choice (cond (eqb (net.from l) i) (K.chaining (w l) v) K.none) (extend K net w x i ls)) (same l (inl refl))
      ∙ ap (K.choice (cond (eqb (net.from l) i) (K.chaining (w l) (y (net.to l))) K.none)) (extend_same x y i ls (λ k h. same k (inr h)))
