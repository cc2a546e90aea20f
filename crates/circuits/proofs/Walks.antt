-- The walk back, and the circuit in it.
use Rattle.std.proofs.Common.{◌≡◌, ℕ, zero, suc, ◌+◌, ◌-◌, ◌<◌, ◌≤◌, List, [], ◌∷◌, map, length, take, drop, set, replicate, ℤ, pos, ◌+ℤ◌, ◌≤ℤ◌, ◌<ℤ◌, Option, Some, None, IfSome, get_or, sym, refl, ap, ◌∙◌, subst, inl, inr, ⊎_elim, add-one, arith}
use native.Mathlib.Decide.{ℕ_discrete}
use Rattle.std.proofs.ByRecursion.{All-get_or}
use Rattle.std.proofs.lemmas.Int.{ints}
use Rattle.std.proofs.lemmas.List.{get_or-set_same, get_or-set_other, get_or-replicate, drop_more, length-map}
use Rattle.circuits.specs.declared.Arc.{Arc}
use Rattle.runs.specs.Nets.{In, Distinct, IsRun}
use Rattle.runs.proofs.Pigeonhole.{at_most}
use Rattle.circuits.specs.Arcs.{no_arc, start_of, end_of, arcs_net, CircuitOf, sum, ArcsBelow}
use Rattle.circuits.specs.Rounds.{value}
use Rattle.circuits.specs.Walks.{RaisesIn, nth, WalksBack, IsChain, ArePredecessors, IsRaised, OpenUpTo, ClosedPart, FirstCircuit, GainingCircuit}
use Rattle.circuits.proofs.Rises.{inside_arc, rise_arc, value_more, value_mono}

abbrev pub piece : (ℕ → ℕ) → ℕ → ℕ → List ℕ
piece p s zero = []
piece p s (suc l) = p s ∷ piece p (s + 1) l

pub take_piece : (path : List ℕ) (s l : ℕ) → s + l ≤ length path → take l (drop s path) ≡ piece (nth path) s l
take_piece path s zero h = refl
take_piece path s (suc l) h =
    let lt : s < length path = omega arith in
    ap (take (suc l)) (drop_more path s 0 lt) ∙ ap (λ y. nth path s ∷ y) (take_piece path (s + 1) l (omega arith))

length_piece : (p : ℕ → ℕ) (s l : ℕ) → length (piece p s l) ≡ l
length_piece p s zero = refl
length_piece p s (suc l) = ap suc (length_piece p (s + 1) l)

-- the path is empty, or its first arc begins at an event
abbrev pub BeginsAt : List Arc → List ℕ → ℕ → Type 0
BeginsAt arcs path e = 0 < length path → start_of arcs (nth path 0) ≡ e

pub link_more : (arcs : List Arc) (a : ℕ) (path : List ℕ) → BeginsAt arcs path (end_of arcs a) → ((t : ℕ) → t + 1 < length path → end_of arcs (nth path t) ≡ start_of arcs (nth path (t + 1)))
    → (t : ℕ) → t + 1 < length (a ∷ path) → end_of arcs (nth (a ∷ path) t) ≡ start_of arcs (nth (a ∷ path) (t + 1))
link_more arcs a path next linked zero lt = sym (next (omega arith))
link_more arcs a path next linked (suc t) lt = let e : suc (t + 1) ≡ suc t + 1 = omega arith in subst (λ y. end_of arcs (nth path t) ≡ start_of arcs (nth (a ∷ path) y)) e (linked t (omega arith))

module _ (arcs : List Arc) (w : ℕ → ℤ) where
  pub raised_back : (k a : ℕ) → RaisesIn arcs w k a → IsRaised arcs w k (start_of arcs a)
  raised_back k a s q e =
      let one : (value arcs w q (start_of arcs a) +ℤ w a) ≤ℤ value arcs w (q + 1) (end_of arcs a) = subst (λ y. (value arcs w q (start_of arcs a) +ℤ w a) ≤ℤ y) (sym (value_more arcs w q (end_of arcs a))) (rise_arc arcs w (value arcs w q) (end_of arcs a) (length arcs) a s.inside refl) in
      let two : value arcs w k (start_of arcs a) ≡ value arcs w (q + 1) (start_of arcs a) = ap (λ y. value arcs w y (start_of arcs a)) e in
      let three : value arcs w k (end_of arcs a) ≡ value arcs w (q + 1) (end_of arcs a) = ap (λ y. value arcs w y (end_of arcs a)) e in
      omega (arith, ints, s.adds, s.rises)

  pub walk_chain : (k : ℕ) (path : List ℕ) → WalksBack arcs w k path → IsChain arcs path
  walk_chain k path walk = record { inside = λ t hi. (walk.steps t hi).inside; linked = walk.linked }

  pub walk_more : (k a : ℕ) (path : List ℕ) → RaisesIn arcs w k a → BeginsAt arcs path (end_of arcs a) → WalksBack arcs w (k + 1) path → WalksBack arcs w k (a ∷ path)
  walk_more k a path s next h = record { steps = by_step; linked = link_more arcs a path next h.linked }
    where
      by_step : (t : ℕ) → t < length (a ∷ path) → RaisesIn arcs w (k + t) (nth (a ∷ path) t)
      by_step zero hi = subst (λ y. RaisesIn arcs w y a) (omega arith) s
      by_step (suc t) hi = let same : k + 1 + t ≡ k + suc t = omega arith in subst (λ y. RaisesIn arcs w y (nth path t)) same (h.steps t (omega arith))

-- a piece of a chain
module _ (arcs : List Arc) (n : ℕ) (path : List ℕ) (len : length path ≡ n) (chain : IsChain arcs path) where
  abbrev p : ℕ → ℕ
  p = nth path

  pub piece_goes : (l s t : ℕ) → t ≡ s + l → t < n → IsRun (arcs_net arcs) (start_of arcs (p s)) (end_of arcs (p t)) (piece p s (suc l))
  piece_goes zero s t e h = let same : s ≡ t = omega arith in (inside_arc arcs (p s) (chain.inside s (omega arith)), refl, ap (λ y. end_of arcs (p y)) same)
  piece_goes (suc l) s t e h = (
    inside_arc arcs (p s) (chain.inside s (omega arith)),
    refl,
    subst (λ y. IsRun (arcs_net arcs) y (end_of arcs (p t)) (piece p (s + 1) (suc l))) (sym (chain.linked s (omega arith))) (piece_goes l (s + 1) t (omega arith) h),
  )

  module _ (t : ℕ) (inside : t < n) (opens : OpenUpTo arcs path t) where
    apart_pair : (i j : ℕ) → i < j → j ≤ t → start_of arcs (p i) ≡ start_of arcs (p j) → ⊥
    apart_pair i zero lt le e = omega arith
    apart_pair i (suc j) lt le e = opens j i (omega arith) (omega arith) (e ∙ ap (λ y. start_of arcs (p y)) (sym (add-one j)) ∙ sym (chain.linked j (omega arith)))

    not_in : (l i s : ℕ) → i < s → s + l ≤ t + 1 → In (start_of arcs (p i)) (map (start_of arcs) (piece p s l)) → ⊥
    not_in zero i s lt le h = h
    not_in (suc l) i s lt le (inl e) = apart_pair i s lt (omega arith) e
    not_in (suc l) i s lt le (inr h) = not_in l i (s + 1) (omega arith) (omega arith) h

    pub piece_apart : (l s : ℕ) → s + l ≤ t + 1 → Distinct (map (start_of arcs) (piece p s l))
    piece_apart zero s le = tt
    piece_apart (suc l) s le = (not_in l s (s + 1) (omega arith) (omega arith), piece_apart l (s + 1) (omega arith))

  starts_below : ArcsBelow n arcs → (x l s : ℕ) → s + l ≤ n → In x (map (start_of arcs) (piece p s l)) → x < n
  starts_below below x zero s le h = absurd h
  starts_below below x (suc l) s le (inl e) = subst (λ y. y < n) (sym e) (All-get_or _ arcs (p s) no_arc (chain.inside s (omega arith)) below).0
  starts_below below x (suc l) s le (inr h) = starts_below below x l (s + 1) (omega arith) h

  last_new : (l s t : ℕ) → t < n → s + l ≤ t + 1 → OpenUpTo arcs path n → In (end_of arcs (p t)) (map (start_of arcs) (piece p s l)) → ⊥
  last_new zero s t inside le opens h = h
  last_new (suc l) s t inside le opens (inl e) = opens t s inside (omega arith) (sym e)
  last_new (suc l) s t inside le opens (inr h) = last_new l (s + 1) t inside (omega arith) opens h

  -- a walk of n arcs meets an event twice
  pub closes_once : ArcsBelow n arcs → 0 < n → OpenUpTo arcs path n → ⊥
  closes_once below some opens =
      let t : ℕ = n - 1 in
      let last : ℕ = end_of arcs (p t) in
      let inside : t < n = omega arith in
      let apart : Distinct (map (start_of arcs) (piece p 0 n)) = piece_apart t inside (λ i s a b. opens i s (omega arith) b) n 0 (omega arith) in
      let new : In last (map (start_of arcs) (piece p 0 n)) → ⊥ = last_new n 0 t inside (omega arith) opens in
      let few : length (last ∷ map (start_of arcs) (piece p 0 n)) ≤ n = at_most n (last ∷ map (start_of arcs) (piece p 0 n)) (new, apart) (λ x. ⊎_elim (λ e. subst (λ y. y < n) (sym e) (All-get_or _ arcs (p t) no_arc (chain.inside t (omega arith)) below).1) (starts_below below x n 0 (omega arith))) in
      omega (arith, length-map (piece p 0 n) (start_of arcs), length_piece p 0 n)

  -- the piece that closes is a circuit
  pub piece_circuit : (s t : ℕ) → ClosedPart arcs path s t → CircuitOf arcs (take (t + 1 - s) (drop s path))
  piece_circuit s t c =
      let l : ℕ = t - s in
      let ordered = c.ordered in
      let inside : t < n = omega (arith, c.inside) in
      let el : t + 1 - s ≡ suc l = omega arith in
      let whole : take (t + 1 - s) (drop s path) ≡ piece p s (suc l) = ap (λ y. take y (drop s path)) el ∙ take_piece path s (suc l) (omega arith) in
      let et : t ≡ s + l = omega arith in
      subst (CircuitOf arcs) (sym whole) (record {
        event = start_of arcs (p s);
        circuit = (
          subst (λ y. IsRun (arcs_net arcs) (start_of arcs (p s)) y (piece p s (suc l))) (sym c.closes) (piece_goes l s t et inside),
          omega arith,
          piece_apart t inside c.before (suc l) s (omega arith),
        );
      })

-- and of the walk
module _ (arcs : List Arc) (w : ℕ → ℤ) (path : List ℕ) (walk : WalksBack arcs w 0 path) where
  abbrev q : ℕ → ℕ
  q = nth path

  step : (t : ℕ) → t < length path → RaisesIn arcs w t (q t)
  step t h = let e : 0 + t ≡ t = omega arith in subst (λ y. RaisesIn arcs w y (q t)) e (walk.steps t h)

  piece_sum : (l s t : ℕ) → t ≡ s + l → t < length path → (value arcs w s (start_of arcs (q s)) +ℤ sum w (piece q s (suc l))) ≡ value arcs w (t + 1) (end_of arcs (q t))
  piece_sum zero s t e h =
      let same : s ≡ t = omega arith in
      let one = (step s (omega arith)).adds in
      let z : (value arcs w s (start_of arcs (q s)) +ℤ (w (q s) +ℤ pos 0)) ≡ value arcs w (s + 1) (end_of arcs (q s)) = omega (arith, ints) in
      z ∙ ap (λ y. value arcs w (y + 1) (end_of arcs (q y))) same
  piece_sum (suc l) s t e h =
      let one = (step s (omega arith)).adds in
      let rest : (value arcs w (s + 1) (start_of arcs (q (s + 1))) +ℤ sum w (piece q (s + 1) (suc l))) ≡ value arcs w (t + 1) (end_of arcs (q t)) = piece_sum l (s + 1) t (omega arith) h in
      let link : value arcs w (s + 1) (end_of arcs (q s)) ≡ value arcs w (s + 1) (start_of arcs (q (s + 1))) = ap (value arcs w (s + 1)) (walk.linked s (omega arith)) in
      omega (arith, ints)

  pub piece_gains : (s t : ℕ) → ClosedPart arcs path s t → GainingCircuit arcs w (take (t + 1 - s) (drop s path))
  piece_gains s t c =
      let l : ℕ = t - s in
      let ordered = c.ordered in
      let inside : t < length path = omega (arith, c.inside) in
      let el : t + 1 - s ≡ suc l = omega arith in
      let whole : take (t + 1 - s) (drop s path) ≡ piece q s (suc l) = ap (λ y. take y (drop s path)) el ∙ take_piece path s (suc l) (omega arith) in
      let total = piece_sum l s t (omega arith) inside in
      let same : value arcs w s (start_of arcs (q s)) ≡ value arcs w s (end_of arcs (q t)) = ap (value arcs w s) c.closes in
      let grows = value_mono arcs w s t (end_of arcs (q t)) ordered in
      let up = (step t inside).rises in
      let more : pos 0 <ℤ sum w (piece q s (suc l)) = omega (arith, ints) in
      record {
        circuit = piece_circuit arcs (length path) path refl (walk_chain arcs w 0 path walk) s t c;
        gains = subst (λ y. pos 0 <ℤ sum w y) (sym whole) more;
      }

-- the first part of a path that closes is a circuit, and gains where the path walks back through the rounds
pub first_is_circuit : (arcs : List Arc) (n : ℕ) (path run : List ℕ) → length path ≡ n → IsChain arcs path → FirstCircuit arcs path run → CircuitOf arcs run
first_is_circuit arcs n path run len chain f = subst (CircuitOf arcs) (sym f.cut) (piece_circuit arcs n path len chain f.first f.last f.closed)

pub first_gains : (arcs : List Arc) (w : ℕ → ℤ) (path run : List ℕ) → WalksBack arcs w 0 path → FirstCircuit arcs path run → GainingCircuit arcs w run
first_gains arcs w path run walk f = subst (GainingCircuit arcs w) (sym f.cut) (piece_gains arcs w path walk f.first f.last f.closed)

-- one more arc of the predecessors
pub predecessors_more : (arcs : List Arc) (latest : List (Option ℕ)) (j a : ℕ) → j < length latest → a < length arcs → end_of arcs a ≡ j → ArePredecessors arcs latest → ArePredecessors arcs (set latest j (Some a))
predecessors_more arcs latest j a hj ha e h i hi = go (ℕ_discrete i j)
  where
    Fits : Option ℕ → Type 0
    Fits o = IfSome o (λ b. (b < length arcs) × (end_of arcs b ≡ i))

    go : Dec (i ≡ j) → Fits (get_or (set latest j (Some a)) i None)
    go (yes same) = subst Fits (sym (ap (λ y. get_or (set latest j (Some a)) y None) same ∙ get_or-set_same latest j (Some a) None hj)) (ha, e ∙ sym same)
    go (no ne) = subst Fits (sym (get_or-set_other latest j i (Some a) None ne)) (h i hi)

pub predecessors_none : (arcs : List Arc) → ArePredecessors arcs (replicate 32 None)
predecessors_none arcs j hj = subst (λ o. IfSome o (λ b. (b < length arcs) × (end_of arcs b ≡ j))) (sym (get_or-replicate 32 j None None hj)) tt
