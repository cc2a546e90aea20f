-- Values that no arc would raise are potentials.
-- Each value was attained: at the start by the empty run, and in a round either by the run of the round before, or by the run that
-- ended where the raising arc begins, with that arc behind it. And no run weighs more than the value where it ends, since along a
-- run the values rise by at least each arc's weight. So the value of an event is the largest weight of the runs that end there. Where
-- no circuit gains, the cell (i, j) is the least weight that no run from i to j exceeds, so the largest cell is that value too.
use Rattle.std.proofs.Common.{◌≡◌, ℕ, zero, suc, ◌<◌, ◌≤◌, List, [], ◌∷◌, ◌++◌, length, Option, Some, ℤ, pos, ◌+ℤ◌, ◌-ℤ◌, ◌*ℤ◌, ◌≤ℤ◌, ◌<ℤ◌, sym, refl, ap, ◌∙◌, subst, inl, inr, arith}
use native.Mathlib.Decide.{ℕ_discrete}
use Rattle.std.proofs.ByRecursion.{All-get_or}
use Rattle.std.proofs.lemmas.Int.{ints, clamps}
use Rattle.weights.specs.Kinds.{AtMost}
use Rattle.weights.specs.SecondsKind.{seconds_kind}
use Rattle.weights.specs.SecondsLaws.{seconds_laws, seconds_idempotent}
use Rattle.runs.specs.Nets.{Net, IsRun, Within}
use Rattle.runs.specs.Runs.{weigh, cell}
use Rattle.runs.specs.Gaining.{NoCircuitGains, LeastAbove}
use Rattle.runs.proofs.Cutting.{run_append}
use Rattle.runs.proofs.Order.{at_most_trans, first_at_most, second_at_most, both_at_most, none_choice}
use Rattle.runs.proofs.Theorem.{least_above}
use Rattle.circuits.specs.declared.Arc.{Arc}
use Rattle.circuits.specs.declared.WeighedCircuit.{WeighedCircuit}
use Rattle.circuits.specs.Arcs.{no_arc, start_of, end_of, gain_of, cost_of, arcs_net, sum, numbers_of, ArcsBelow}
use Rattle.circuits.specs.Rounds.{rise, value, at}
use Rattle.circuits.specs.Searches.{SettledRow}
use Rattle.circuits.specs.Walks.{NoneGains}
use Rattle.circuits.specs.Ratios.{weight_of, OwnSums}
use Rattle.circuits.specs.Potentials.{weight_at, largest_below, largest_cell, Holds, ArePotentials}
use Rattle.circuits.proofs.Rises.{arc_inside, inside_arc, value_low, settled, Brought, brought}
use Rattle.circuits.proofs.Ratios.{goes_inside, circuit_known, sum_weights, sum_same, sum_push, row_none_gains}

module _ (arcs : List Arc) (w : ℕ → ℤ) where
  -- a run that ends at j and weighs so much
  pub record Attained (j : ℕ) (u : ℤ) : Type 0 where
    pub first : ℕ
    pub run : List ℕ
    pub is_run : IsRun (arcs_net arcs) first j run
    pub weighs : sum w run ≡ u

  pub attained : (k j : ℕ) → Attained j (value arcs w k j)
  unfolding value
  attained zero j = record { first = j; run = []; is_run = refl; weighs = refl }
  attained (suc k) j = go (attained k) (brought arcs w (value arcs w k) j (length arcs))
    where
      go : ((i : ℕ) → Attained i (value arcs w k i)) → Brought arcs w (value arcs w k) j (length arcs) → Attained j (rise arcs w (value arcs w k) j (length arcs))
      go ih (inl e) = let t : Attained j (value arcs w k j) = ih j in record { first = t.first; run = t.run; is_run = t.is_run; weighs = t.weighs ∙ sym e }
      go ih (inr (a, lt, ends, e)) =
          let t : Attained (start_of arcs a) (value arcs w k (start_of arcs a)) = ih (start_of arcs a) in
          record {
            first = t.first;
            run = t.run ++ a ∷ [];
            is_run = run_append (arcs_net arcs) t.first (start_of arcs a) j t.run (a ∷ []) t.is_run (inside_arc arcs a lt, refl, ends);
            weighs = sum_push w t.run a ∙ ap (λ y. y +ℤ w a) t.weighs ∙ sym e;
          }

pub arcs_within : (n : ℕ) (arcs : List Arc) → ArcsBelow n arcs → Within n (arcs_net arcs)
arcs_within n arcs below a m = All-get_or (λ k. (k.from < n) × (k.to < n)) arcs a no_arc (arc_inside arcs a m) below

-- a run to an event below n begins at one
pub begins_below : (n : ℕ) (arcs : List Arc) → ArcsBelow n arcs → (i j : ℕ) (run : List ℕ) → j < n → IsRun (arcs_net arcs) i j run → i < n
begins_below n arcs below i j [] hj is = subst (λ y. y < n) (sym is) hj
begins_below n arcs below i j (a ∷ run) hj is = subst (λ y. y < n) is.1 (arcs_within n arcs below a is.0).0

-- in Seconds a run weighs what its weights add up to
pub weigh_sum : (w : ℕ → ℤ) (run : List ℕ) → weigh seconds_kind (λ a. Some (w a)) run ≡ Some (sum w run)
weigh_sum w [] = refl
weigh_sum w (a ∷ run) = ap (seconds_kind.chaining (Some (w a))) (weigh_sum w run)

pub of_at_most : (x y : ℤ) → x ≤ℤ y → AtMost seconds_kind (Some x) (Some y)
of_at_most x y h = ap Some (omega (arith, ints, clamps))

antisym : (a b : Option ℤ) → AtMost seconds_kind a b → AtMost seconds_kind b a → a ≡ b
antisym a b p q = sym q ∙ seconds_laws.choice_comm b a ∙ p

-- the largest of some numbers is at least each, and at most what each is at most
pub below_largest : (f : ℕ → Option ℤ) (n i : ℕ) → i < n → AtMost seconds_kind (f i) (largest_below f n)
below_largest f zero i h = absurd (omega arith)
below_largest f (suc n) i h = go (ℕ_discrete i n) (below_largest f n i)
  where
    go : Dec (i ≡ n) → (i < n → AtMost seconds_kind (f i) (largest_below f n)) → AtMost seconds_kind (f i) (largest_below f (suc n))
    go (yes e) ih = subst (λ k. AtMost seconds_kind (f k) (largest_below f (suc n))) (sym e) (first_at_most seconds_kind seconds_laws seconds_idempotent (f n) (largest_below f n))
    go (no ne) ih = at_most_trans seconds_kind seconds_laws seconds_idempotent (f i) (largest_below f n) (largest_below f (suc n)) (ih (omega arith)) (second_at_most seconds_kind seconds_laws seconds_idempotent (f n) (largest_below f n))

pub largest_at_most : (f : ℕ → Option ℤ) (n : ℕ) (u : Option ℤ) → ((i : ℕ) → i < n → AtMost seconds_kind (f i) u) → AtMost seconds_kind (largest_below f n) u
largest_at_most f zero u h = none_choice seconds_kind seconds_laws u
largest_at_most f (suc n) u h = both_at_most seconds_kind seconds_laws seconds_idempotent (f n) (largest_below f n) u (h n (omega arith)) (largest_at_most f n u (λ i lt. h i (omega arith)))

pub none_gains_seconds : (arcs : List Arc) (w : ℕ → ℤ) → NoneGains arcs w → NoCircuitGains seconds_kind (arcs_net arcs) (λ a. Some (w a))
none_gains_seconds arcs w none i run c = subst (λ u. AtMost seconds_kind u (Some (pos 0))) (sym (weigh_sum w run)) (of_at_most (sum w run) (pos 0) (none run (record { event = i; circuit = c })))

module _ (n : ℕ) (arcs : List Arc) (few : n ≤ 32) (below : ArcsBelow n arcs) (ws w : ℕ → ℤ) (row : List ℤ) (e : (a : ℕ) → a < length arcs → ws a ≡ w a) (s : SettledRow arcs ws row) where
  same_sum : (i j : ℕ) (run : List ℕ) → IsRun (arcs_net arcs) i j run → sum ws run ≡ sum w run
  same_sum i j run is = sum_same ws w (length arcs) e run (goes_inside arcs i j run is)

  none : NoneGains arcs w
  none run c = subst (λ y. y ≤ℤ pos 0) (same_sum c.event c.event run c.circuit.0) (row_none_gains arcs ws row s run c)

  low : (j : ℕ) → j < n → pos 0 ≤ℤ at row j
  low j h = let same : at row j ≡ value arcs ws s.round j = s.values j (omega arith) in omega (arith, ints, value_low arcs ws s.round j)

  holds : (a : ℕ) → a < length arcs → (at row (start_of arcs a) +ℤ w a) ≤ℤ at row (end_of arcs a)
  holds a h = subst (λ y. (at row (start_of arcs a) +ℤ y) ≤ℤ at row (end_of arcs a)) (e a h) (s.holds a h)

  reached : (j : ℕ) → j < n → Attained arcs w j (at row j)
  reached j h =
      let t : Attained arcs ws j (value arcs ws s.round j) = attained arcs ws s.round j in
      record { first = t.first; run = t.run; is_run = t.is_run; weighs = sym (same_sum t.first j t.run t.is_run) ∙ t.weighs ∙ sym (s.values j (omega arith)) }

  under : (v : ℕ → ℤ) → Holds n arcs w v → (i j : ℕ) → j < n → (run : List ℕ) → IsRun (arcs_net arcs) i j run → sum w run ≤ℤ v j
  under v h i j hj run is =
      let first : pos 0 ≤ℤ v i = h.low i (begins_below n arcs below i j run hj is) in
      let along : (v i +ℤ sum w run) ≤ℤ v j = settled arcs w v h.holds i j run is in
      omega (arith, ints)

  hold : Holds n arcs w (at row)
  hold = record { low = low; holds = holds }

  cells_largest : (j : ℕ) → j < n → Some (at row j) ≡ largest_cell (arcs_net arcs) w n j
  cells_largest j hj =
      let net : Net = arcs_net arcs in
      let f : ℕ → Option ℤ = λ i. cell seconds_kind net (λ a. Some (w a)) n i j in
      let least : (i : ℕ) → LeastAbove seconds_kind net (λ a. Some (w a)) i j (f i) = λ i. least_above seconds_kind seconds_laws seconds_idempotent net (λ a. Some (w a)) (none_gains_seconds arcs w none) n (arcs_within n arcs below) i j hj in
      let t : Attained arcs w j (at row j) = reached j hj in
      let weighs : weigh seconds_kind (λ a. Some (w a)) t.run ≡ Some (at row j) = weigh_sum w t.run ∙ ap Some t.weighs in
      let first : AtMost seconds_kind (Some (at row j)) (f t.first) = subst (λ u. AtMost seconds_kind u (f t.first)) weighs ((least t.first).above t.run t.is_run) in
      let second : AtMost seconds_kind (f t.first) (largest_below f n) = below_largest f n t.first (begins_below n arcs below t.first j t.run hj t.is_run) in
      antisym (Some (at row j)) (largest_below f n)
      (at_most_trans seconds_kind seconds_laws seconds_idempotent (Some (at row j)) (f t.first) (largest_below f n) first second)
      (largest_at_most f n (Some (at row j)) (λ i hi. (least i).least (Some (at row j)) (λ run is. subst (λ u. AtMost seconds_kind u (Some (at row j))) (sym (weigh_sum w run)) (of_at_most (sum w run) (at row j) (under (at row) hold i j hj run is)))))

  pub are_potentials : ArePotentials n arcs w row
  are_potentials = record {
    none_gains = none;
    cells = cells_largest;
    hold = hold;
    least = λ v h j hj. let t : Attained arcs w j (at row j) = reached j hj in subst (λ y. y ≤ℤ v j) t.weighs (under v h t.first j hj t.run t.is_run);
  }

pub weight_at_is : (arcs : List Arc) (price a : ℕ) → weight_of arcs (pos price) (pos 1) a ≡ weight_at arcs price a
weight_at_is arcs price a = times_one (gain_of arcs a) (cost_of arcs a *ℤ pos price)
  where
    times_one : (g y : ℤ) → (g *ℤ pos 1) -ℤ y ≡ g -ℤ y
    times_one g y = omega (arith, ints)

-- a circuit whose ratio is above the price gains at that price
pub gains_at : (arcs : List Arc) (price : ℕ) (x : WeighedCircuit) → OwnSums arcs x → (x.cost *ℤ pos price) <ℤ (x.gain *ℤ pos 1) → pos 0 <ℤ sum (weight_at arcs price) (numbers_of x.circuit)
gains_at arcs price x own above =
    let r : List ℕ = numbers_of x.circuit in
    let known = circuit_known arcs r own.circuit in
    let same : sum (weight_at arcs price) r ≡ sum (weight_of arcs (pos price) (pos 1)) r = sum_same (weight_at arcs price) (weight_of arcs (pos price) (pos 1)) (length arcs) (λ a h. sym (weight_at_is arcs price a)) r known in
    let parts : sum (weight_at arcs price) r ≡ (sum (gain_of arcs) r *ℤ pos 1) -ℤ (sum (cost_of arcs) r *ℤ pos price) = same ∙ sum_weights (gain_of arcs) (cost_of arcs) (pos price) (pos 1) r in
    let shown : (sum (cost_of arcs) r *ℤ pos price) <ℤ (sum (gain_of arcs) r *ℤ pos 1) = subst (λ y. (y *ℤ pos price) <ℤ (sum (gain_of arcs) r *ℤ pos 1)) own.costs (subst (λ y. (x.cost *ℤ pos price) <ℤ (y *ℤ pos 1)) own.gains above) in
    subst (λ y. pos 0 <ℤ y) (sym parts) (above_diff (sum (gain_of arcs) r *ℤ pos 1) (sum (cost_of arcs) r *ℤ pos price) shown)
  where
    above_diff : (X Y : ℤ) → Y <ℤ X → pos 0 <ℤ (X -ℤ Y)
    above_diff X Y h = omega (arith, ints)
