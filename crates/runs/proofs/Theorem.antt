-- Circuits and runs of any length.
-- A closed run that is no circuit meets an event twice, so it has a shorter closed part that can be cut out, and what is left
-- is closed too. If no circuit gains, then by induction on the length neither part gains, hence nor does the whole; and if
-- the whole gains, one part does. A circuit among n events has at most n links, so it is one of the closed runs of 1 to n.
-- Where no closed run gains, cutting a closed part out of a run loses nothing, so every run weighs at most one of fewer than
-- n links, and the choice over these is the least weight that none exceeds.
use Rattle.std.proofs.Common.{◌≡◌, ℕ, zero, suc, ◌<◌, ◌≤◌, Bool, true, false, not, ◌||◌, ◌⊎◌, List, [], ◌∷◌, ◌++◌, length, Decides, sym, refl, ap, ◌∙◌, subst, inl, inr, arith}
use native.Mathlib.Decide.{dec_lt}
use borrow.Author.Tests.{clash}
use Rattle.std.specs.List.{AllByRecursion}
use Rattle.std.proofs.ByRecursion.{All-weaker}
use Rattle.std.proofs.lemmas.List.{length-map}
use Rattle.std.proofs.lemmas.Bool.Decides.{Decides-not}
use Rattle.weights.specs.Kinds.{Kind, Laws, Idempotent, AtMost, Gains, gains}
use Rattle.runs.specs.Nets.{Net, In, Distinct, IsRun, IsCircuit, Within}
use Rattle.runs.specs.Runs.{weigh, choice_over, runs_below, closed_runs, cell}
use Rattle.runs.specs.Gaining.{some_gains, SomeCircuitGains, NoCircuitGains, LeastAbove}
use Rattle.runs.proofs.Members.{all_in}
use Rattle.runs.proofs.Pigeonhole.{at_most}
use Rattle.runs.proofs.Order.{at_most_trans, first_at_most, second_at_most, choice_above, choice_least, shortened}
use Rattle.runs.proofs.Enumeration.{in_longer, in_runs, runs_are, closed_are}
use Rattle.runs.proofs.Cutting.{events, Cut, InnerCut, distinct_or_cut, events_below, long_cut, cut_length, short_run, short_length}

module _ (K : Kind) (L : Laws K) (I : Idempotent K) (net : Net) (w : ℕ → K.carrier) where
  -- a run or closed run does not gain
  abbrev Calm : List ℕ → Type 0
  Calm run = AtMost K (weigh K w run) K.start

  pub gains_says : (a : K.carrier) → Decides (gains K a) (Gains K a)
  gains_says a = Decides-not (K.equal (K.choice a K.start) K.start) (L.equal_says (K.choice a K.start) K.start)

  calm? : (run : List ℕ) → Dec (Calm run)
  calm? run = go (K.equal (K.choice (weigh K w run) K.start) K.start) (L.equal_says (K.choice (weigh K w run) K.start) K.start)
    where
      go : (t : Bool) → Decides t (Calm run) → Dec (Calm run)
      go true d = yes (d.0 refl)
      go false d = no (λ c. clash (d.1 c))

  -- a run weighs at most what it weighs without a closed part that does not gain
  less : (i j : ℕ) (run : List ℕ) (c : Cut net i j run) → Calm c.loop → AtMost K (weigh K w run) (weigh K w (c.before ++ c.after))
  less i j run c calm = subst (λ y. AtMost K (weigh K w y) (weigh K w (c.before ++ c.after))) (sym c.whole) (shortened K L I w c.before c.loop c.after calm)

  closed_calm : NoCircuitGains K net w → (k i : ℕ) (run : List ℕ) → length run ≤ k → IsRun net i i run → Calm run
  closed_calm none zero i [] le is = I K.start
  closed_calm none zero i (l ∷ run) le is = absurd (omega arith)
  closed_calm none (suc k) i [] le is = I K.start
  closed_calm none (suc k) i (l ∷ run) le is = go (closed_calm none k) (distinct_or_cut net (l ∷ run) i i is)
    where
      go : ((e : ℕ) (r : List ℕ) → length r ≤ k → IsRun net e e r → Calm r) → Distinct (events net (l ∷ run)) ⊎ InnerCut net i i (l ∷ run) → Calm (l ∷ run)
      go ih (inl d) = none i (l ∷ run) (is, omega arith, d)
      go ih (inr (c, more)) =
          let loop_calm : Calm c.loop = ih c.event c.loop (omega (arith, cut_length net i i (l ∷ run) c, more)) c.loop_run in
          let rest_calm : Calm (c.before ++ c.after) = ih i (c.before ++ c.after) (omega (arith, short_length net i i (l ∷ run) c)) (short_run net i i (l ∷ run) c) in
          at_most_trans K L I (weigh K w (l ∷ run)) (weigh K w (c.before ++ c.after)) K.start (less i i (l ∷ run) c loop_calm) rest_calm

  any_closed_calm : NoCircuitGains K net w → (i : ℕ) (run : List ℕ) → IsRun net i i run → Calm run
  any_closed_calm none i run is = closed_calm none (length run) i run (omega arith) is

  -- a closed run that gains has a circuit that does
  circuit_in : (k i : ℕ) (run : List ℕ) → length run ≤ k → IsRun net i i run → Gains K (weigh K w run) → SomeCircuitGains K net w
  circuit_in zero i [] le is gain = absurd (gain (I K.start))
  circuit_in zero i (l ∷ run) le is gain = absurd (omega arith)
  circuit_in (suc k) i [] le is gain = absurd (gain (I K.start))
  circuit_in (suc k) i (l ∷ run) le is gain = go (circuit_in k) (distinct_or_cut net (l ∷ run) i i is)
    where
      by : ((e : ℕ) (r : List ℕ) → length r ≤ k → IsRun net e e r → Gains K (weigh K w r) → SomeCircuitGains K net w) → (c : Cut net i i (l ∷ run)) → 0 < length c.after → Dec (Calm c.loop) → SomeCircuitGains K net w
      by ih c more (yes calm) = ih i (c.before ++ c.after) (omega (arith, short_length net i i (l ∷ run) c)) (short_run net i i (l ∷ run) c) (λ rest. gain (at_most_trans K L I (weigh K w (l ∷ run)) (weigh K w (c.before ++ c.after)) K.start (less i i (l ∷ run) c calm) rest))
      by ih c more (no loop_gains) = ih c.event c.loop (omega (arith, cut_length net i i (l ∷ run) c, more)) c.loop_run loop_gains

      go : ((e : ℕ) (r : List ℕ) → length r ≤ k → IsRun net e e r → Gains K (weigh K w r) → SomeCircuitGains K net w) → Distinct (events net (l ∷ run)) ⊎ InnerCut net i i (l ∷ run) → SomeCircuitGains K net w
      go ih (inl d) = (i, l ∷ run, (is, omega arith, d), gain)
      go ih (inr (c, more)) = by ih c more (calm? c.loop)

  -- a circuit is among the closed runs of 1 to n links
  circuit_closed : (n : ℕ) → Within n net → (i : ℕ) (run : List ℕ) → IsCircuit net i run → (i < n) × In run (closed_runs net n i)
  circuit_closed n b i [] c = absurd (omega (arith, c.1))
  circuit_closed n b i (l ∷ run) c =
      let few : length (events net (l ∷ run)) ≤ n = at_most n (events net (l ∷ run)) c.2 (λ x. events_below net n b i i x (l ∷ run) c.0) in
      let short : length run < n = omega (arith, length-map (l ∷ run) net.from) in
      let first : i < n = subst (λ y. y < n) c.0.1 (b l c.0.0).0 in
      (first, in_longer net (λ e. runs_below net n e i) i l run net.links c.0.0 c.0.1 (in_runs net n (net.to l) i run c.0.2 short))

  -- what some run of a list does, and what none does
  one_gains : (runs : List (List ℕ)) → some_gains K w runs ≡ true → (run : List ℕ) × In run runs × Gains K (weigh K w run)
  one_gains [] e = absurd (let z : ◌≡◌ {A = ℕ} 0 1 = cc in omega arith)
  one_gains (run ∷ runs) e = go (one_gains runs) (gains K (weigh K w run)) (gains_says (weigh K w run)).0 e
    where
      go : (some_gains K w runs ≡ true → (r : List ℕ) × In r runs × Gains K (weigh K w r)) → (t : Bool) → (t ≡ true → Gains K (weigh K w run)) → (t || some_gains K w runs) ≡ true → (r : List ℕ) × In r (run ∷ runs) × Gains K (weigh K w r)
      go ih true says e = (run, inl refl, says refl)
      go ih false says e = let t = ih e in (t.0, inr t.1, t.2)

  all_calm : (runs : List (List ℕ)) → some_gains K w runs ≡ false → AllByRecursion Calm runs
  all_calm [] e = tt
  all_calm (run ∷ runs) e = go (all_calm runs) (K.equal (K.choice (weigh K w run) K.start) K.start) (L.equal_says (K.choice (weigh K w run) K.start) K.start).0 e
    where
      go : (some_gains K w runs ≡ false → AllByRecursion Calm runs) → (t : Bool) → (t ≡ true → Calm run) → (not t || some_gains K w runs) ≡ false → AllByRecursion Calm (run ∷ runs)
      go ih true says e = (says refl, ih e)
      go ih false says e = absurd (let z : ◌≡◌ {A = ℕ} 0 1 = cc in omega arith)

  calm_none_gains : (runs : List (List ℕ)) → AllByRecursion Calm runs → some_gains K w runs ≡ false
  calm_none_gains [] h = refl
  calm_none_gains (run ∷ runs) h = ap (λ t. not t || some_gains K w runs) ((L.equal_says (K.choice (weigh K w run) K.start) K.start).1 h.0) ∙ calm_none_gains runs h.1

  over_calm : (runs : List (List ℕ)) → AtMost K (choice_over K w runs) K.start → AllByRecursion Calm runs
  over_calm [] h = tt
  over_calm (run ∷ runs) h = (
    at_most_trans K L I (weigh K w run) (choice_over K w (run ∷ runs)) K.start (first_at_most K L I (weigh K w run) (choice_over K w runs)) h,
    over_calm runs (at_most_trans K L I (choice_over K w runs) (choice_over K w (run ∷ runs)) K.start (second_at_most K L I (weigh K w run) (choice_over K w runs)) h),
  )

  -- the choice over some runs gains exactly when one of them does
  pub gains_over : (runs : List (List ℕ)) (v : K.carrier) → v ≡ choice_over K w runs → gains K v ≡ some_gains K w runs
  gains_over runs v e = go (K.equal (K.choice v K.start) K.start) (some_gains K w runs) refl (L.equal_says (K.choice v K.start) K.start)
    where
      calm : AtMost K v K.start → AllByRecursion Calm runs
      calm h = over_calm runs (subst (λ y. AtMost K y K.start) e h)

      over : AllByRecursion Calm runs → AtMost K v K.start
      over h = subst (λ y. AtMost K y K.start) (sym e) (choice_least K L I w runs K.start h)

      go : (t s : Bool) → some_gains K w runs ≡ s → Decides t (AtMost K v K.start) → not t ≡ s
      go true s is d = sym (calm_none_gains runs (calm (d.0 refl))) ∙ is
      go false true is d = refl
      go false false is d = absurd (clash (d.1 (over (all_calm runs is))))

  pub gaining_circuit : (n j : ℕ) → some_gains K w (closed_runs net n j) ≡ true → SomeCircuitGains K net w
  gaining_circuit n j e = let t = one_gains (closed_runs net n j) e in circuit_in (length t.0) j t.0 (omega arith) (all_in (IsRun net j j) t.0 (closed_runs net n j) (closed_are net n j) t.1) t.2

  pub no_gaining_circuit : (n : ℕ) → Within n net → ((j : ℕ) → j < n → some_gains K w (closed_runs net n j) ≡ false) → NoCircuitGains K net w
  no_gaining_circuit n b none i run c =
      let t : (i < n) × In run (closed_runs net n i) = circuit_closed n b i run c in
      all_in Calm run (closed_runs net n i) (all_calm (closed_runs net n i) (none i t.0)) t.1

  pub none_gains_closed : NoCircuitGains K net w → (n j : ℕ) → some_gains K w (closed_runs net n j) ≡ false
  none_gains_closed none n j = calm_none_gains (closed_runs net n j) (All-weaker (IsRun net j j) Calm (any_closed_calm none j) (closed_runs net n j) (closed_are net n j))

  -- where no circuit gains
  module _ (none : NoCircuitGains K net w) (n : ℕ) where
    short_under : (i j : ℕ) (run : List ℕ) → IsRun net i j run → length run < n → AtMost K (weigh K w run) (cell K net w n i j)
    unfolding cell
    short_under i j run is short = choice_above K L I w run (runs_below net n i j) (in_runs net n i j run is short)

    all_under : Within n net → (k i j : ℕ) → j < n → (run : List ℕ) → length run ≤ k → IsRun net i j run → AtMost K (weigh K w run) (cell K net w n i j)
    all_under b zero i j hj run le is = short_under i j run is (omega arith)
    all_under b (suc k) i j hj run le is = go (all_under b k i j hj) (dec_lt (length run) n)
      where
        go : ((r : List ℕ) → length r ≤ k → IsRun net i j r → AtMost K (weigh K w r) (cell K net w n i j)) → Dec (length run < n) → AtMost K (weigh K w run) (cell K net w n i j)
        go ih (yes short) = short_under i j run is short
        go ih (no long) =
            let c : Cut net i j run = long_cut net n b i j hj run is (omega arith) in
            at_most_trans K L I (weigh K w run) (weigh K w (c.before ++ c.after)) (cell K net w n i j) (less i j run c (any_closed_calm none c.event c.loop c.loop_run))
            (ih (c.before ++ c.after) (omega (arith, short_length net i j run c)) (short_run net i j run c))

    cell_least : (i j : ℕ) (u : K.carrier) → ((run : List ℕ) → IsRun net i j run → AtMost K (weigh K w run) u) → AtMost K (cell K net w n i j) u
    unfolding cell
    cell_least i j u f = choice_least K L I w (runs_below net n i j) u (All-weaker (IsRun net i j) (λ run. AtMost K (weigh K w run) u) f (runs_below net n i j) (runs_are net n i j))

    pub least_above : Within n net → (i j : ℕ) → j < n → LeastAbove K net w i j (cell K net w n i j)
    least_above b i j hj = record {
      above = λ run is. all_under b (length run) i j hj run (omega arith) is;
      least = cell_least i j;
    }
