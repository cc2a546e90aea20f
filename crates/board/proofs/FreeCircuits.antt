-- A new constraint closes a token-free circuit on a day exactly when, on that day, it is token-free and free constraints lead from
-- its second event back to its first.
-- From a run back, a simple one is cut, and the new constraint in front of it makes a circuit. From a circuit through the new
-- constraint, what follows it and what goes before it make a run back; the new one is not met again there, since a circuit meets
-- its first event once.
use Rattle.std.proofs.Common.{◌≡◌, ℕ, ◌+◌, ◌<◌, true, ◌⊎◌, List, [], ◌∷◌, ◌++◌, map, length, sym, refl, ap, ◌∙◌, subst, inl, inr, ⊎_elim, arith}
use lib.Seq.{get_or-append_seam}
use Rattle.std.proofs.lemmas.List.{length-append, map-append, get_or_append_left}
use Rattle.weights.specs.DaysKind.{Weekday}
use Rattle.runs.specs.Nets.{Net, In, Distinct, IsRun, IsCircuit}
use Rattle.runs.proofs.Members.{in_left, in_right, in_map}
use Rattle.runs.proofs.Cutting.{Simple, simple_run, Around, around, run_append}
use Rattle.timetable.specs.declared.Constraint.{Constraint}
use Rattle.timetable.specs.Words.{no_constraint, row_at, free_on, free_net}
use Rattle.board.proofs.FreeRuns.{free_link, link_free}

-- the elements of two lists, one behind the other
in_append : {X : Type 0} (x : X) (xs ys : List X) → In x (xs ++ ys) → In x xs ⊎ In x ys
in_append x [] ys h = inr h
in_append x (y ∷ xs) ys (inl e) = inl (inl e)
in_append x (y ∷ xs) ys (inr h) = ⊎_elim (λ m. inl (inr m)) inr (in_append x xs ys h)

-- an element between two lists of distinct elements stands in neither
distinct_apart : {X : Type 0} (x : X) (xs ys : List X) → Distinct (xs ++ x ∷ ys) → In x (ys ++ xs) → ⊥
distinct_apart x [] ys d h = ⊎_elim d.0 (λ m. m) (in_append x ys [] h)
distinct_apart x (y ∷ xs) ys d h = ⊎_elim (λ m. distinct_apart x xs ys d.1 (in_left x ys xs m)) (⊎_elim (λ e. d.0 (subst (λ z. In z (xs ++ x ∷ ys)) e (in_right x xs (x ∷ ys) (inl refl)))) (λ m. distinct_apart x xs ys d.1 (in_right x ys xs m))) (in_append x ys (y ∷ xs) h)

module _ (d : Weekday) (rows : List Constraint) (new : Constraint) where
  abbrev more : List Constraint
  more = rows ++ new ∷ []

  abbrev old_net : Net
  old_net = free_net d rows

  abbrev new_net : Net
  new_net = free_net d more

  abbrev number : ℕ
  number = length rows

  -- the constraints before keep their numbers, and the new one has the next
  row_kept : (xs : List Constraint) (k : ℕ) → k < length xs → row_at (xs ++ new ∷ []) k ≡ row_at xs k
  row_kept xs k h = get_or_append_left xs (new ∷ []) no_constraint k h

  row_new : row_at more number ≡ new
  row_new = get_or-append_seam rows new [] no_constraint

  longer : length more ≡ number + 1
  longer = length-append rows (new ∷ [])

  -- a run that does not use the new constraint is one of the old net
  to_old : (i j : ℕ) (run : List ℕ) → (In number run → ⊥) → IsRun new_net i j run → IsRun old_net i j run
  to_old i j [] without is = is
  to_old i j (k ∷ run) without is =
      let t = free_link d more k is.0 in
      let ne : k ≡ number → ⊥ = λ e. without (inl (sym e)) in
      let lt : k < number = omega (arith, t.0, longer) in
      let same : row_at more k ≡ row_at rows k = row_kept rows k lt in (
        link_free d rows k lt (ap (free_on d) (sym same) ∙ t.1),
        ap (λ c. c.from) (sym same) ∙ is.1,
        to_old (row_at rows k).to j run (λ m. without (inr m)) (subst (λ c. IsRun new_net c.to j run) same is.2),
      )

  to_new : (i j : ℕ) (run : List ℕ) → IsRun old_net i j run → IsRun new_net i j run
  to_new i j [] is = is
  to_new i j (k ∷ run) is =
      let t = free_link d rows k is.0 in
      let same : row_at more k ≡ row_at rows k = row_kept rows k t.0 in (
        link_free d more k (omega (arith, t.0, longer)) (ap (free_on d) same ∙ t.1),
        ap (λ c. c.from) same ∙ is.1,
        subst (λ c. IsRun new_net c.to j run) (sym same) (to_new (row_at rows k).to j run is.2),
      )

  -- the events that a run of the old net meets are the same in the new one
  same_events : (i j : ℕ) (run : List ℕ) → IsRun old_net i j run → map new_net.from run ≡ map old_net.from run
  same_events i j [] is = refl
  same_events i j (k ∷ run) is =
      let t = free_link d rows k is.0 in
      ap (λ c. c.from ∷ map new_net.from run) (row_kept rows k t.0) ∙ ap (λ es. (row_at rows k).from ∷ es) (same_events (row_at rows k).to j run is.2)

  pub circuit_from_run : free_on d new ≡ true → (run : List ℕ) → IsRun old_net new.to new.from run → (i : ℕ) × (circuit : List ℕ) × IsCircuit new_net i circuit × In number circuit
  circuit_from_run free run is =
      let s : Simple old_net new.to new.from = simple_run old_net new.to new.from run is in
      let events = same_events new.to new.from s.run s.is_run in
      let first : (row_at more number).from ≡ new.from = ap (λ c. c.from) row_new in (
        new.from,
        number ∷ s.run,
        (
          (
            link_free d more number (omega (arith, longer)) (ap (free_on d) row_new ∙ free),
            first,
            subst (λ c. IsRun new_net c.to new.from s.run) (sym row_new) (to_new new.to new.from s.run s.is_run),
          ),
          omega arith,
          (
            (λ h. s.once (subst (λ es. In new.from es) events (subst (λ e. In e (map new_net.from s.run)) first h))),
            subst Distinct (sym events) s.apart,
          ),
        ),
        inl refl,
      )

  pub run_from_circuit : (i : ℕ) (circuit : List ℕ) → IsCircuit new_net i circuit → In number circuit → (free_on d new ≡ true) × ((run : List ℕ) × IsRun old_net new.to new.from run)
  run_from_circuit i circuit c h =
      let t : Around new_net i i number circuit = around new_net i i number circuit h c.0 in
      let whole : IsRun new_net (row_at more number).to (row_at more number).from (t.after ++ t.before) = run_append new_net (row_at more number).to i (row_at more number).from t.after t.before t.after_run t.before_run in
      let apart : Distinct (map new_net.from t.before ++ (row_at more number).from ∷ map new_net.from t.after) = subst Distinct (ap (map new_net.from) t.whole ∙ map-append new_net.from t.before (number ∷ t.after)) c.2 in
      let without : In number (t.after ++ t.before) → ⊥ = λ m. distinct_apart (row_at more number).from (map new_net.from t.before) (map new_net.from t.after) apart
      (subst (λ es. In (row_at more number).from es) (map-append new_net.from t.after t.before) (in_map new_net.from number (t.after ++ t.before) m)) in (
        ap (free_on d) (sym row_new) ∙ (free_link d more number (link_of_circuit i i circuit h c.0)).1,
        (
          t.after ++ t.before,
          subst (λ r. IsRun old_net r.to r.from (t.after ++ t.before)) row_new (to_old (row_at more number).to (row_at more number).from (t.after ++ t.before) without whole),
        ),
      )
    where
      link_of_circuit : (s e : ℕ) (run : List ℕ) → In number run → IsRun new_net s e run → In number new_net.links
      link_of_circuit s e [] m is = absurd m
      link_of_circuit s e (k ∷ run) (inl same) is = subst (λ z. In z new_net.links) (sym same) is.0
      link_of_circuit s e (k ∷ run) (inr m) is = link_of_circuit (new_net.to k) e run m is.2

  -- a circuit of the new net that does not use the new constraint is one of the old net
  pub old_circuit : (i : ℕ) (circuit : List ℕ) → IsCircuit new_net i circuit → (In number circuit → ⊥) → IsCircuit old_net i circuit
  old_circuit i circuit c without =
      let is : IsRun old_net i i circuit = to_old i i circuit without c.0 in
      (is, c.1, subst Distinct (same_events i i circuit is) c.2)
