-- On a weekday, the cell of the Days table says whether token-free constraints in force lead from one event to another: a run's
-- weight has the day exactly when each of its constraints is token-free and in force on it.
use Rattle.std.proofs.Common.{◌≡◌, ℕ, ◌+◌, ◌<◌, ◌≤◌, Bool, true, false, ◌||◌, List, [], ◌∷◌, map, length, get_or, sym, refl, ap, ◌∙◌, subst, inl, inr, arith}
use mathlib.Core.Path.{fun_ext}
use native.Mathlib.Decide.{dec_lt}
use borrow.Author.Tests.{clash}
use Rattle.std.specs.List.{range_with_len}
use Rattle.std.proofs.lemmas.List.{length-map, get_or-map, get_or_past}
use Rattle.weights.specs.DaysKind.{Weekday, days_kind}
use Rattle.weights.specs.DaysLaws.{days_laws, days_idempotent}
use Rattle.runs.specs.Nets.{Net, In, IsRun}
use Rattle.runs.specs.Runs.{weigh, choice_over, runs_below, cell}
use Rattle.runs.specs.Gaining.{NoCircuitGains}
use Rattle.runs.specs.Links.{no_link, net_of}
use Rattle.runs.proofs.Members.{in_counting, counting_in, kept_in, in_kept, all_in}
use Rattle.runs.proofs.Enumeration.{runs_are}
use Rattle.runs.proofs.Searches.{and_both, and_first, and_second}
use Rattle.runs.proofs.Tables.{links_within}
use Rattle.runs.proofs.Theorem.{least_above}
use Rattle.timetable.specs.declared.Constraint.{Constraint}
use Rattle.timetable.specs.Words.{no_constraint, row_at, link_of, free_on, free_net}
use Rattle.board.specs.Circuits.{free_at, days_between}
use Rattle.board.specs.Invariant.{all_in_range}
use Rattle.board.proofs.DaysTable.{links_below, free_at_is}

-- a number is a link of the free net exactly when its constraint is token-free and in force
pub free_link : (d : Weekday) (rows : List Constraint) (k : ℕ) → In k (free_net d rows).links → (k < length rows) × (free_on d (row_at rows k) ≡ true)
free_link d rows k h =
    let t = kept_in (λ n. free_on d (row_at rows n)) k (range_with_len 0 (length rows)) h in
    let lt : k < 0 + length rows = in_counting k 0 (length rows) t.0 in
    (omega arith, t.1)

pub link_free : (d : Weekday) (rows : List Constraint) (k : ℕ) → k < length rows → free_on d (row_at rows k) ≡ true → In k (free_net d rows).links
link_free d rows k h free = in_kept (λ n. free_on d (row_at rows n)) k (range_with_len 0 (length rows)) (counting_in k 0 (length rows) (omega arith) (omega arith)) free

module _ (d : Weekday) (rows : List Constraint) where
  abbrev all : Net
  all = net_of (map link_of rows)

  link_at : (k : ℕ) → get_or (map link_of rows) k no_link ≡ link_of (row_at rows k)
  link_at k = elim (dec_lt k (length rows)) [
    | yes h ↦ get_or-map link_of rows k no_constraint no_link h
    | no h ↦ let past : length (map link_of rows) ≤ k = rw length-map (omega arith) in let out : length rows ≤ k = omega arith in get_or_past (map link_of rows) k no_link past ∙ sym (ap link_of (get_or_past rows k no_constraint out))
  ]

  -- a run whose weight has the day is a run of free constraints
  free_from : (i j : ℕ) (run : List ℕ) → IsRun all i j run → weigh days_kind (free_at rows) run d ≡ true → IsRun (free_net d rows) i j run
  free_from i j [] is on = is
  free_from i j (k ∷ run) is on =
      let inside : k < 0 + length (map link_of rows) = in_counting k 0 (length (map link_of rows)) is.0 in
      let free : free_on d (row_at rows k) ≡ true = ap (λ f. f d) (sym (free_at_is rows k)) ∙ and_first (free_at rows k d) (weigh days_kind (free_at rows) run d) on in (
        link_free d rows k (omega (arith, length-map rows link_of)) free,
        ap (λ l. l.from) (sym (link_at k)) ∙ is.1,
        free_from (row_at rows k).to j run (subst (λ l. IsRun all l.to j run) (link_at k) is.2) (and_second (free_at rows k d) (weigh days_kind (free_at rows) run d) on),
      )

  free_to : (i j : ℕ) (run : List ℕ) → IsRun (free_net d rows) i j run → IsRun all i j run × (weigh days_kind (free_at rows) run d ≡ true)
  free_to i j [] is = (is, refl)
  free_to i j (k ∷ run) is =
      let t = free_link d rows k is.0 in
      let rest = free_to (row_at rows k).to j run is.2 in (
        (
          counting_in k 0 (length (map link_of rows)) (omega arith) (omega (arith, length-map rows link_of, t.0)),
          ap (λ l. l.from) (link_at k) ∙ is.1,
          subst (λ l. IsRun all l.to j run) (sym (link_at k)) rest.0,
        ),
        and_both (free_at rows k d) (weigh days_kind (free_at rows) run d) (ap (λ f. f d) (free_at_is rows k) ∙ t.1) rest.1,
      )

  -- the choice over some runs has the day exactly when one of them does
  one_on : (runs : List (List ℕ)) → choice_over days_kind (free_at rows) runs d ≡ true → (run : List ℕ) × In run runs × (weigh days_kind (free_at rows) run d ≡ true)
  one_on [] e = absurd (clash e)
  one_on (run ∷ runs) e = go (one_on runs) (weigh days_kind (free_at rows) run d) refl e
    where
      go : (choice_over days_kind (free_at rows) runs d ≡ true → (r : List ℕ) × In r runs × (weigh days_kind (free_at rows) r d ≡ true)) → (t : Bool) → weigh days_kind (free_at rows) run d ≡ t → (t || choice_over days_kind (free_at rows) runs d) ≡ true → (r : List ℕ) × In r (run ∷ runs) × (weigh days_kind (free_at rows) r d ≡ true)
      go ih true is e = (run, inl refl, is)
      go ih false is e = let t = ih e in (t.0, inr t.1, t.2)

  pub between_run : (n i j : ℕ) → days_between n rows i j d ≡ true → (run : List ℕ) × IsRun (free_net d rows) i j run
  unfolding cell
  between_run n i j e =
      let t = one_on (runs_below all n i j) e in
      (t.0, free_from i j t.0 (all_in (IsRun all i j) t.0 (runs_below all n i j) (runs_are all n i j) t.1) t.2)

  or_true : (b : Bool) → (b || true) ≡ true
  or_true true = refl
  or_true false = refl

  -- in Days nothing gains
  days_calm : NoCircuitGains days_kind all (free_at rows)
  days_calm i run c = fun_ext (λ day. or_true (weigh days_kind (free_at rows) run day))

  or_left : (a b : Bool) → a ≡ true → (a || b) ≡ b → b ≡ true
  or_left true b p e = sym e
  or_left false b p e = absurd (clash p)

  pub run_between : (n i j : ℕ) (run : List ℕ) → all_in_range n rows ≡ true → j < n → IsRun (free_net d rows) i j run → days_between n rows i j d ≡ true
  run_between n i j run range hj is =
      let t = free_to i j run is in
      let above = (least_above days_kind days_laws days_idempotent all (free_at rows) days_calm n (links_within n (map link_of rows) (links_below n rows range)) i j hj).above run t.0 in
      or_left (weigh days_kind (free_at rows) run d) (days_between n rows i j d) t.1 (ap (λ f. f d) above)
