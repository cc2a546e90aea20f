-- A dismissal can't change what counts: the net of the constraints that count on a day, their slack, and so the recovery times, stay.
use Rattle.std.proofs.Common.{◌≡◌, ℕ, ◌*◌, ◌/◌, ◌%◌, Bool, ◌&&◌, List, map, length, get_or, ℤ, filter, Some, None, Option, unwrap_or, sym, refl, ap, subst, ◌∙◌, arith}
use mathlib.Core.Path.{fun_ext}
use Rattle.std.specs.List.{range_with_len}
use Rattle.runs.specs.Nets.{Net}
use Rattle.timetable.specs.declared.Constraint.{Constraint}
use Rattle.timetable.specs.declared.State.{State}
use Rattle.timetable.specs.declared.State.TheVariants.{Standing, Suspended, Withdrawn}
use Rattle.timetable.specs.declared.LedgerEvent.{LedgerEvent}
use Rattle.timetable.specs.declared.LedgerEvent.TheVariants.{Suspend, Restore, Dismiss, Withdraw}
use Rattle.timetable.specs.Words.{stands, has_day, counted, slack_of, row_at, counted_net}
use Rattle.timetable.specs.Changes.{state_after, moved, changed}
use Rattle.delays.specs.Recovery.{recovery, slack_at}
use Rattle.delays.specs.declared.Cell.{Cell}
use Rattle.delays.specs.Cells.{code, recoveries}
use Rattle.board.specs.Invariant.{KeptHolds}
use Rattle.board.specs.Ledger.{kept_through}
use Rattle.board.proofs.Changes.{length_changed, same_at}

still_stands : (state : State) → stands (unwrap_or (state_after state Dismiss) state) ≡ stands state
still_stands Standing = refl
still_stands Suspended = refl
still_stands Withdrawn = refl

still_counted : (day : ℕ) (c : Constraint) → counted day (moved Dismiss c) ≡ counted day c
still_counted day c = ap (λ b. b && has_day c.days day) (still_stands c.state)

net_made : (ℕ → Bool) → ℕ → (ℕ → ℕ) → (ℕ → ℕ) → Net
net_made passes len from to = record { links = filter passes (range_with_len 0 len); from = from; to = to }

pub net_dismissed : (day : ℕ) (rows : List Constraint) (k : ℕ) → counted_net day (changed (moved Dismiss) rows k) ≡ counted_net day rows
unfolding net_made
net_dismissed day rows k =
    let after : List Constraint = changed (moved Dismiss) rows k in
    let counts : (λ j. counted day (row_at after j)) ≡ (λ j. counted day (row_at rows j)) = fun_ext (λ j. same_at (λ x y. counted day y ≡ counted day x) (moved Dismiss) (λ x. refl) (still_counted day) rows k j) in
    let froms : (λ j. (row_at after j).from) ≡ (λ j. (row_at rows j).from) = fun_ext (λ j. same_at (λ x y. y.from ≡ x.from) (moved Dismiss) (λ x. refl) (λ x. refl) rows k j) in
    let tos : (λ j. (row_at after j).to) ≡ (λ j. (row_at rows j).to) = fun_ext (λ j. same_at (λ x y. y.to ≡ x.to) (moved Dismiss) (λ x. refl) (λ x. refl) rows k j) in
    ap (λ p. net_made p (length after) (λ j. (row_at after j).from) (λ j. (row_at after j).to)) counts
    ∙ (ap (λ n. net_made (λ j. counted day (row_at rows j)) n (λ j. (row_at after j).from) (λ j. (row_at after j).to)) (length_changed (moved Dismiss) rows k)
    ∙ (ap (λ f. net_made (λ j. counted day (row_at rows j)) (length rows) f (λ j. (row_at after j).to)) froms
    ∙ ap (λ t. net_made (λ j. counted day (row_at rows j)) (length rows) (λ j. (row_at rows j).from) t) tos))

slack_dismissed : (departures : List ℕ) (period : ℕ) (rows : List Constraint) (k : ℕ) → slack_at departures period (changed (moved Dismiss) rows k) ≡ slack_at departures period rows
slack_dismissed departures period rows k =
    let own : Constraint → ℤ = λ c. slack_of (get_or departures c.from 0) (get_or departures c.to 0) period c in
    fun_ext (λ j. same_at (λ x y. own y ≡ own x) (moved Dismiss) (λ x. refl) (λ x. refl) rows k j)

pub recoveries_dismissed : (day : ℕ) (departures : List ℕ) (period : ℕ) (rows : List Constraint) (k : ℕ) → recoveries day departures period (changed (moved Dismiss) rows k) ≡ recoveries day departures period rows
recoveries_dismissed day departures period rows k =
    let n : ℕ = length departures in
    let by : Net → (ℕ → ℤ) → List ℕ = λ net slack. map (λ j. code (recovery net slack n (j / n) (j % n))) (range_with_len 0 (n * n)) in
    ap (λ net. by net (slack_at departures period (changed (moved Dismiss) rows k))) (net_dismissed day rows k)
    ∙ ap (λ slack. by (counted_net day rows) slack) (slack_dismissed departures period rows k)

none_some : (day : ℕ) → None ≡ Some day → ⊥
none_some day is = let z : ◌≡◌ {A = ℕ} 0 1 = cc in omega arith

-- a kept table that stays current only where the event can't change what counts, is still right
held_moved : (event : LedgerEvent) (day : Option ℕ) (departures : List ℕ) (period : ℕ) (rows : List Constraint) (k : ℕ) (cells : List Cell) → KeptHolds day departures period rows cells → KeptHolds (kept_through event day) departures period (changed (moved event) rows k) cells
held_moved Dismiss day departures period rows k cells held = λ d is. held d is ∙ sym (recoveries_dismissed d departures period rows k)
held_moved Suspend day departures period rows k cells held = λ d is. absurd (none_some d is)
held_moved Restore day departures period rows k cells held = λ d is. absurd (none_some d is)
held_moved Withdraw day departures period rows k cells held = λ d is. absurd (none_some d is)

pub held_after : (event : LedgerEvent) (day day' : Option ℕ) (departures : List ℕ) (period : ℕ) (rows rows' : List Constraint) (k : ℕ) (cells : List Cell) → day' ≡ kept_through event day → rows' ≡ changed (moved event) rows k → KeptHolds day departures period rows cells → KeptHolds day' departures period rows' cells
held_after event day day' departures period rows rows' k cells stays same held =
    subst (λ d. KeptHolds d departures period rows' cells) (sym stays) (subst (λ x. KeptHolds (kept_through event day) departures period x cells) (sym same) (held_moved event day departures period rows k cells held))

-- a new board keeps none
pub none_kept : (event : LedgerEvent) (day : Option ℕ) → day ≡ None → kept_through event day ≡ None
none_kept Dismiss day none = none
none_kept Suspend day none = refl
none_kept Restore day none = refl
none_kept Withdraw day none = refl
