-- A change of one constraint that keeps its events, tokens and days, keeps it in range and revives nothing, keeps the board's invariant.
use Rattle.std.proofs.Common.{◌≡◌, ℕ, zero, suc, ◌≤◌, Bool, true, ◌&&◌, eqb, List, [], ◌∷◌, map, length, unwrap_or, sym, refl, ap, ◌∙◌, subst, arith}
use mathlib.Core.Path.{fun_ext}
use Rattle.std.proofs.lemmas.Bool.Decides.{nat_tests}
use Rattle.weights.specs.DaysKind.{Weekday, days_of}
use Rattle.runs.specs.Nets.{Distinct, IsRun}
use Rattle.runs.proofs.Searches.{and_both, and_first, and_second}
use Rattle.timetable.specs.declared.Constraint.{Constraint}
use Rattle.timetable.specs.declared.State.{State}
use Rattle.timetable.specs.declared.State.TheVariants.{Standing, Suspended, Withdrawn}
use Rattle.timetable.specs.declared.LedgerEvent.{LedgerEvent}
use Rattle.timetable.specs.Words.{live_state, row_at, free_on, free_net}
use Rattle.timetable.specs.Changes.{state_after, with_time, moved, changed}
use Rattle.board.specs.Circuits.{NoFreeCircuit}
use Rattle.board.specs.Invariant.{constraint_in_range, all_in_range}
use Rattle.board.proofs.FreeRuns.{free_link, link_free}

pub length_changed : (f : Constraint → Constraint) (rows : List Constraint) (k : ℕ) → length (changed f rows k) ≡ length rows
length_changed f [] k = refl
length_changed f (c ∷ rows) zero = refl
length_changed f (c ∷ rows) (suc k) = ap suc (length_changed f rows k)

-- what holds between each constraint and itself, and between each and the changed one, holds number by number
pub same_at : (P : Constraint → Constraint → Type 0) (f : Constraint → Constraint) → ((c : Constraint) → P c c) → ((c : Constraint) → P c (f c)) → (rows : List Constraint) (k j : ℕ) → P (row_at rows j) (row_at (changed f rows k) j)
same_at P f same new [] k j = same _
same_at P f same new (c ∷ rows) zero zero = new c
same_at P f same new (c ∷ rows) zero (suc j) = same _
same_at P f same new (c ∷ rows) (suc k) zero = same _
same_at P f same new (c ∷ rows) (suc k) (suc j) = same_at P f same new rows k j

-- a change that keeps each constraint in range
pub range_changed : (n : ℕ) (f : Constraint → Constraint) → ((c : Constraint) → constraint_in_range n c ≡ true → constraint_in_range n (f c) ≡ true) → (rows : List Constraint) (k : ℕ) → all_in_range n rows ≡ true → all_in_range n (changed f rows k) ≡ true
range_changed n f keeps [] k all = all
range_changed n f keeps (c ∷ rows) zero all = and_both _ _ (keeps c (and_first _ _ all)) (and_second (constraint_in_range n c) _ all)
range_changed n f keeps (c ∷ rows) (suc k) all = and_both _ _ (and_first _ _ all) (range_changed n f keeps rows k (and_second (constraint_in_range n c) _ all))

-- a change that moves no constraint and makes none token-free
pub sound_changed : (f : Constraint → Constraint) → ((c : Constraint) → (f c).from ≡ c.from) → ((c : Constraint) → (f c).to ≡ c.to) → ((d : Weekday) (c : Constraint) → free_on d (f c) ≡ true → free_on d c ≡ true) → (rows : List Constraint) (k : ℕ) → NoFreeCircuit rows → NoFreeCircuit (changed f rows k)
sound_changed f from to free rows k sound d i circuit c =
    sound d i circuit (run_back i i circuit c.0, c.1, subst (λ g. Distinct (map g circuit)) (fun_ext from_at) c.2)
  where
    from_at : (j : ℕ) → (row_at (changed f rows k) j).from ≡ (row_at rows j).from
    from_at j = same_at (λ x y. y.from ≡ x.from) f (λ x. refl) from rows k j

    to_at : (j : ℕ) → (row_at (changed f rows k) j).to ≡ (row_at rows j).to
    to_at j = same_at (λ x y. y.to ≡ x.to) f (λ x. refl) to rows k j

    free_at : (j : ℕ) → free_on d (row_at (changed f rows k) j) ≡ true → free_on d (row_at rows j) ≡ true
    free_at j = same_at (λ x y. free_on d y ≡ true → free_on d x ≡ true) f (λ x e. e) (free d) rows k j

    run_back : (a b : ℕ) (run : List ℕ) → IsRun (free_net d (changed f rows k)) a b run → IsRun (free_net d rows) a b run
    run_back a b [] is = is
    run_back a b (j ∷ run) is =
        let t = free_link d (changed f rows k) j is.0 in (
          link_free d rows j (omega (arith, t.0, length_changed f rows k)) (free_at j t.1),
          sym (from_at j) ∙ is.1,
          subst (λ e. IsRun (free_net d rows) e b run) (to_at j) (run_back (row_at (changed f rows k) j).to b run is.2),
        )

-- another time within its bound
pub range_retimed : (n time : ℕ) → time ≤ 14400 → (rows : List Constraint) (k : ℕ) → all_in_range n rows ≡ true → all_in_range n (changed (λ c. with_time c time) rows k) ≡ true
range_retimed n time small rows k all = range_changed n (λ c. with_time c time) (λ c e. grind (arith, nat_tests)) rows k all

pub sound_retimed : (time : ℕ) (rows : List Constraint) (k : ℕ) → NoFreeCircuit rows → NoFreeCircuit (changed (λ c. with_time c time) rows k)
sound_retimed time rows k sound = sound_changed (λ c. with_time c time) (λ c. refl) (λ c. refl) (λ d c e. e) rows k sound

-- an event keeps the ranges, and revives no constraint
pub range_moved : (n : ℕ) (event : LedgerEvent) (rows : List Constraint) (k : ℕ) → all_in_range n rows ≡ true → all_in_range n (changed (moved event) rows k) ≡ true
range_moved n event rows k all = range_changed n (moved event) (λ c e. e) rows k all

no_revival : (state : State) (event : LedgerEvent) → live_state (unwrap_or (state_after state event) state) ≡ true → live_state state ≡ true
no_revival Standing event e = refl
no_revival Suspended event e = refl
no_revival Withdrawn event e = e

pub sound_moved : (event : LedgerEvent) (rows : List Constraint) (k : ℕ) → NoFreeCircuit rows → NoFreeCircuit (changed (moved event) rows k)
sound_moved event rows k sound = sound_changed (moved event) (λ c. refl) (λ c. refl) free rows k sound
  where
    free : (d : Weekday) (c : Constraint) → free_on d (moved event c) ≡ true → free_on d c ≡ true
    free d c e =
        let rest : Bool = eqb c.tokens 0 && days_of c.days d in
        and_both (live_state c.state) rest (no_revival c.state event (and_first (live_state (unwrap_or (state_after c.state event) c.state)) rest e)) (and_second (live_state (unwrap_or (state_after c.state event) c.state)) rest e)
