-- The table of runs in Days is never refused where its lists are in order: no weight spans anything, and none gains, since all
-- seven days are at most all seven.
use Rattle.std.proofs.Common.{◌≡◌, ℕ, zero, suc, ◌+◌, ◌*◌, ◌<◌, ◌≤◌, Bool, true, false, not, ◌&&◌, ◌||◌, ltb, List, [], ◌∷◌, map, length, get_or, None, Result, sym, refl, ap, ◌∙◌, subst, take, replicate, mul-le-mul, arith}
use mathlib.Core.Path.{fun_ext}
use native.Mathlib.Decide.{dec_lt}
use Rattle.std.proofs.lemmas.List.{length-map, length-take-le, get_or-map, get_or_past}
use Rattle.std.proofs.lemmas.Bool.Decides.{nat_tests}
use Rattle.faults.specs.Causes.{unless}
use Rattle.weights.specs.Kinds.{gains}
use Rattle.weights.specs.DaysKind.{Weekday, days_kind}
use Rattle.weights.specs.DaysLaws.{days_laws}
use Rattle.runs.specs.declared.Link.{Link}
use Rattle.runs.specs.declared.TableFault.{TableFault}
use Rattle.runs.specs.declared.TableFault.TheVariants.{EventCount, Event, Length, Span}
use Rattle.runs.specs.Runs.{weigh, closed_runs, cell}
use Rattle.runs.specs.Gaining.{some_gains, found_or, lowest, gaining_event}
use Rattle.runs.specs.Links.{net_of, at}
use Rattle.runs.specs.Tables.{in_range, events_below, right_lengths, spans_at_most_one, gain_fault, table_fault, CellsAfter, Tabled}
use Rattle.runs.proofs.Searches.{and_first, and_second}
use Rattle.timetable.specs.declared.Constraint.{Constraint}
use Rattle.timetable.specs.Words.{row_at, no_constraint, link_of, free_days}
use Rattle.board.specs.Circuits.{free_at, days_between}
use Rattle.board.proofs.Openings.{range_few}
use Rattle.board.specs.Invariant.{constraint_in_range, all_in_range}

or_true : (b : Bool) → (b || true) ≡ true
or_true true = refl
or_true false = refl

no_gain : (a : Weekday → Bool) → gains days_kind a ≡ false
no_gain a = ap not ((days_laws.equal_says (λ d. a d || true) (λ d. true)).1 (fun_ext (λ d. or_true (a d))))

none_gains : (w : ℕ → Weekday → Bool) (runs : List (List ℕ)) → some_gains days_kind w runs ≡ false
none_gains w [] = refl
none_gains w (run ∷ runs) = ap (λ t. t || some_gains days_kind w runs) (no_gain (weigh days_kind w run)) ∙ none_gains w runs

lowest_none : (passes : ℕ → Bool) → ((j : ℕ) → passes j ≡ false) → (n : ℕ) → lowest passes n ≡ None
lowest_none passes fails zero = refl
lowest_none passes fails (suc n) = ap (λ o. found_or o (passes n) n) (lowest_none passes fails n) ∙ ap (λ t. found_or None t n) (fails n)

spans : {X : Type 0} (m : X → Weekday → Bool) (ws : List X) → spans_at_most_one days_kind m ws ≡ true
spans m [] = refl
spans m (w ∷ ws) = spans m ws

pub links_below : (n : ℕ) (rows : List Constraint) → all_in_range n rows ≡ true → events_below n (map link_of rows) ≡ true
links_below n [] e = refl
links_below n (c ∷ rows) e =
    let here : (ltb c.from n && ltb c.to n) ≡ true = and_first _ _ (and_first (constraint_in_range n c) (all_in_range n rows) e) in
    ap (λ t. t && events_below n (map link_of rows)) here ∙ links_below n rows (and_second (constraint_in_range n c) (all_in_range n rows) e)

pub days_table_accepted : {X : Type 0} (m : X → Weekday → Bool) (n : ℕ) (rows : List Constraint) (ls : List Link) (ws cells spare : List X) → in_range n ≡ true → all_in_range n rows ≡ true → ls ≡ map link_of rows
    → length rows ≤ 128 → length ws ≡ length rows → length cells ≡ n * n → length spare ≡ n → table_fault days_kind m n ls ws cells spare ≡ None
days_table_accepted m n rows ls ws cells spare range rows_in same few paired square side =
    let long : length ls ≡ length rows = ap length same ∙ length-map rows link_of in
    let below : events_below n ls ≡ true = ap (events_below n) same ∙ links_below n rows rows_in in
    let lengths : right_lengths n ls ws cells spare ≡ true = grind (arith, nat_tests) in
    let calm : gaining_event days_kind (net_of ls) (at days_kind m ws) n ≡ None = lowest_none (λ j. some_gains days_kind (at days_kind m ws) (closed_runs (net_of ls) n j)) (λ j. none_gains (at days_kind m ws) (closed_runs (net_of ls) n j)) n in
    ap (λ t. unless t EventCount (unless (events_below n ls) Event (unless (right_lengths n ls ws cells spare) Length (unless (spans_at_most_one days_kind m ws) Span (gain_fault (gaining_event days_kind (net_of ls) (at days_kind m ws) n)))))) range
    ∙ ap (λ t. unless t Event (unless (right_lengths n ls ws cells spare) Length (unless (spans_at_most_one days_kind m ws) Span (gain_fault (gaining_event days_kind (net_of ls) (at days_kind m ws) n))))) below
    ∙ ap (λ t. unless t Length (unless (spans_at_most_one days_kind m ws) Span (gain_fault (gaining_event days_kind (net_of ls) (at days_kind m ws) n)))) lengths
    ∙ ap (λ t. unless t Span (gain_fault (gaining_event days_kind (net_of ls) (at days_kind m ws) n))) (spans m ws)
    ∙ ap gain_fault calm

-- what is free at a number
pub free_at_is : (rows : List Constraint) (k : ℕ) → free_at rows k ≡ free_days (row_at rows k)
free_at_is rows k = elim (dec_lt k (length rows)) [
  | yes h ↦ get_or-map free_days rows k no_constraint days_kind.none h
  | no h ↦ let past : length (map free_days rows) ≤ k = rw length-map (omega arith) in let out : length rows ≤ k = omega arith in get_or_past (map free_days rows) k days_kind.none past ∙ sym (ap free_days (get_or_past rows k no_constraint out))
]

-- the table of the constraints' links and free days, in blank cells, is not refused
pub days_table_accepted_blank : {X : Type 0} (m : X → Weekday → Bool) (n : ℕ) (rows : List Constraint) (ls : List Link) (ws : List X) (blank : X) → in_range n ≡ true → all_in_range n rows ≡ true → length rows ≤ 128
    → ls ≡ map link_of rows → map m ws ≡ map free_days rows → table_fault days_kind m n ls ws (take (n * n) (replicate 1024 blank)) (take n (replicate 32 blank)) ≡ None
days_table_accepted_blank m n rows ls ws blank range rows_in few same days =
    let most : n ≤ 32 = range_few n range in
    let small : n * n ≤ 32 * 32 = mul-le-mul most most in
    days_table_accepted m n rows ls ws (take (n * n) (replicate 1024 blank)) (take n (replicate 32 blank)) range rows_in same few
    (sym (length-map ws m) ∙ ap length days ∙ length-map rows free_days)
    (length-take-le (n * n) (replicate 1024 blank) (omega (arith, small)))
    (length-take-le n (replicate 32 blank) (omega (arith, most)))

-- the table's cell, over the constraints themselves
pub cell_between : {X : Type 0} (m : X → Weekday → Bool) (n : ℕ) (rows : List Constraint) (ls : List Link) (ws cells spare cells' spare' : List X) (r : Result (Unit {0}) TableFault) (i j : ℕ) → ls ≡ map link_of rows → map m ws ≡ map free_days rows
    → table_fault days_kind m n ls ws cells spare ≡ None → Tabled days_kind m n ls ws cells spare (table_fault days_kind m n ls ws cells spare) cells' spare' r → i < n → j < n
    → at days_kind m cells' (i * n + j) ≡ days_between n rows i j
cell_between m n rows ls ws cells spare cells' spare' r i j same days accepted t hi hj =
    let held : CellsAfter days_kind m n ls ws cells spare cells' None = subst (CellsAfter days_kind m n ls ws cells spare cells') accepted t.cells_hold in
    held i j hi hj ∙ ap (λ l. cell days_kind (net_of l) (at days_kind m ws) n i j) same ∙ ap (λ l. cell days_kind (net_of (map link_of rows)) (λ k. get_or l k days_kind.none) n i j) days
