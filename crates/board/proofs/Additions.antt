-- An addition that passes every test is in range and keeps the board sound; and it closes a circuit exactly when the Days table
-- says so.
use Rattle.std.proofs.Common.{◌≡◌, ℕ, ◌<◌, ◌≤◌, Bool, true, false, not, ◌&&◌, eqb, ltb, leb, ◌↔◌, List, [], ◌∷◌, ◌++◌, length, is_some, Some, None, Option, sym, refl, ap, ◌∙◌, arith}
use Rattle.std.specs.Option.{ForSome}
use borrow.Author.Tests.{clash}
use Rattle.std.proofs.lemmas.Bool.Decides.{nat_tests}
use Rattle.faults.specs.Causes.{unless}
use Rattle.faults.proofs.Refusals.{unless_none}
use Rattle.weights.specs.DaysKind.{Weekday, days_of, some_weekday}
use Rattle.weights.specs.DaysLaws.{some_day, some_from_day}
use Rattle.runs.specs.Nets.{In, IsCircuit}
use Rattle.runs.proofs.Members.{in?}
use Rattle.runs.proofs.Searches.{and_both, and_first, and_second}
use Rattle.timetable.specs.declared.Addition.{Addition}
use Rattle.timetable.specs.declared.Constraint.{Constraint}
use Rattle.timetable.specs.Words.{letter_of, free_net}
use Rattle.board.specs.declared.fault.BoardFault.{BoardFault}
use Rattle.board.specs.declared.fault.BoardFault.TheVariants.{Event, Time, Tokens, Days, Letter, Full, Circuit}
use Rattle.board_file.specs.declared.OpeningRecord.{OpeningRecord}
use Rattle.board.specs.Holding.{held_by, ledger_with}
use Rattle.board.specs.Circuits.{NoFreeCircuit, days_between, closes_circuit, FreeCircuitThrough}
use Rattle.board.specs.Invariant.{constraint_in_range, all_in_range}
use Rattle.board.specs.Ledger.{Held, holding, constraint_of, early_add_fault, add_fault, CircuitLaw}
use Rattle.board.proofs.FreeRuns.{between_run, run_between}
use Rattle.board.proofs.FreeCircuits.{circuit_from_run, run_from_circuit, old_circuit}

-- every test before the circuits passed
pub record Passed (events count : ℕ) (a : Addition) : Type 0 where
  pub from : a.from < events
  pub to : a.to < events
  pub time : a.time ≤ 14400
  pub tokens : a.tokens ≤ 7
  pub some_days : 1 ≤ a.days
  pub days : a.days ≤ 127
  pub letter : is_some (letter_of a.letter) ≡ true
  pub room : count < 128

-- the tests themselves
record Tests (events count : ℕ) (a : Addition) : Type 0 where
  events_test : (ltb a.from events && ltb a.to events) ≡ true
  time_test : leb a.time 14400 ≡ true
  tokens_test : leb a.tokens 7 ≡ true
  days_test : (leb 1 a.days && leb a.days 127) ≡ true
  letter_test : is_some (letter_of a.letter) ≡ true
  room_test : ltb count 128 ≡ true

tests : (events count : ℕ) (a : Addition) → early_add_fault events count a None ≡ None → Tests events count a
tests events count a e =
    let e1 = unless_none (ltb a.from events && ltb a.to events) Event _ e in
    let e2 = unless_none (leb a.time 14400) Time _ e1.1 in
    let e3 = unless_none (leb a.tokens 7) Tokens _ e2.1 in
    let e4 = unless_none (leb 1 a.days && leb a.days 127) Days _ e3.1 in
    let e5 = unless_none (is_some (letter_of a.letter)) Letter _ e4.1 in
    let e6 = unless_none (ltb count 128) Full None e5.1 in
    record { events_test = e1.0; time_test = e2.0; tokens_test = e3.0; days_test = e4.0; letter_test = e5.0; room_test = e6.0 }

pub passed : (events count : ℕ) (a : Addition) → early_add_fault events count a None ≡ None → Passed events count a
passed events count a e =
    let t = tests events count a e in
    let t1 = t.events_test in
    let t2 = t.time_test in
    let t3 = t.tokens_test in
    let t4 = t.days_test in
    let t6 = t.room_test in
    record {
      from = grind (arith, nat_tests);
      to = grind (arith, nat_tests);
      time = grind (arith, nat_tests);
      tokens = grind (arith, nat_tests);
      some_days = grind (arith, nat_tests);
      days = grind (arith, nat_tests);
      letter = t.letter_test;
      room = grind (arith, nat_tests);
    }

-- with the tests before it passed, the fault is the circuits'
pub only_circuits : (events count : ℕ) (a : Addition) (next : Option BoardFault) → early_add_fault events count a None ≡ None → early_add_fault events count a next ≡ next
only_circuits events count a next e =
    let t = tests events count a e in
    rw (t.events_test, t.time_test, t.tokens_test, t.days_test, t.letter_test, t.room_test)

-- the range of the constraint that an addition makes
pub passed_in_range : (events count : ℕ) (a : Addition) → Passed events count a → constraint_in_range events (constraint_of a) ≡ true
passed_in_range events count a p =
    let h1 = p.from in
    let h2 = p.to in
    let h3 = p.time in
    let h4 = p.tokens in
    let h5 = p.some_days in
    let h6 = p.days in
    grind (arith, nat_tests)

pub range_more : (events : ℕ) (rows : List Constraint) (c : Constraint) → all_in_range events rows ≡ true → constraint_in_range events c ≡ true → all_in_range events (rows ++ c ∷ []) ≡ true
range_more events [] c all one = ap (λ t. t && true) one
range_more events (x ∷ rows) c all one = go (λ rest. range_more events rows c rest one) (constraint_in_range events x) refl all
  where
    go : (all_in_range events rows ≡ true → all_in_range events (rows ++ c ∷ []) ≡ true) → (t : Bool) → constraint_in_range events x ≡ t → (t && all_in_range events rows) ≡ true → (constraint_in_range events x && all_in_range events (rows ++ c ∷ [])) ≡ true
    go ih true is rest = ap (λ t. t && all_in_range events (rows ++ c ∷ [])) is ∙ ih rest
    go ih false is rest = absurd (clash rest)

module _ (n : ℕ) (rows : List Constraint) (a : Addition) (range : all_in_range n rows ≡ true) (from : a.from < n) where
  -- the new constraint is token-free on a day exactly when it has no token and the day
  abbrev back : Weekday → Bool
  back d = days_of a.days d && days_between n rows a.to a.from d

  pub closes_so : closes_circuit n rows a ≡ true → FreeCircuitThrough rows (constraint_of a)
  closes_so e =
      let token_free = and_first (eqb a.tokens 0) (some_weekday back) e in
      let t = some_day back (and_second (eqb a.tokens 0) (some_weekday back) e) in
      let on = and_first (days_of a.days t.0) (days_between n rows a.to a.from t.0) t.1 in
      let run = between_run t.0 rows n a.to a.from (and_second (days_of a.days t.0) (days_between n rows a.to a.from t.0) t.1) in
      let c = circuit_from_run t.0 rows (constraint_of a) (and_both (eqb a.tokens 0) (days_of a.days t.0) token_free on) run.0 run.1 in
      (t.0, c.0, c.1, c.2, c.3)

  closes_from : (d : Weekday) (i : ℕ) (circuit : List ℕ) → IsCircuit (free_net d (rows ++ constraint_of a ∷ [])) i circuit → In (length rows) circuit → closes_circuit n rows a ≡ true
  closes_from d i circuit c h =
      let t = run_from_circuit d rows (constraint_of a) i circuit c h in
      let token_free = and_first (eqb a.tokens 0) (days_of a.days d) t.0 in
      let on = and_second (eqb a.tokens 0) (days_of a.days d) t.0 in
      let leads = run_between d rows n a.to a.from t.1.0 range from t.1.1 in
      and_both (eqb a.tokens 0) (some_weekday back) token_free (some_from_day back d (and_both (days_of a.days d) (days_between n rows a.to a.from d) on leads))

  pub closes_iff : (closes_circuit n rows a ≡ true) ↔ FreeCircuitThrough rows (constraint_of a)
  closes_iff = (closes_so, λ t. closes_from t.0 t.1 t.2 t.3 t.4)

  -- an addition that closes no circuit keeps the board sound
  pub sound_more : closes_circuit n rows a ≡ false → NoFreeCircuit rows → NoFreeCircuit (rows ++ constraint_of a ∷ [])
  sound_more closed_none sound d i circuit c = go (in? (length rows) circuit)
    where
      go : Dec (In (length rows) circuit) → ⊥
      go (yes h) = clash (sym closed_none ∙ closes_from d i circuit c h)
      go (no h) = sound d i circuit (old_circuit d rows (constraint_of a) i circuit c h)

circuit_fault : (t : Bool) → (unless (not t) Circuit None ≡ Some Circuit) ↔ (t ≡ true)
circuit_fault true = (λ e. refl, λ e. refl)
circuit_fault false = (λ e. absurd (let z : ◌≡◌ {A = ℕ} 0 1 = cc in omega arith), λ e. absurd (clash e))

-- what the fault of an addition says of circuits, on a board whose constraints are in range
law_held : (h : Held) (a : Addition) → all_in_range h.events h.rows ≡ true → CircuitLaw (holding h) a (add_fault (holding h) a)
law_held h a range e =
    let p = passed h.events (length h.rows) a e in
    let closes = closes_iff h.events h.rows a range p.from in
    let only = only_circuits h.events (length h.rows) a (unless (not (closes_circuit h.events h.rows a)) Circuit None) e in
    let fault = circuit_fault (closes_circuit h.events h.rows a) in
    (λ refused. closes.0 (fault.0 (sym only ∙ refused)), λ through. only ∙ fault.1 (closes.1 through))

pub circuit_law : (opening : Option OpeningRecord) (departures : List ℕ) (rows : List Constraint) (a : Addition) → ForSome opening (λ o. all_in_range o.events rows ≡ true) → CircuitLaw (ledger_with opening departures rows) a (add_fault (ledger_with opening departures rows) a)
circuit_law (Some o) departures rows a range = law_held (held_by o departures rows) a (range o refl)
circuit_law None departures rows a range = tt
