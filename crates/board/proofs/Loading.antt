-- Loading step by step on the plain ledger, as the board's calls leave it.
use Rattle.std.proofs.Common.{◌≡◌, ℕ, ◌+◌, ◌*◌, List, length, Some, None, Ok, Err, Result, sym, ap, subst, refl, ◌∙◌, arith}
use Rattle.faults.specs.Causes.{fault_of}
use Rattle.timetable.specs.declared.Addition.{Addition}
use Rattle.board_file.specs.declared.FrameFault.{FrameFault}
use Rattle.board_file.specs.declared.RecordFault.{RecordFault}
use Rattle.board_file.specs.declared.RecordFault.TheVariants.{Frame}
use Rattle.board_file.specs.declared.LoadFault.{LoadFault}
use Rattle.board_file.specs.declared.LoadFault.TheVariants.{Record, Judged}
use Rattle.board_file.specs.declared.OpeningRecord.{OpeningRecord}
use Rattle.board_file.specs.declared.Entry.TheVariants.{Add, End}
use Rattle.board_file.specs.Frames.{end_at}
use Rattle.board_file.specs.Records.{opening_at, departures_at, departures_reply, departures_after, entry_at}
use Rattle.board_file.specs.Loading.{and_then}
use Rattle.board_file.specs.Encodings.{Bytes}
use Rattle.board_file.proofs.Encoding.{loads_encodings}
use Rattle.board_file.proofs.Steps.{entries_refused, entries_judged, entries_more, entries_ended, entries_trailing, load_opening_refused, load_judged, load_departures_refused, load_begin_refused, load_begun}
use Rattle.board.specs.declared.fault.BoardFault.{BoardFault}
use Rattle.board.specs.Ledger.{Held, Ledger, nothing, holding, unless_refused, open_fault, opened_as, open_after, constraint_of, add_fault, grown, with_row, add_after}
use Rattle.board.specs.Loads.{unless_fault, judged_at, judged_at_opening, opened_by, performed_by, load_held, loaded_ledger, load_after, LoadLaw, entries_held, IfHolding, IsHolding, OpenedBy}

-- what stands behind an outcome at a place: a fault of the board, or none
pub judged_refused : {A : Type 0} (place : ℕ) (outcome : Result A BoardFault) (e : LoadFault BoardFault) → judged_at place outcome ≡ Err e → (f : BoardFault) × (Some f ≡ fault_of outcome) × (e ≡ Judged place f)
judged_refused place (Ok x) e is = cc
judged_refused place (Err f) e is = (f, refl, cc)

pub judged_accepted : {A : Type 0} (place : ℕ) (outcome : Result A BoardFault) (x : A) → judged_at place outcome ≡ Ok x → None ≡ fault_of outcome
judged_accepted place (Ok y) x is = refl
judged_accepted place (Err f) x is = cc

-- an addition that is accepted, and one that is refused
accepted_by : (h : Held) (a : Addition) → add_fault (holding h) a ≡ None → performed_by h a ≡ Ok (grown h (constraint_of a))
accepted_by h a e = ap (λ f. and_then (unless_fault f (grown h (constraint_of a))) (λ k. Ok k)) e

refused_by : (h : Held) (a : Addition) (f : BoardFault) → add_fault (holding h) a ≡ Some f → performed_by h a ≡ Err f
refused_by h a f e = ap (λ x. and_then (unless_fault x (grown h (constraint_of a))) (λ k. Ok k)) e

-- one entry at a place, by what stands there and what an addition is answered
module _ (bytes : List ℕ) (place : ℕ) where
  pub step_refused : (l : Ledger) (e : RecordFault) → entry_at bytes place ≡ Err e → IfHolding l (λ h. entries_held bytes place h ≡ Err (Record e))
  unfolding entries_held
  step_refused nothing e is = tt
  step_refused (holding h) e is = entries_refused performed_by bytes (length bytes) place h e (omega arith) is

  pub step_ended : (l : Ledger) → entry_at bytes place ≡ Ok End → end_at bytes (place + 3) ≡ Ok tt → IfHolding l (λ h. IsHolding l (λ g. entries_held bytes place h ≡ Ok g))
  unfolding entries_held
  step_ended nothing is ends = tt
  step_ended (holding h) is ends = entries_ended performed_by bytes (length bytes) place h (omega arith) is ends

  pub step_trailing : (l : Ledger) (e : FrameFault) → entry_at bytes place ≡ Ok End → end_at bytes (place + 3) ≡ Err e → IfHolding l (λ h. entries_held bytes place h ≡ Err (Record (Frame e)))
  unfolding entries_held
  step_trailing nothing e is ends = tt
  step_trailing (holding h) e is ends = entries_trailing performed_by bytes (length bytes) place h e (omega arith) is ends

  pub step_judged : (l : Ledger) (a : Addition) (f : BoardFault) → entry_at bytes place ≡ Ok (Add a) → Some f ≡ add_fault l a → IfHolding l (λ h. entries_held bytes place h ≡ Err (Judged place f))
  unfolding entries_held
  step_judged nothing a f is refused = tt
  step_judged (holding h) a f is refused = entries_judged performed_by bytes (length bytes) place h a f (omega arith) is (refused_by h a f (sym refused))

  pub step_added : (l after : Ledger) (a : Addition) → entry_at bytes place ≡ Ok (Add a) → None ≡ add_fault l a → after ≡ add_after l a → IfHolding l (λ h. IsHolding after (λ g. entries_held bytes place h ≡ entries_held bytes (place + 10) g))
  unfolding entries_held
  step_added nothing after a is accepted left = tt
  step_added (holding h) after a is accepted left =
      let same : after ≡ holding (grown h (constraint_of a)) = left ∙ ap (λ x. unless_refused x (with_row (holding h) (constraint_of a)) (holding h)) (sym accepted) in
      subst (λ l. IsHolding l (λ g. entries_held bytes place h ≡ entries_held bytes (place + 10) g)) (sym same)
      (entries_more performed_by bytes (length bytes) (length bytes) place h (grown h (constraint_of a)) a (omega arith) (omega arith) is (accepted_by h a (sym accepted)))

-- the opening with its departures
module _ (bytes : List ℕ) (o : OpeningRecord) where
  pub head_refused : (f : BoardFault) → Some f ≡ judged_at_opening o → opening_at bytes 0 ≡ Ok o → load_held bytes ≡ Err (Judged 0 f)
  unfolding load_held
  head_refused f judged first = load_judged judged_at_opening opened_by performed_by bytes o f first (sym judged)

  module _ (judged : None ≡ judged_at_opening o) where
    pub departures_refused : (e : RecordFault) → departures_at o.events bytes 10 ≡ Err e → opening_at bytes 0 ≡ Ok o → load_held bytes ≡ Err (Record e)
    unfolding load_held
    departures_refused e read first = load_departures_refused judged_at_opening opened_by performed_by bytes o e first (sym judged) read

    -- a new board refuses the opening
    pub opening_refused : (departures : List ℕ) (f : BoardFault) → departures_at o.events bytes 10 ≡ Ok departures → Some f ≡ open_fault nothing o.events o.period departures → opening_at bytes 0 ≡ Ok o → load_held bytes ≡ Err (Judged 10 f)
    unfolding load_held
    opening_refused departures f read refused first = load_begin_refused judged_at_opening opened_by performed_by bytes o departures f first (sym judged) read (ap (λ x. unless_fault x (opened_as o.mark o.events o.period departures)) (sym refused))

    -- a new board is opened
    pub opening_held : (departures : List ℕ) (after : Ledger) → departures_at o.events bytes 10 ≡ Ok departures → None ≡ open_fault nothing o.events o.period departures → after ≡ open_after nothing o.mark o.events o.period departures
        → IsHolding after (λ h. opening_at bytes 0 ≡ Ok o → load_held bytes ≡ entries_held bytes (13 + 4 * o.events) h)
    unfolding load_held entries_held
    opening_held departures after read accepted left =
        let opened : Held = opened_as o.mark o.events o.period departures in
        let same : after ≡ holding opened = left ∙ ap (λ x. unless_refused x (holding opened) nothing) (sym accepted) in
        subst (λ l. IsHolding l (λ h. opening_at bytes 0 ≡ Ok o → load_held bytes ≡ entries_held bytes (13 + 4 * o.events) h)) (sym same)
        (λ first. load_begun judged_at_opening opened_by performed_by bytes (length bytes) o departures opened first (sym judged) read (ap (λ x. unless_fault x opened) (sym accepted)) (omega arith))

    -- a new board's outcome of the opening
    pub opened_so : (departures : List ℕ) (after : Ledger) (outcome : Result (Unit {0}) BoardFault) → departures_at o.events bytes 10 ≡ Ok departures → fault_of outcome ≡ open_fault nothing o.events o.period departures
        → after ≡ open_after nothing o.mark o.events o.period departures → OpenedBy bytes o after (judged_at 10 outcome)
    opened_so departures after (Ok x) read reply left = opening_held departures after read reply left
    opened_so departures after (Err f) read reply left = opening_refused departures f read reply

-- what the reader of departures answered, by what it left in as many places as there are events
module _ (events : ℕ) (bytes before : List ℕ) where
  refused_so : (q : Result (List ℕ) RecordFault) (e : RecordFault) → Err e ≡ departures_reply q → q ≡ Err e
  refused_so (Ok ds) e is = absurd (let z : ◌≡◌ {A = ℕ} 0 1 = cc in omega arith)
  refused_so (Err f) e is = let same : f ≡ e = cc in ap (λ (x : RecordFault). Err x) same

  done_so : (q : Result (List ℕ) RecordFault) (departures : List ℕ) → Ok tt ≡ departures_reply q → departures ≡ departures_after q before → q ≡ Ok departures
  done_so (Ok ds) departures is left = ap (λ (x : List ℕ). Ok x) (sym left)
  done_so (Err f) departures is left = absurd (let z : ◌≡◌ {A = ℕ} 0 1 = cc in omega arith)

  pub read_refused : (e : RecordFault) → length before ≡ events → Err e ≡ departures_reply (departures_at (length before) bytes 10) → departures_at events bytes 10 ≡ Err e
  read_refused e long is = ap (λ n. departures_at n bytes 10) (sym long) ∙ refused_so (departures_at (length before) bytes 10) e is

  pub read_done : (departures : List ℕ) → length before ≡ events → Ok tt ≡ departures_reply (departures_at (length before) bytes 10) → departures ≡ departures_after (departures_at (length before) bytes 10) before → departures_at events bytes 10 ≡ Ok departures
  read_done departures long is left = ap (λ n. departures_at n bytes 10) (sym long) ∙ done_so (departures_at (length before) bytes 10) departures is left

-- the whole file
module _ (bytes : List ℕ) where
  pub file_refused : (e : RecordFault) → opening_at bytes 0 ≡ Err e → load_held bytes ≡ Err (Record e)
  unfolding load_held
  file_refused e first = load_opening_refused judged_at_opening opened_by performed_by bytes e first

  loaded_so : (q : Result Held (LoadFault BoardFault)) (h : Held) → loaded_ledger q ≡ holding h → q ≡ Ok h
  loaded_so (Ok g) h e = let same : g ≡ h = cc in ap (λ (x : Held). Ok x) same
  loaded_so (Err f) h e = absurd (let z : ◌≡◌ {A = ℕ} 0 1 = cc in omega arith)

  -- a file is accepted exactly when it is an encoding whose calls the ledger accepts
  law_new : Bytes bytes → (after : Ledger) → after ≡ loaded_ledger (load_held bytes) → LoadLaw nothing bytes after
  unfolding load_held
  law_new small after left h = (
    λ held. (loads_encodings judged_at_opening opened_by performed_by bytes small h).0 (loaded_so (load_held bytes) h (sym left ∙ held)),
    λ accepted. left ∙ ap loaded_ledger ((loads_encodings judged_at_opening opened_by performed_by bytes small h).1 accepted),
  )

  pub load_law : Bytes bytes → (before after : Ledger) → after ≡ load_after before bytes → LoadLaw before bytes after
  load_law small (holding h) after left = left
  load_law small nothing after left = law_new small after left
