-- A file loaded step by step: its first two records, and then its entries one at a time, as a loop over a growing place reads them.
use Rattle.std.proofs.Common.{◌≡◌, ℕ, zero, suc, ◌+◌, ◌-◌, ◌*◌, ◌≤◌, List, length, Some, None, Ok, Err, Option, Result, sym, refl, ◌∙◌, arith}
use Rattle.std.proofs.lemmas.Bool.Decides.{nat_tests}
use Rattle.timetable.specs.declared.Addition.{Addition}
use Rattle.board_file.specs.declared.FrameFault.{FrameFault}
use Rattle.board_file.specs.declared.FrameFault.TheVariants.{PastEnd}
use Rattle.board_file.specs.declared.RecordFault.{RecordFault}
use Rattle.board_file.specs.declared.RecordFault.TheVariants.{Frame}
use Rattle.board_file.specs.declared.LoadFault.{LoadFault}
use Rattle.board_file.specs.declared.LoadFault.TheVariants.{Record, Judged}
use Rattle.board_file.specs.declared.OpeningRecord.{OpeningRecord}
use Rattle.board_file.specs.declared.Entry.{Entry}
use Rattle.board_file.specs.declared.Entry.TheVariants.{Add, End}
use Rattle.board_file.specs.Frames.{field_at, end_at}
use Rattle.board_file.specs.Records.{opening_at, departures_at, entry_at}
use Rattle.board_file.specs.Loading.{then_read, then_perform, after_entry, entries_from, load_file}

-- behind the file's end there is no field
pub field_beyond : (bytes : List ℕ) (place : ℕ) → length bytes ≤ place → field_at bytes place ≡ Err (PastEnd place)
field_beyond bytes place h = grind (arith, nat_tests)

-- behind the file's end there is no entry
pub entry_beyond : (bytes : List ℕ) (place : ℕ) → length bytes ≤ place → entry_at bytes place ≡ Err (Frame (PastEnd place))
entry_beyond bytes place h = cc (field_beyond bytes place h)

module _ {S F : Type 0} (perform : S → Addition → Result S F) (bytes : List ℕ) where
  -- two ways to go on that agree make no difference
  same_after : (place : ℕ) (s : S) (next other : S → Result S (LoadFault F)) → ((t : S) → next t ≡ other t) → (q : Result Entry RecordFault)
      → then_read q (after_entry perform bytes place s next) ≡ then_read q (after_entry perform bytes place s other)
  same_after place s next other same (Err e) = refl
  same_after place s next other same (Ok End) = refl
  same_after place s next other same (Ok (Add a)) =
      let by : (p : Result S F) → then_perform place p next ≡ then_perform place p other = λ p. elim p as (λ v. then_perform place v next ≡ then_perform place v other) [ Ok t ↦ same t | Err f ↦ refl ] in
      by (perform s a)

  -- where nothing is left of the file, there is no entry, so that no fuel is asked for
  none_left : (k place : ℕ) (s : S) → length bytes ≤ place → entries_from perform k bytes place s ≡ Err (Record (Frame (PastEnd place)))
  none_left zero place s h = refl
  none_left (suc k) place s h = rw (entry_beyond bytes place h) refl

  -- Two fuels that both suffice for what is left of the file give the same. By induction on one of them: where a fuel is used up, nothing
  -- is left; else both read the same entry, and an addition is ten bytes long, so that the smaller fuels suffice for the rest.
  pub entries_by_any_fuel : (k j place : ℕ) (s : S) → length bytes - place ≤ k → length bytes - place ≤ j → entries_from perform k bytes place s ≡ entries_from perform j bytes place s
  entries_by_any_fuel zero j place s h g = sym (none_left j place s (omega arith))
  entries_by_any_fuel (suc k) zero place s h g = none_left (suc k) place s (omega arith)
  entries_by_any_fuel (suc k) (suc j) place s h g =
      same_after place s (λ t. entries_from perform k bytes (place + 10) t) (λ t. entries_from perform j bytes (place + 10) t) (λ t. entries_by_any_fuel k j (place + 10) t (omega arith) (omega arith)) (entry_at bytes place)

  -- one entry, and the rest with any fuel that suffices for it
  pub entries_unfold : (k j place : ℕ) (s : S) → length bytes - place ≤ k → length bytes - (place + 10) ≤ j
      → entries_from perform k bytes place s ≡ then_read (entry_at bytes place) (after_entry perform bytes place s (λ t. entries_from perform j bytes (place + 10) t))
  entries_unfold k j place s h g =
      entries_by_any_fuel k (suc (length bytes)) place s h (omega arith)
      ∙ same_after place s (λ t. entries_from perform (length bytes) bytes (place + 10) t) (λ t. entries_from perform j bytes (place + 10) t) (λ t. entries_by_any_fuel (length bytes) j (place + 10) t (omega arith) g) (entry_at bytes place)

  -- the entry is refused as a record
  pub entries_refused : (k place : ℕ) (s : S) (e : RecordFault) → length bytes - place ≤ k → entry_at bytes place ≡ Err e → entries_from perform k bytes place s ≡ Err (Record e)
  entries_refused k place s e h is = entries_unfold k (length bytes) place s h (omega arith) ∙ rw is refl

  -- the entry is an addition that is refused
  pub entries_judged : (k place : ℕ) (s : S) (a : Addition) (f : F) → length bytes - place ≤ k → entry_at bytes place ≡ Ok (Add a) → perform s a ≡ Err f → entries_from perform k bytes place s ≡ Err (Judged place f)
  entries_judged k place s a f h is refused = entries_unfold k (length bytes) place s h (omega arith) ∙ rw (is, refused) refl

  -- the entry is an addition that is performed
  pub entries_more : (k j place : ℕ) (s t : S) (a : Addition) → length bytes - place ≤ k → length bytes - (place + 10) ≤ j → entry_at bytes place ≡ Ok (Add a) → perform s a ≡ Ok t
      → entries_from perform k bytes place s ≡ entries_from perform j bytes (place + 10) t
  entries_more k j place s t a h g is made = entries_unfold k j place s h g ∙ rw (is, made) refl

  -- the entry is the end, where the file ends
  pub entries_ended : (k place : ℕ) (s : S) → length bytes - place ≤ k → entry_at bytes place ≡ Ok End → end_at bytes (place + 3) ≡ Ok tt → entries_from perform k bytes place s ≡ Ok s
  entries_ended k place s h is ends = entries_unfold k (length bytes) place s h (omega arith) ∙ rw (is, ends) refl

  -- the entry is the end, and bytes follow it
  pub entries_trailing : (k place : ℕ) (s : S) (e : FrameFault) → length bytes - place ≤ k → entry_at bytes place ≡ Ok End → end_at bytes (place + 3) ≡ Err e → entries_from perform k bytes place s ≡ Err (Record (Frame e))
  entries_trailing k place s e h is ends = entries_unfold k (length bytes) place s h (omega arith) ∙ rw (is, ends) refl

module _ {S F : Type 0} (judge : OpeningRecord → Option F) (begin : OpeningRecord → List ℕ → Result S F) (perform : S → Addition → Result S F) (bytes : List ℕ) where
  -- the opening record is refused as a record
  pub load_opening_refused : (e : RecordFault) → opening_at bytes 0 ≡ Err e → load_file judge begin perform bytes ≡ Err (Record e)
  load_opening_refused e opened = rw opened refl

  -- the opening record is refused by whoever judges it
  pub load_judged : (o : OpeningRecord) (f : F) → opening_at bytes 0 ≡ Ok o → judge o ≡ Some f → load_file judge begin perform bytes ≡ Err (Judged 0 f)
  load_judged o f opened judged = rw (opened, judged) refl

  -- the departures are refused as a record
  pub load_departures_refused : (o : OpeningRecord) (e : RecordFault) → opening_at bytes 0 ≡ Ok o → judge o ≡ None → departures_at o.events bytes 10 ≡ Err e → load_file judge begin perform bytes ≡ Err (Record e)
  load_departures_refused o e opened judged read = rw (opened, judged, read) refl

  -- no state is opened with the departures
  pub load_begin_refused : (o : OpeningRecord) (departures : List ℕ) (f : F) → opening_at bytes 0 ≡ Ok o → judge o ≡ None → departures_at o.events bytes 10 ≡ Ok departures → begin o departures ≡ Err f
      → load_file judge begin perform bytes ≡ Err (Judged 10 f)
  load_begin_refused o departures f opened judged read begun = rw (opened, judged, read, begun) refl

  -- a state is opened with the departures, and the entries follow, with any fuel that suffices for them
  pub load_begun : (k : ℕ) (o : OpeningRecord) (departures : List ℕ) (s : S) → opening_at bytes 0 ≡ Ok o → judge o ≡ None → departures_at o.events bytes 10 ≡ Ok departures → begin o departures ≡ Ok s
      → length bytes - (13 + 4 * o.events) ≤ k → load_file judge begin perform bytes ≡ entries_from perform k bytes (13 + 4 * o.events) s
  load_begun k o departures s opened judged read begun h = rw (opened, judged, read, begun) (entries_by_any_fuel perform bytes (length bytes) k (13 + 4 * o.events) s (omega arith) h)
