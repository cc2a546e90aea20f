-- How a file is loaded, for every way to judge its opening record, to open a state and to perform an addition, and which files
-- are accepted.
use Rattle.std.specs.Prelude.{◌≡◌, ℕ, zero, suc, ◌+◌, ◌*◌, List, [], ◌∷◌, length, Some, None, Ok, Err, Option, Result}
use Rattle.timetable.specs.declared.Addition.{Addition}
use Rattle.board_file.specs.declared.FrameFault.{FrameFault}
use Rattle.board_file.specs.declared.FrameFault.TheVariants.{PastEnd}
use Rattle.board_file.specs.declared.RecordFault.{RecordFault}
use Rattle.board_file.specs.declared.RecordFault.TheVariants.{Frame}
use Rattle.board_file.specs.declared.LoadFault.{LoadFault}
use Rattle.board_file.specs.declared.LoadFault.TheVariants.{Record, Judged}
use Rattle.board_file.specs.declared.OpeningRecord.{OpeningRecord}
use Rattle.board_file.specs.declared.Entry.{Entry}
use Rattle.board_file.specs.declared.Entry.TheVariants.{Add, End}
use Rattle.board_file.specs.Frames.{end_at}
use Rattle.board_file.specs.Records.{opening_at, departures_at, entry_at}
use Rattle.board_file.specs.Encodings.{encode_file, Bytes, FitsOpening, FitsDepartures, FitsAdditions}

-- go on with what a record gives, or stop at its fault
abbrev pub then_read : {X S F : Type 0} → Result X RecordFault → (X → Result S (LoadFault F)) → Result S (LoadFault F)
then_read (Ok x) next = next x
then_read (Err e) next = Err (Record e)

-- go on from the state reached, or stop at a fault of whoever performs the record at a place
abbrev pub then_perform : {S F : Type 0} → ℕ → Result S F → (S → Result S (LoadFault F)) → Result S (LoadFault F)
then_perform place (Ok s) next = next s
then_perform place (Err f) next = Err (Judged place f)

-- go on where the record at a place is not refused, or stop at the fault
abbrev pub then_judged : {S F : Type 0} → ℕ → Option F → Result S (LoadFault F) → Result S (LoadFault F)
then_judged place None next = next
then_judged place (Some f) next = Err (Judged place f)

-- the state reached, where the file ends as it has to
abbrev pub then_end : {S F : Type 0} → Result (Unit {0}) FrameFault → S → Result S (LoadFault F)
then_end (Ok u) s = Ok s
then_end (Err e) s = Err (Record (Frame e))

-- go on from the state reached, or stop at the fault
abbrev pub and_then : {S F : Type 0} → Result S F → (S → Result S F) → Result S F
and_then (Ok s) next = next s
and_then (Err f) next = Err f

module _ {S F : Type 0} (perform : S → Addition → Result S F) where
  -- additions performed in order, up to the first fault
  abbrev pub performed : S → List Addition → Result S F
  performed s [] = Ok s
  performed s (a ∷ additions) = and_then (perform s a) (λ t. performed t additions)

  -- what an entry at a place does: an addition is performed and the next entry follows, and behind the end there is nothing
  abbrev pub after_entry : List ℕ → ℕ → S → (S → Result S (LoadFault F)) → Entry → Result S (LoadFault F)
  after_entry bytes place s next (Add a) = then_perform place (perform s a) next
  after_entry bytes place s next End = then_end (end_at bytes (place + 3)) s

  -- the entries from a place on, read and performed up to the end or the first fault; at most so many, which the file's length suffices for
  abbrev pub entries_from : ℕ → List ℕ → ℕ → S → Result S (LoadFault F)
  entries_from zero bytes place s = Err (Record (Frame (PastEnd place)))
  entries_from (suc k) bytes place s = then_read (entry_at bytes place) (after_entry bytes place s (λ t. entries_from k bytes (place + 10) t))

module _ {S F : Type 0} (judge : OpeningRecord → Option F) (begin : OpeningRecord → List ℕ → Result S F) (perform : S → Addition → Result S F) where
  -- what follows the departures: a state is opened with them, and the entries follow
  abbrev pub after_departures : List ℕ → OpeningRecord → List ℕ → Result S (LoadFault F)
  after_departures bytes o departures = then_perform 10 (begin o departures) (λ s. entries_from perform (length bytes) bytes (13 + 4 * o.events) s)

  -- what follows the opening record: it is judged, and the departures follow, as many as there are events
  abbrev pub after_opening : List ℕ → OpeningRecord → Result S (LoadFault F)
  after_opening bytes o = then_judged 0 (judge o) (then_read (departures_at o.events bytes 10) (after_departures bytes o))

  -- a file is loaded from its opening record on, to the state reached at its end or to the first fault
  abbrev pub load_file : List ℕ → Result S (LoadFault F)
  load_file bytes = then_read (opening_at bytes 0) (after_opening bytes)

  -- a file is accepted with a state: it encodes an opening record, departures and additions that fit their bytes and lead to that state
  pub record Accepted (bytes : List ℕ) (s : S) : Type 0 where
    pub opening : OpeningRecord
    pub departures : List ℕ
    pub additions : List Addition
    pub first : S
    pub fits_opening : FitsOpening opening
    pub fits_departures : FitsDepartures departures
    pub fits_additions : FitsAdditions additions
    pub counted : length departures ≡ opening.events
    pub encoded : bytes ≡ encode_file opening departures additions
    pub judged : judge opening ≡ None
    pub begun : begin opening departures ≡ Ok first
    pub ended : performed perform first additions ≡ Ok s

  -- a file of bytes is loaded with a state exactly where it is accepted with it
  abbrev pub LoadsEncodings : Type 0
  LoadsEncodings = (bytes : List ℕ) → Bytes bytes → (s : S) → (load_file bytes ≡ Ok s → Accepted bytes s) × (Accepted bytes s → load_file bytes ≡ Ok s)
