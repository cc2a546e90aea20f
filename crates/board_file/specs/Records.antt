-- The records of a board file, as they are read from the fields at a place.
use Rattle.std.specs.Prelude.{ℕ, zero, suc, ◌*◌, cond, List, [], ◌∷◌, length, drop, Ok, Err, Result, ◌==◌, slice_index}
use Rattle.timetable.specs.declared.Addition.{Addition}
use Rattle.board_file.specs.declared.FrameFault.{FrameFault}
use Rattle.board_file.specs.declared.RecordFault.{RecordFault}
use Rattle.board_file.specs.declared.RecordFault.TheVariants.{Frame, Tag, Length}
use Rattle.board_file.specs.declared.OpeningRecord.{OpeningRecord}
use Rattle.board_file.specs.declared.Entry.{Entry}
use Rattle.board_file.specs.declared.Entry.TheVariants.{Add, End}
use Rattle.board_file.specs.declared.Tag.TheVariants as tag
use Rattle.board_file.specs.Numbers.{two_at, four_at}
use Rattle.board_file.specs.Tags.{byte_of}
use Rattle.board_file.specs.Frames.{Framed, field_at}

-- what a field gives whose body has to have a length: a fault at its tag where it has not
abbrev pub exact : {X : Type 0} → ℕ → X → Framed → Result X RecordFault
exact long given f = cond (length f.body == long) (Ok given) (Err (Length f.place))

-- the opening record in a body of seven bytes: the mark, the number of events, the period
abbrev pub opening_of : List ℕ → OpeningRecord
opening_of body = record { mark = two_at body 0; events = slice_index body 2; period = four_at body 3 }

-- the opening record in a field, which has tag 1
abbrev pub opening_in : Result Framed FrameFault → Result OpeningRecord RecordFault
opening_in (Err e) = Err (Frame e)
opening_in (Ok f) = cond (f.tag == byte_of tag.Opening) (exact 7 (opening_of f.body) f) (Err (Tag f.place))

-- the opening record of a file
abbrev pub opening_at : List ℕ → ℕ → Result OpeningRecord RecordFault
opening_at bytes place = opening_in (field_at bytes place)

-- so many departures in a body, four bytes each
abbrev pub departures_of : ℕ → List ℕ → List ℕ
departures_of zero body = []
departures_of (suc n) body = four_at body 0 ∷ departures_of n (drop 4 body)

-- so many departures in a field, which has tag 2
abbrev pub departures_in : ℕ → Result Framed FrameFault → Result (List ℕ) RecordFault
departures_in n (Err e) = Err (Frame e)
departures_in n (Ok f) = cond (f.tag == byte_of tag.Departures) (exact (4 * n) (departures_of n f.body) f) (Err (Tag f.place))

-- so many departures in the field at a place
abbrev pub departures_at : ℕ → List ℕ → ℕ → Result (List ℕ) RecordFault
departures_at n bytes place = departures_in n (field_at bytes place)

-- whether departures were read
abbrev pub departures_reply : Result (List ℕ) RecordFault → Result (Unit {0}) RecordFault
departures_reply (Ok departures) = Ok tt
departures_reply (Err e) = Err e

-- the departures that were read, or those from before where they were not
abbrev pub departures_after : Result (List ℕ) RecordFault → List ℕ → List ℕ
departures_after (Ok departures) before = departures
departures_after (Err e) before = before

-- the addition in a body of seven bytes
abbrev pub addition_of : List ℕ → Addition
addition_of body =
    record { from = slice_index body 0; to = slice_index body 1; time = two_at body 2; tokens = slice_index body 4; days = slice_index body 5; letter = slice_index body 6 }

-- the entry in a field: an addition has tag 3, and the end has tag 4 and no body
abbrev pub entry_in : Result Framed FrameFault → Result Entry RecordFault
entry_in (Err e) = Err (Frame e)
entry_in (Ok f) = cond (f.tag == byte_of tag.Addition) (exact 7 (Add (addition_of f.body)) f) (cond (f.tag == byte_of tag.End) (exact 0 End f) (Err (Tag f.place)))

-- the entry at a place
abbrev pub entry_at : List ℕ → ℕ → Result Entry RecordFault
entry_at bytes place = entry_in (field_at bytes place)
