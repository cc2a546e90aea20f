-- The records of a file: where a record's bytes stand, the record is read, and what is read stands there as its bytes.
use Rattle.std.proofs.Common.{◌≡◌, ℕ, ◌+◌, ◌*◌, ◌≤◌, List, [], ◌++◌, length, drop, Ok, Err, Result, sym, refl, ap, arith}
use Rattle.std.proofs.lemmas.List.{nil_from_length}
use Rattle.std.proofs.lemmas.Bool.Decides.{nat_tests}
use Rattle.std.specs.List.{flat_map}
use Rattle.timetable.specs.declared.Addition.{Addition}
use Rattle.board_file.specs.declared.FrameFault.{FrameFault}
use Rattle.board_file.specs.declared.OpeningRecord.{OpeningRecord}
use Rattle.board_file.specs.declared.Entry.TheVariants.{Add, End}
use Rattle.board_file.specs.Frames.{Framed, field_at}
use Rattle.board_file.specs.Records.{opening_of, opening_in, opening_at, departures_of, departures_in, departures_at, addition_of, entry_in, entry_at}
use Rattle.board_file.specs.Encodings.{be32, encode_field, opening_body, encode_opening, encode_departures, addition_body, encode_entry, encode_end, Bytes, FitsOpening, FitsDepartures, FitsAddition}
use Rattle.board_file.proofs.Fields.{Stands, field_written, field_within, field_read}
use Rattle.board_file.proofs.Departures.{length_departures}
use Rattle.board_file.proofs.Bodies.{opening_written, opening_read, addition_written, addition_read, departures_written, length_departures_body, departures_read}

-- where the opening record's bytes stand, it is read, and the rest stands ten bytes on
pub opening_stands : (bytes : List ℕ) (o : OpeningRecord) (rest : List ℕ) → bytes ≡ encode_opening o ++ rest → (opening_at bytes 0 ≡ Ok o) × (drop 10 bytes ≡ rest)
opening_stands bytes o rest h =
    let w = field_written bytes 0 1 (opening_body o) rest h in
    (rw w.0 (cc (opening_written o)), w.1)

-- where the departures' bytes stand, they are read, and the rest stands behind them
pub departures_stand : (bytes : List ℕ) (place n : ℕ) (departures rest : List ℕ) → length departures ≡ n → drop place bytes ≡ encode_departures departures ++ rest
    → (departures_at n bytes place ≡ Ok departures) × (drop (place + 3 + 4 * n) bytes ≡ rest)
departures_stand bytes place n departures rest counted h =
    let body = flat_map be32 departures in
    let w = field_written bytes place 2 body rest h in
    let long : length body ≡ 4 * n = omega (arith, length_departures_body departures, counted) in
    let read : departures_of n body ≡ departures = rw (sym counted) (departures_written departures) in
    (rw w.0 (grind (arith, nat_tests)), rw (sym long) w.1)

-- where an addition's bytes stand, it is read, and the rest stands ten bytes on
pub addition_stands : (bytes : List ℕ) (place : ℕ) (a : Addition) (rest : List ℕ) → drop place bytes ≡ encode_entry a ++ rest → (entry_at bytes place ≡ Ok (Add a)) × (drop (place + 10) bytes ≡ rest)
addition_stands bytes place a rest h =
    let w = field_written bytes place 3 (addition_body a) rest h in
    let e : place + 3 + 7 ≡ place + 10 = omega arith in
    (rw w.0 (cc (addition_written a)), rw (sym e) w.1)

-- where the end's bytes stand, it is read
pub end_stands : (bytes : List ℕ) (place : ℕ) → drop place bytes ≡ encode_end → entry_at bytes place ≡ Ok End
end_stands bytes place h = rw (field_written bytes place 4 [] [] h).0 refl

-- a field with known tag and body, as its bytes
stands_as : (bytes : List ℕ) (place : ℕ) (f : Framed) (tag : ℕ) (body : List ℕ) (next : ℕ) → Stands bytes place f → f.tag ≡ tag → body ≡ f.body → place + 3 + length body ≡ next
    → (drop place bytes ≡ encode_field tag body ++ drop next bytes) × (next ≤ length bytes)
stands_as bytes place f tag body next stands t b e =
    let within : place + 3 + length f.body ≡ next = rw (sym b) e in
    (rw (sym t, b, sym within) stands.written, omega (arith, within, stands.within))

-- what reading an opening record says of the field
opening_field : (q : Result Framed FrameFault) (o : OpeningRecord) → opening_in q ≡ Ok o → (f : Framed) × (q ≡ Ok f) × (f.tag ≡ 1) × (length f.body ≡ 7) × (opening_of f.body ≡ o)
opening_field (Err e) o h = absurd cc
opening_field (Ok f) o h = (f, refl, grind (arith, nat_tests), grind (arith, nat_tests), grind (arith, nat_tests))

-- what reading departures says of the field
departures_field : (n : ℕ) (q : Result Framed FrameFault) (departures : List ℕ) → departures_in n q ≡ Ok departures → (f : Framed) × (q ≡ Ok f) × (f.tag ≡ 2) × (length f.body ≡ 4 * n) × (departures_of n f.body ≡ departures)
departures_field n (Err e) departures h = absurd cc
departures_field n (Ok f) departures h = (f, refl, grind (arith, nat_tests), grind (arith, nat_tests), grind (arith, nat_tests))

-- what reading an addition says of the field
addition_field : (q : Result Framed FrameFault) (a : Addition) → entry_in q ≡ Ok (Add a) → (f : Framed) × (q ≡ Ok f) × (f.tag ≡ 3) × (length f.body ≡ 7) × (addition_of f.body ≡ a)
addition_field (Err e) a h = absurd cc
addition_field (Ok f) a h = (f, refl, grind (arith, nat_tests), grind (arith, nat_tests), grind (arith, nat_tests))

-- what reading the end says of the field
end_field : (q : Result Framed FrameFault) → entry_in q ≡ Ok End → (f : Framed) × (q ≡ Ok f) × (f.tag ≡ 4) × (length f.body ≡ 0)
end_field (Err e) h = absurd cc
end_field (Ok f) h = (f, refl, grind (arith, nat_tests), grind (arith, nat_tests))

-- an opening record that is read ends within the file
pub opening_within : (bytes : List ℕ) (place : ℕ) (o : OpeningRecord) → opening_at bytes place ≡ Ok o → place + 10 ≤ length bytes
opening_within bytes place o h =
    let g = opening_field (field_at bytes place) o h in omega (arith, field_within bytes place g.0 g.1, g.3)

-- departures that are read end within the file
pub departures_within : (bytes : List ℕ) (place n : ℕ) (departures : List ℕ) → departures_at n bytes place ≡ Ok departures → place + 3 + 4 * n ≤ length bytes
departures_within bytes place n departures h =
    let g = departures_field n (field_at bytes place) departures h in omega (arith, field_within bytes place g.0 g.1, g.3)

-- an addition that is read ends within the file
pub addition_within : (bytes : List ℕ) (place : ℕ) (a : Addition) → entry_at bytes place ≡ Ok (Add a) → place + 10 ≤ length bytes
addition_within bytes place a h =
    let g = addition_field (field_at bytes place) a h in omega (arith, field_within bytes place g.0 g.1, g.3)

-- an end that is read ends within the file
pub end_within : (bytes : List ℕ) (place : ℕ) → entry_at bytes place ≡ Ok End → place + 3 ≤ length bytes
end_within bytes place h =
    let g = end_field (field_at bytes place) h in omega (arith, field_within bytes place g.0 g.1)

-- an opening record that is read fits its bytes, which stand at the file's start
pub opening_is_written : (bytes : List ℕ) (o : OpeningRecord) → Bytes bytes → opening_at bytes 0 ≡ Ok o → (bytes ≡ encode_opening o ++ drop 10 bytes) × FitsOpening o × (10 ≤ length bytes)
opening_is_written bytes o small h =
    let g = opening_field (field_at bytes 0) o h in
    let stands = field_read bytes 0 g.0 small g.1 in
    let r = opening_read g.0.body g.3 stands.small in
    let w = stands_as bytes 0 g.0 1 (opening_body (opening_of g.0.body)) 10 stands g.2 r.0 refl in
    rw (sym g.4) (w.0, r.1, w.1)

-- so many departures that are read fit their bytes, which stand at the place
pub departures_are_written : (bytes : List ℕ) (place n : ℕ) (departures : List ℕ) → Bytes bytes → departures_at n bytes place ≡ Ok departures
    → (drop place bytes ≡ encode_departures departures ++ drop (place + 3 + 4 * n) bytes) × FitsDepartures departures × (length departures ≡ n) × (place + 3 + 4 * n ≤ length bytes)
departures_are_written bytes place n departures small h =
    let g = departures_field n (field_at bytes place) departures h in
    let stands = field_read bytes place g.0 small g.1 in
    let r = departures_read n g.0.body g.3 stands.small in
    let e : place + 3 + length (flat_map be32 (departures_of n g.0.body)) ≡ place + 3 + 4 * n = omega (arith, ap length r.0, g.3) in
    let w = stands_as bytes place g.0 2 (flat_map be32 (departures_of n g.0.body)) (place + 3 + 4 * n) stands g.2 r.0 e in
    rw (sym g.4) (w.0, r.1, length_departures n g.0.body, w.1)

-- an addition that is read fits its bytes, which stand at the place
pub addition_is_written : (bytes : List ℕ) (place : ℕ) (a : Addition) → Bytes bytes → entry_at bytes place ≡ Ok (Add a)
    → (drop place bytes ≡ encode_entry a ++ drop (place + 10) bytes) × FitsAddition a × (place + 10 ≤ length bytes)
addition_is_written bytes place a small h =
    let g = addition_field (field_at bytes place) a h in
    let stands = field_read bytes place g.0 small g.1 in
    let r = addition_read g.0.body g.3 stands.small in
    let e : place + 3 + 7 ≡ place + 10 = omega arith in
    let w = stands_as bytes place g.0 3 (addition_body (addition_of g.0.body)) (place + 10) stands g.2 r.0 e in
    rw (sym g.4) (w.0, r.1, w.1)

-- an end that is read stands at the place as its bytes
pub end_is_written : (bytes : List ℕ) (place : ℕ) → Bytes bytes → entry_at bytes place ≡ Ok End → (drop place bytes ≡ encode_end ++ drop (place + 3) bytes) × (place + 3 ≤ length bytes)
end_is_written bytes place small h =
    let g = end_field (field_at bytes place) h in
    let stands = field_read bytes place g.0 small g.1 in
    let e : place + 3 + 0 ≡ place + 3 = omega arith in
    stands_as bytes place g.0 4 [] (place + 3) stands g.2 (sym (nil_from_length g.0.body g.3)) e
