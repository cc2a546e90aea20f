-- The bodies of records: what is read from a record's bytes is the record, and a body is the bytes of what is read from it.
use Rattle.std.proofs.Common.{◌≡◌, ℕ, zero, suc, ◌*◌, ◌<◌, List, [], ◌∷◌, length, sym, refl, arith}
use Rattle.std.proofs.lemmas.List.{nil_from_length}
use Rattle.std.specs.List.{flat_map}
use Rattle.timetable.specs.declared.Addition.{Addition}
use Rattle.board_file.specs.declared.OpeningRecord.{OpeningRecord}
use Rattle.board_file.specs.Records.{opening_of, departures_of, addition_of}
use Rattle.board_file.specs.Encodings.{be32, opening_body, addition_body, Bytes, FitsOpening, FitsDepartures, FitsAddition}
use Rattle.board_file.proofs.Fields.{be16_two, be32_four, two_be16, four_be32}

-- what holds of seven bytes written out holds of a list of seven
by_seven : (P : List ℕ → Type 0) → ((a b c d e f g : ℕ) → P (a ∷ b ∷ c ∷ d ∷ e ∷ f ∷ g ∷ [])) → (body : List ℕ) → length body ≡ 7 → P body
by_seven P all [] h = absurd (omega arith)
by_seven P all (a ∷ []) h = absurd (omega arith)
by_seven P all (a ∷ b ∷ []) h = absurd (omega arith)
by_seven P all (a ∷ b ∷ c ∷ []) h = absurd (omega arith)
by_seven P all (a ∷ b ∷ c ∷ d ∷ []) h = absurd (omega arith)
by_seven P all (a ∷ b ∷ c ∷ d ∷ e ∷ []) h = absurd (omega arith)
by_seven P all (a ∷ b ∷ c ∷ d ∷ e ∷ f ∷ []) h = absurd (omega arith)
by_seven P all (a ∷ b ∷ c ∷ d ∷ e ∷ f ∷ g ∷ []) h = all a b c d e f g
by_seven P all (a ∷ b ∷ c ∷ d ∷ e ∷ f ∷ g ∷ more ∷ rest) h = absurd (omega arith)

pub opening_written : (o : OpeningRecord) → opening_of (opening_body o) ≡ o
opening_written o = rw (two_be16 o.mark, four_be32 o.period)

pub opening_read : (body : List ℕ) → length body ≡ 7 → Bytes body → (opening_body (opening_of body) ≡ body) × FitsOpening (opening_of body)
opening_read =
    by_seven (λ body. Bytes body → (opening_body (opening_of body) ≡ body) × FitsOpening (opening_of body))
    (λ a b c d e f g small.
    let hb : b < 256 = small 1 in
    let ha : a < 256 = small 0 in
    let hd : d < 256 = small 3 in
    let he : e < 256 = small 4 in
    let hf : f < 256 = small 5 in
    let hg : g < 256 = small 6 in
    (cc (be16_two a b hb, be32_four d e f g he hf hg), record { mark = omega arith; events = small 2; period = omega arith }))

pub addition_written : (a : Addition) → addition_of (addition_body a) ≡ a
addition_written a = rw (two_be16 a.time)

pub addition_read : (body : List ℕ) → length body ≡ 7 → Bytes body → (addition_body (addition_of body) ≡ body) × FitsAddition (addition_of body)
addition_read =
    by_seven (λ body. Bytes body → (addition_body (addition_of body) ≡ body) × FitsAddition (addition_of body))
    (λ a b c d e f g small.
    let hc : c < 256 = small 2 in
    let hd : d < 256 = small 3 in
    (cc (be16_two c d hd), record { from = small 0; to = small 1; time = omega arith; tokens = small 4; days = small 5; letter = small 6 }))

pub departures_written : (departures : List ℕ) → departures_of (length departures) (flat_map be32 departures) ≡ departures
departures_written [] = refl
departures_written (d ∷ departures) = cc (four_be32 d, departures_written departures)

pub length_departures_body : (departures : List ℕ) → length (flat_map be32 departures) ≡ 4 * length departures
length_departures_body [] = refl
length_departures_body (d ∷ departures) = omega (arith, length_departures_body departures)

-- By induction on how many there are: four bytes are those of the first departure, and the others are those of the rest.
pub departures_read : (n : ℕ) (body : List ℕ) → length body ≡ 4 * n → Bytes body → (flat_map be32 (departures_of n body) ≡ body) × FitsDepartures (departures_of n body)
departures_read zero body h small = (sym (nil_from_length body (omega arith)), tt)
departures_read (suc n) [] h small = absurd (omega arith)
departures_read (suc n) (a ∷ []) h small = absurd (omega arith)
departures_read (suc n) (a ∷ b ∷ []) h small = absurd (omega arith)
departures_read (suc n) (a ∷ b ∷ c ∷ []) h small = absurd (omega arith)
departures_read (suc n) (a ∷ b ∷ c ∷ d ∷ rest) h small =
    let ha : a < 256 = small 0 in
    let hb : b < 256 = small 1 in
    let hc : c < 256 = small 2 in
    let hd : d < 256 = small 3 in
    let further = departures_read n rest (omega arith) (λ i. small (suc (suc (suc (suc i))))) in
    (cc (be32_four a b c d hb hc hd), (omega arith, further.1))
