-- The bytes that stand for a number, a field, a record and a whole file.
use Rattle.std.specs.Prelude.{ℕ, ◌/◌, ◌%◌, ◌^◌, ◌<◌, List, [], ◌∷◌, ◌++◌, length, slice_index}
use Rattle.std.specs.List.{flat_map, AllByRecursion}
use Rattle.timetable.specs.declared.Addition.{Addition}
use Rattle.board_file.specs.declared.OpeningRecord.{OpeningRecord}
use Rattle.board_file.specs.declared.Tag.TheVariants as tag
use Rattle.board_file.specs.Tags.{byte_of}

-- a number as two bytes, the higher first
abbrev pub be16 : ℕ → List ℕ
be16 n = n / 256 ∷ n % 256 ∷ []

-- a number as four bytes, the highest first
abbrev pub be32 : ℕ → List ℕ
be32 n = be16 (n / 65536) ++ be16 (n % 65536)

-- a field: its tag, the length of its body as two bytes, and its body
abbrev pub encode_field : ℕ → List ℕ → List ℕ
encode_field tag body = tag ∷ be16 (length body) ++ body

-- the seven bytes of an opening record
abbrev pub opening_body : OpeningRecord → List ℕ
opening_body o = be16 o.mark ++ o.events ∷ be32 o.period

-- the opening record as a field
abbrev pub encode_opening : OpeningRecord → List ℕ
encode_opening o = encode_field (byte_of tag.Opening) (opening_body o)

-- the departures as a field, four bytes each
abbrev pub encode_departures : List ℕ → List ℕ
encode_departures departures = encode_field (byte_of tag.Departures) (flat_map be32 departures)

-- the seven bytes of an addition
abbrev pub addition_body : Addition → List ℕ
addition_body a = a.from ∷ a.to ∷ be16 a.time ++ a.tokens ∷ a.days ∷ a.letter ∷ []

-- an addition as a field
abbrev pub encode_entry : Addition → List ℕ
encode_entry a = encode_field (byte_of tag.Addition) (addition_body a)

-- the end as a field with no body
abbrev pub encode_end : List ℕ
encode_end = encode_field (byte_of tag.End) []

-- the additions one behind the other, and the end
abbrev pub encode_entries : List Addition → List ℕ
encode_entries additions = flat_map encode_entry additions ++ encode_end

-- a whole file: the opening record, the departures, the additions in order, and the end
abbrev pub encode_file : OpeningRecord → List ℕ → List Addition → List ℕ
encode_file o departures additions = encode_opening o ++ (encode_departures departures ++ encode_entries additions)

-- each element of a list is a byte
abbrev pub Bytes : List ℕ → Type 0
Bytes bytes = (i : ℕ) → slice_index bytes i < 256

-- each value of an opening record fits its bytes
pub record FitsOpening (o : OpeningRecord) : Type 0 where
  pub mark : o.mark < 65536
  pub events : o.events < 256
  pub period : o.period < 2 ^ 32

-- each departure fits four bytes
abbrev pub FitsDepartures : List ℕ → Type 0
FitsDepartures departures = AllByRecursion (λ d. d < 2 ^ 32) departures

-- each value of an addition fits its bytes
pub record FitsAddition (a : Addition) : Type 0 where
  pub from : a.from < 256
  pub to : a.to < 256
  pub time : a.time < 65536
  pub tokens : a.tokens < 256
  pub days : a.days < 256
  pub letter : a.letter < 256

-- each value of each addition fits its bytes
abbrev pub FitsAdditions : List Addition → Type 0
FitsAdditions additions = AllByRecursion FitsAddition additions
