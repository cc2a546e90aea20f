-- A field's bytes: where they stand, the field is read, and what is read as a field stands there as its bytes.
use Rattle.std.proofs.Common.{◌≡◌, ℕ, ◌+◌, ◌-◌, ◌*◌, ◌/◌, ◌%◌, ◌<◌, ◌≤◌, List, [], ◌∷◌, ◌++◌, length, get_or, take, drop, Ok, sym, refl, ap, ◌∙◌, subst, arith}
use Rattle.std.proofs.lemmas.Nat.{div-mul-add, mod-mul-add}
use Rattle.std.proofs.lemmas.List.{get_or-drop, drop-drop, drop_at, drop_more, take_at, take-append-drop, length-drop, length-append, length-take, length-take-le}
use Rattle.std.proofs.lemmas.Bool.Decides.{nat_tests}
use Rattle.std.proofs.lemmas.Grind.{common_steps}
use Rattle.board_file.specs.Frames.{Framed, length_at, field_at}
use Rattle.board_file.specs.Encodings.{be16, be32, encode_field, Bytes}

-- two bytes are the bytes of their number
pub be16_two : (a b : ℕ) → b < 256 → be16 (a * 256 + b) ≡ a ∷ b ∷ []
be16_two a b h = grind (arith, div-mul-add, mod-mul-add)

-- four bytes are the bytes of their number
pub be32_four : (a b c d : ℕ) → b < 256 → c < 256 → d < 256 → be32 ((a * 256 + b) * 65536 + (c * 256 + d)) ≡ a ∷ b ∷ c ∷ d ∷ []
be32_four a b c d hb hc hd =
    let h : c * 256 + d < 65536 = omega arith in
    rw (div-mul-add (a * 256 + b) 65536 (c * 256 + d) h, mod-mul-add (a * 256 + b) 65536 (c * 256 + d) h) (cc (be16_two a b hb, be16_two c d hd))

-- the number of a number's two bytes
pub two_be16 : (n : ℕ) → n / 256 * 256 + n % 256 ≡ n
two_be16 n = omega arith

-- the number of a number's four bytes
pub four_be32 : (n : ℕ) → (n / 65536 / 256 * 256 + n / 65536 % 256) * 65536 + (n % 65536 / 256 * 256 + n % 65536 % 256) ≡ n
four_be32 n = omega arith

-- an element of what stands from a place on
byte_from : (bytes list : List ℕ) (place k q : ℕ) → place + k ≡ q → drop place bytes ≡ list → get_or bytes q 0 ≡ get_or list k 0
byte_from bytes list place k q e h = let at = get_or-drop place bytes k 0 in cc

-- what stands further on
drop_from : (bytes list : List ℕ) (place k q : ℕ) → place + k ≡ q → drop place bytes ≡ list → drop q bytes ≡ drop k list
drop_from bytes list place k q e h = let further = drop-drop k place bytes in cc

-- Where a field's bytes stand at a place, the field is read there, and the rest stands behind it. The bytes at the place, one behind it
-- and two behind it are the tag and the length's two bytes, so that the length read is the body's.
pub field_written : (bytes : List ℕ) (place tag : ℕ) (body rest : List ℕ) → drop place bytes ≡ encode_field tag body ++ rest
    → (field_at bytes place ≡ Ok (record { place = place; tag = tag; body = body })) × (drop (place + 3 + length body) bytes ≡ rest)
field_written bytes place tag body rest h =
    let list = encode_field tag body ++ rest in
    let first : get_or bytes place 0 ≡ tag = byte_from bytes list place 0 place (omega arith) h in
    let high : get_or bytes (place + 1) 0 ≡ length body / 256 = byte_from bytes list place 1 (place + 1) refl h in
    let low : get_or bytes (place + 1 + 1) 0 ≡ length body % 256 = byte_from bytes list place 2 (place + 1 + 1) (omega arith) h in
    let size : length_at bytes place ≡ length body = rw (high, low) (two_be16 (length body)) in
    let inner : drop (place + 3) bytes ≡ body ++ rest = drop_from bytes list place 3 (place + 3) refl h in
    let long : length bytes - place ≡ 3 + (length body + length rest) = sym (length-drop place bytes) ∙ (ap length h ∙ omega (arith, length-append body rest)) in
    let read : take (length_at bytes place) (drop (place + 3) bytes) ≡ body = rw (size, inner) (take_at body rest (length body) refl) in (
      grind (arith, nat_tests),
      drop_from bytes (body ++ rest) (place + 3) (length body) (place + 3 + length body) refl inner ∙ drop_at body rest (length body) refl,
    )

-- the first three bytes from a place on
three : (bytes : List ℕ) (place : ℕ) → place + 3 ≤ length bytes → drop place bytes ≡ get_or bytes place 0 ∷ get_or bytes (place + 1) 0 ∷ get_or bytes (place + 1 + 1) 0 ∷ drop (place + 3) bytes
three bytes place h =
    let first = drop_more bytes place 0 (omega arith) in
    let second = drop_more bytes (place + 1) 0 (omega arith) in
    let third = drop_more bytes (place + 1 + 1) 0 (omega arith) in
    let e : place + 1 + 1 + 1 ≡ place + 3 = omega arith in
    cc

-- a part of a list of bytes is one
bytes_drop : (n : ℕ) (bytes : List ℕ) → Bytes bytes → Bytes (drop n bytes)
bytes_drop n bytes small i = rw (get_or-drop n bytes i 0) (small (n + i))

bytes_take : (n : ℕ) (bytes : List ℕ) → Bytes bytes → Bytes (take n bytes)
bytes_take n bytes small i = let here = small i in grind (arith, common_steps)

-- what reading a field says
parts : (bytes : List ℕ) (place : ℕ) (f : Framed) → field_at bytes place ≡ Ok f
    → (place + 3 + length_at bytes place ≤ length bytes) × (f ≡ record { place = place; tag = get_or bytes place 0; body = take (length_at bytes place) (drop (place + 3) bytes) })
parts bytes place f e = grind (arith, nat_tests)

-- a field that is read ends within the file
pub field_within : (bytes : List ℕ) (place : ℕ) (f : Framed) → field_at bytes place ≡ Ok f → place + 3 + length f.body ≤ length bytes
field_within bytes place f e =
    let p = parts bytes place f e in
    let n = length_at bytes place in
    omega (arith, p.0, ap (λ (x : Framed). length x.body) p.1, length-take n (drop (place + 3) bytes))

-- what a field that is read at a place says of the bytes
pub record Stands (bytes : List ℕ) (place : ℕ) (f : Framed) : Type 0 where
  pub here : f.place ≡ place
  pub written : drop place bytes ≡ encode_field f.tag f.body ++ drop (place + 3 + length f.body) bytes
  pub within : place + 3 + length f.body ≤ length bytes
  pub small : Bytes f.body

-- Where a field is read at a place, its bytes stand there. The list from the place on is its first three bytes and the rest, the rest is
-- as much of it as the length says and what follows, and the two bytes of the length are those of the body's length.
pub field_read : (bytes : List ℕ) (place : ℕ) (f : Framed) → Bytes bytes → field_at bytes place ≡ Ok f → Stands bytes place f
field_read bytes place f small e =
    let p = parts bytes place f e in
    let n = length_at bytes place in
    let g : Framed = record { place = place; tag = get_or bytes place 0; body = take n (drop (place + 3) bytes) } in
    let fits : n ≤ length (drop (place + 3) bytes) = rw (length-drop (place + 3) bytes) (omega (arith, p.0)) in
    let long : length (take n (drop (place + 3) bytes)) ≡ n = length-take-le n (drop (place + 3) bytes) fits in
    let low : get_or bytes (place + 1 + 1) 0 < 256 = small (place + 1 + 1) in
    let rest : drop (place + 3) bytes ≡ take n (drop (place + 3) bytes) ++ drop (place + 3 + n) bytes = sym (take-append-drop n (drop (place + 3) bytes)) ∙ ap (λ (l : List ℕ). take n (drop (place + 3) bytes) ++ l) (drop-drop n (place + 3) bytes) in
    let bytes_of : be16 n ≡ get_or bytes (place + 1) 0 ∷ get_or bytes (place + 1 + 1) 0 ∷ [] = be16_two (get_or bytes (place + 1) 0) (get_or bytes (place + 1 + 1) 0) low in
    let whole : drop place bytes ≡ (get_or bytes place 0 ∷ (be16 n ++ take n (drop (place + 3) bytes))) ++ drop (place + 3 + n) bytes = let begin = three bytes place (omega (arith, p.0)) in cc in
    let stands : Stands bytes place g = record { here = refl; written = rw long whole; within = rw long p.0; small = bytes_take n (drop (place + 3) bytes) (bytes_drop (place + 3) bytes small) } in
    subst (λ (x : Framed). Stands bytes place x) (sym p.1) stands
