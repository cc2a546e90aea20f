-- The fields of a board file: a one-byte tag, a two-byte length and a body of that length.
use Rattle.std.specs.Prelude.{ℕ, ◌+◌, cond, List, length, take, drop, Ok, Err, Result, ◌==◌, nat_le, slice_index}
use Rattle.board_file.specs.declared.FrameFault.{FrameFault}
use Rattle.board_file.specs.declared.FrameFault.TheVariants.{PastEnd, Trailing}
use Rattle.board_file.specs.declared.Field.{Field}
use Rattle.board_file.specs.Numbers.{two_at}

-- a field as values: the place of its tag, its tag, and its body as a list
pub record Framed : Type 0 where
  pub place : ℕ
  pub tag : ℕ
  pub body : List ℕ

-- what a reader of fields answers, as values
abbrev pub framed : Result Field FrameFault → Result Framed FrameFault
framed (Ok f) = Ok (record { place = f.place; tag = f.tag; body = f.body.now })
framed (Err e) = Err e

-- the body's length that the header at a place gives: the two bytes behind the tag
abbrev pub length_at : List ℕ → ℕ → ℕ
length_at bytes place = two_at bytes (place + 1)

-- the field whose tag stands at a place: a fault where its header or its body runs past the end
abbrev pub field_at : List ℕ → ℕ → Result Framed FrameFault
field_at bytes place =
    cond (nat_le (place + 3) (length bytes))
    (cond (nat_le (place + 3 + length_at bytes place) (length bytes))
    (Ok (record { place = place; tag = slice_index bytes place; body = take (length_at bytes place) (drop (place + 3) bytes) }))
    (Err (PastEnd place)))
    (Err (PastEnd place))

-- the file has to end at a place: a fault there where it ends elsewhere
abbrev pub end_at : List ℕ → ℕ → Result (Unit {0}) FrameFault
end_at bytes place = cond (place == length bytes) (Ok tt) (Err (Trailing place))
