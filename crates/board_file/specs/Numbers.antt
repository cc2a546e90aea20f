-- Numbers of two and of four bytes, the highest byte first.
use Rattle.std.specs.Prelude.{ℕ, ◌+◌, ◌*◌, List, slice_index}

-- the number of the two bytes at a place
abbrev pub two_at : List ℕ → ℕ → ℕ
two_at bytes place = slice_index bytes place * 256 + slice_index bytes (place + 1)

-- the number of the four bytes at a place
abbrev pub four_at : List ℕ → ℕ → ℕ
four_at bytes place = two_at bytes place * 65536 + two_at bytes (place + 2)
