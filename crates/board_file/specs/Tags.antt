-- The tags of fields.
use Rattle.std.specs.Prelude.{ℕ, cond, Ok, Err, Result, ◌==◌}
use Rattle.board_file.specs.declared.Tag.{Tag}
use Rattle.board_file.specs.declared.Tag.TheVariants.{Opening, Departures, Addition, End}
use Rattle.board_file.specs.declared.UnknownTag.{UnknownTag}

-- the byte of a tag
abbrev pub byte_of : Tag → ℕ
byte_of Opening = 1
byte_of Departures = 2
byte_of Addition = 3
byte_of End = 4

-- the tag of a byte: the bytes 1 to 4 are tags, and any other comes back
abbrev pub tag_of : ℕ → Result Tag UnknownTag
tag_of byte = cond (byte == 1) (Ok Opening) (cond (byte == 2) (Ok Departures) (cond (byte == 3) (Ok Addition) (cond (byte == 4) (Ok End) (Err (record { 0 = byte })))))
