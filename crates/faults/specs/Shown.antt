-- How a refusal is written: its layer's name, its number and its place, with a blank between them.
use Rattle.std.specs.Prelude.{ℕ, List, ◌++◌, codes, decimal}
use Rattle.faults.specs.declared.Layer.{Layer}
use Rattle.faults.specs.declared.Layer.TheVariants.{Frame, Record, Board, Table}
use Rattle.faults.specs.declared.Report.{Report}

-- a layer's name
abbrev pub layer_name : Layer → List ℕ
layer_name Frame = codes "frame"
layer_name Record = codes "record"
layer_name Board = codes "board"
layer_name Table = codes "table"

-- layer, number and place
abbrev pub report_text : Report → List ℕ
report_text r = layer_name r.layer ++ (codes " " ++ (decimal r.number ++ (codes " " ++ decimal r.place)))
