-- The faults of a board file: layer, number and place of each.
use Rattle.std.specs.Prelude.{◌≡◌, ℕ}
use Rattle.faults.specs.declared.Layer.TheVariants.{Frame as FrameLayer, Record as RecordLayer}
use Rattle.faults.specs.declared.Report.{Report}
use Rattle.board_file.specs.declared.FrameFault.{FrameFault}
use Rattle.board_file.specs.declared.FrameFault.TheVariants.{PastEnd, Trailing}
use Rattle.board_file.specs.declared.RecordFault.{RecordFault}
use Rattle.board_file.specs.declared.RecordFault.TheVariants.{Frame, Tag, Length}
use Rattle.board_file.specs.declared.LoadFault.{LoadFault}
use Rattle.board_file.specs.declared.LoadFault.TheVariants.{Record, Judged}

-- a field runs past the end, at the place where it begins; bytes follow the last field, at the first of them
abbrev pub frame_report : FrameFault → Report
frame_report (PastEnd place) = record { layer = FrameLayer; number = 24; place = place }
frame_report (Trailing place) = record { layer = FrameLayer; number = 27; place = place }

-- a field's own fault; a tag that is not due and a body of wrong length, at the tag's place
abbrev pub record_report : RecordFault → Report
record_report (Frame fault) = frame_report fault
record_report (Tag place) = record { layer = RecordLayer; number = 25; place = place }
record_report (Length place) = record { layer = RecordLayer; number = 26; place = place }

-- a report at another place
abbrev pub placed : ℕ → Report → Report
placed place r = record { layer = r.layer; number = r.number; place = place }

-- a load's fault is reported: a record's as its own; another's as those who perform the record report it, but at the record's place
abbrev pub LoadReported : {F : Type 0} → (F → Report → Type 0) → LoadFault F → Report → Type 0
LoadReported reported (Record fault) report = report ≡ record_report fault
LoadReported reported (Judged place fault) report = (own : Report) × reported fault own × (report ≡ placed place own)
