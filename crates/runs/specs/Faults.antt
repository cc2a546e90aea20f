-- The faults of the table of runs: layer, number and place of each.
use Rattle.faults.specs.declared.Layer.TheVariants.{Table}
use Rattle.faults.specs.declared.Report.{Report}
use Rattle.runs.specs.declared.TableFault.{TableFault}
use Rattle.runs.specs.declared.TableFault.TheVariants.{EventCount, Event, Length, Span, Gain}

-- a refusal of the table: all have layer table, and only a gain has a place other than 0, its event
abbrev pub table_report : TableFault → Report
table_report EventCount = record { layer = Table; number = 3; place = 0 }
table_report Event = record { layer = Table; number = 6; place = 0 }
table_report Length = record { layer = Table; number = 18; place = 0 }
table_report Span = record { layer = Table; number = 22; place = 0 }
table_report (Gain event) = record { layer = Table; number = 23; place = event }
