-- The board's faults: layer, number and place of each.
use Rattle.std.specs.Prelude.{ℕ}
use Rattle.faults.specs.declared.Layer.TheVariants.{Board}
use Rattle.faults.specs.declared.Report.{Report}
use Rattle.board.specs.declared.fault.BoardFault.{BoardFault}
use Rattle.board.specs.declared.fault.BoardFault.TheVariants.{New, Opened, EventCount, Period, Departure, Event, Time, Tokens, Days, Letter, Full, Circuit, Number, NotStanding, NotSuspendable, Ticket, Length}

-- a number of layer board, at place 0
abbrev pub at_board : ℕ → Report
at_board number = record { layer = Board; number = number; place = 0 }

-- layer, number and place of each fault of the board
abbrev pub board_report : BoardFault → Report
board_report New = at_board 1
board_report Opened = at_board 2
board_report EventCount = at_board 3
board_report Period = at_board 4
board_report Departure = at_board 5
board_report Event = at_board 6
board_report Time = at_board 7
board_report Tokens = at_board 8
board_report Days = at_board 9
board_report Letter = at_board 10
board_report Full = at_board 11
board_report Circuit = at_board 12
board_report Number = at_board 13
board_report NotStanding = at_board 14
board_report NotSuspendable = at_board 15
board_report Ticket = at_board 16
board_report Length = at_board 18
