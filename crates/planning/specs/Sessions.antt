-- What a session's board holds, as the plain ledger.
use Rattle.board.specs.Ledger.{Ledger}
use Rattle.board.specs.Holding.{ledger_of}
use Rattle.planning.specs.declared.Session.{Session}

-- the ledger of a session's board
abbrev pub session_ledger : Session → Ledger
session_ledger s = ledger_of s.board
