use Rattle.std.proofs.Common.{◌≡◌, ◌-◌, length}
use Rattle.board.specs.Holding.{ledger_of}
use Rattle.board.specs.Loads.{entries_held, IfHolding, IsHolding}
use Rattle.board.proofs.Board.read_entries.Given as goal

abbrev pub invariant-loop-next : goal.invariant-loop-next
invariant-loop-next l = IfHolding (ledger_of l.initial.self) (λ first. IsHolding (ledger_of l.self) (λ h. entries_held l.bytes l.place h ≡ entries_held l.bytes l.start first))

abbrev pub decreases-loop-next : goal.decreases-loop-next
decreases-loop-next l = length l.bytes - l.place
