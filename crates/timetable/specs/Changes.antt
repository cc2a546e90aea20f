-- What the ledger changes in a constraint, and in one constraint of a table.
use Rattle.std.specs.Prelude.{ℕ, zero, suc, Bool, true, false, List, [], ◌∷◌, Some, None, Option}
use Rattle.std.specs.Option.{unwrap_or}
use Rattle.timetable.specs.declared.State.{State}
use Rattle.timetable.specs.declared.State.TheVariants.{Standing, Suspended, Withdrawn}
use Rattle.timetable.specs.declared.LedgerEvent.{LedgerEvent}
use Rattle.timetable.specs.declared.LedgerEvent.TheVariants.{Suspend, Restore, Dismiss, Withdraw}
use Rattle.timetable.specs.declared.Constraint.{Constraint}

-- the state after an event, where the event is due in the state: a standing constraint is suspended or withdrawn, a suspended one is
-- restored or dismissed, and a withdrawn one stays so
abbrev pub state_after : State → LedgerEvent → Option State
state_after Standing Suspend = Some Suspended
state_after Standing Withdraw = Some Withdrawn
state_after Standing Restore = None
state_after Standing Dismiss = None
state_after Suspended Restore = Some Standing
state_after Suspended Dismiss = Some Withdrawn
state_after Suspended Suspend = None
state_after Suspended Withdraw = None
state_after Withdrawn event = None

-- whether an event can change what counts: each can but a dismissal, which leaves a constraint withdrawn that was suspended
abbrev pub changes_counted : LedgerEvent → Bool
changes_counted Suspend = true
changes_counted Restore = true
changes_counted Dismiss = false
changes_counted Withdraw = true

-- the constraint with another time
abbrev pub with_time : Constraint → ℕ → Constraint
with_time c time = record { from = c.from; to = c.to; time = time; tokens = c.tokens; days = c.days; letter = c.letter; state = c.state }

-- the constraint with another state
abbrev pub with_state : Constraint → State → Constraint
with_state c state = record { from = c.from; to = c.to; time = c.time; tokens = c.tokens; days = c.days; letter = c.letter; state = state }

-- the constraint after an event: where the event is not due it stays as it is
abbrev pub moved : LedgerEvent → Constraint → Constraint
moved event c = with_state c (unwrap_or (state_after c.state event) c.state)

-- the constraint of one number changed, and all others as they were; past the end nothing is changed
abbrev pub changed : (Constraint → Constraint) → List Constraint → ℕ → List Constraint
changed f [] k = []
changed f (c ∷ rows) zero = f c ∷ rows
changed f (c ∷ rows) (suc k) = c ∷ changed f rows k
