-- Causes of refusals one after another, in the order of their numbers: for the faults of every layer.
use Rattle.std.specs.Prelude.{Bool, cond, Some, None, Ok, Err, Option, Result}

-- a fault where a condition fails, else the next cause
abbrev pub unless : {F : Type 0} → Bool → F → Option F → Option F
unless holds fault next = cond holds next (Some fault)

-- the reply with a fault, or with none
abbrev pub reply_of : {F : Type 0} → Option F → Result (Unit {0}) F
reply_of None = Ok tt
reply_of (Some fault) = Err fault

-- the fault of a reply, or none where it is accepted
abbrev pub fault_of : {A F : Type 0} → Result A F → Option F
fault_of (Ok x) = None
fault_of (Err fault) = Some fault
