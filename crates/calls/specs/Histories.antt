-- The plain ledger over calls: the fault that each call gets, what it replies and what it leaves; and the same of a list of calls in order.
use Rattle.std.specs.Prelude.{List, [], ◌∷◌, Some, None, Ok, Err, vec_items, Option, Result}
use Rattle.std.specs.Option.{option_map}
use Rattle.timetable.specs.declared.LedgerEvent.TheVariants as event
use Rattle.board.specs.Ledger.{Ledger, open_fault, open_after, add_fault, add_after, next_number, retime_fault, retime_after, withdraw_fault, withdraw_after, suspend_fault, suspend_after, mark_of, spend_fault, spend_after}
use Rattle.board.specs.Loads.{load_fault, load_after}
use Rattle.calls.specs.declared.Answer.{Answer}
use Rattle.calls.specs.declared.Answer.TheVariants as answer
use Rattle.calls.specs.declared.Call.{Call}
use Rattle.calls.specs.declared.Call.TheVariants as call
use Rattle.calls.specs.declared.CallFault.{CallFault}
use Rattle.calls.specs.declared.CallFault.TheVariants as fault
use Rattle.calls.specs.declared.Reply.{Reply}

-- the fault that a call gets for what the ledger holds, or none
abbrev pub call_fault : Ledger → Call → Option CallFault
call_fault l (call.Open mark events period departures) = option_map fault.Board (open_fault l events period (vec_items departures))
call_fault l (call.Load bytes) = option_map fault.Load (load_fault l (vec_items bytes))
call_fault l (call.Add addition) = option_map fault.Board (add_fault l addition)
call_fault l (call.Retime number time) = option_map fault.Board (retime_fault l number time)
call_fault l (call.Withdraw number) = option_map fault.Board (withdraw_fault l number)
call_fault l (call.Suspend number) = option_map fault.Board (suspend_fault l number)
call_fault l (call.Restore mark number) = option_map fault.Board (spend_fault l mark number)
call_fault l (call.Dismiss mark number) = option_map fault.Board (spend_fault l mark number)

-- what the ledger holds after a call
abbrev pub call_after : Ledger → Call → Ledger
call_after l (call.Open mark events period departures) = open_after l mark events period (vec_items departures)
call_after l (call.Load bytes) = load_after l (vec_items bytes)
call_after l (call.Add addition) = add_after l addition
call_after l (call.Retime number time) = retime_after l number time
call_after l (call.Withdraw number) = withdraw_after l number
call_after l (call.Suspend number) = suspend_after l number
call_after l (call.Restore mark number) = spend_after event.Restore l mark number
call_after l (call.Dismiss mark number) = spend_after event.Dismiss l mark number

-- what a call answers when it is accepted: an addition its number, a suspension its ticket, and every other that it is done
abbrev pub accepted_answer : Ledger → Call → Answer
accepted_answer l (call.Add addition) = answer.Number (next_number l)
accepted_answer l (call.Suspend number) = answer.Ticket (mark_of l) number
accepted_answer l _ = answer.Done

-- a refusal with the fault, where there is one, else the answer
abbrev pub unless_fault : Option CallFault → Answer → Result Answer CallFault
unless_fault None a = Ok a
unless_fault (Some f) a = Err f

-- what a call answers, or its fault
abbrev pub outcome_of : Ledger → Call → Result Answer CallFault
outcome_of l c = unless_fault (call_fault l c) (accepted_answer l c)

-- the reply to a call
abbrev pub reply_to : Ledger → Call → Reply
reply_to l c = record { 0 = outcome_of l c }

-- what the ledger holds after a list of calls, in order
abbrev pub ledger_through : Ledger → List Call → Ledger
ledger_through l [] = l
ledger_through l (c ∷ calls) = ledger_through (call_after l c) calls

-- the replies to a list of calls, in order
abbrev pub replies_to : Ledger → List Call → List Reply
replies_to l [] = []
replies_to l (c ∷ calls) = reply_to l c ∷ replies_to (call_after l c) calls
