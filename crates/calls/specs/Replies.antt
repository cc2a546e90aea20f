-- The replies to calls: which are acceptances, layer, number and place of each refusal, and how each reply is written.
use Rattle.std.specs.Prelude.{ℕ, Bool, is_ok, List, ◌++◌, Ok, Err, Result, codes, decimal}
use Rattle.faults.specs.declared.Report.{Report}
use Rattle.faults.specs.Shown.{report_text}
use Rattle.board.specs.Faults.{board_report}
use Rattle.board.specs.Loads.{load_report}
use Rattle.calls.specs.declared.Answer.{Answer}
use Rattle.calls.specs.declared.Answer.TheVariants as answer
use Rattle.calls.specs.declared.CallFault.{CallFault}
use Rattle.calls.specs.declared.CallFault.TheVariants as fault
use Rattle.calls.specs.declared.Reply.{Reply}

-- layer, number and place of a refused call
abbrev pub call_report : CallFault → Report
call_report (fault.Board f) = board_report f
call_report (fault.Load f) = load_report f

-- a reply that is no refusal
abbrev pub accepted : Reply → Bool
accepted r = is_ok r.0

-- an answer as it is written: done; an addition's number; or a ticket's mark and number
abbrev pub answer_text : Answer → List ℕ
answer_text answer.Done = codes "ok"
answer_text (answer.Number number) = codes "number " ++ decimal number
answer_text (answer.Ticket mark number) = codes "ticket " ++ (decimal mark ++ (codes " " ++ decimal number))

-- what is written of an answer, or of a refusal: its layer, number and place
abbrev pub outcome_text : Result Answer CallFault → List ℕ
outcome_text (Ok a) = answer_text a
outcome_text (Err f) = codes "refused " ++ report_text (call_report f)

-- a reply as it is written
abbrev pub reply_text : Reply → List ℕ
reply_text r = outcome_text r.0
