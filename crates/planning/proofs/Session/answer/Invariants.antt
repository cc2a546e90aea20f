use Rattle.timetable.specs.declared.LedgerEvent.TheVariants.{Restore, Dismiss}
use Rattle.planning.proofs.Session.answer.Given as goal

abbrev pub ghost-spend : goal.ghost-spend
ghost-spend a = Restore

abbrev pub ghost-spend-2 : goal.ghost-spend-2
ghost-spend-2 a = Dismiss
