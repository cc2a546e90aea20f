use Rattle.timetable.specs.declared.LedgerEvent.TheVariants.{Dismiss}
use Rattle.planning.proofs.Session.dismiss_lowest.Given as goal

abbrev pub ghost-spend : goal.ghost-spend
ghost-spend a = Dismiss
