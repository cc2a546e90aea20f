-- What an accepted change says of the row that it changes.
use Rattle.std.proofs.Common.{◌≡◌, ℕ, ◌<◌, true, length, None, refl, arith}
use Rattle.std.proofs.lemmas.Bool.Decides.{nat_tests}
use Rattle.timetable.specs.declared.State.{State}
use Rattle.timetable.specs.declared.State.TheVariants.{Standing, Suspended, Withdrawn}
use Rattle.timetable.specs.Words.{stands, suspended, row_at}
use Rattle.board.specs.Ledger.{Held, holding, suspend_fault, spend_fault}

is_standing : (state : State) → stands state ≡ true → state ≡ Standing
is_standing Standing e = refl
is_standing Suspended e = cc
is_standing Withdrawn e = cc

is_suspended : (state : State) → suspended state ≡ true → state ≡ Suspended
is_suspended Standing e = cc
is_suspended Suspended e = refl
is_suspended Withdrawn e = cc

-- a constraint that is suspended was given and stood
pub suspend_accepted : (h : Held) (k : ℕ) → suspend_fault (holding h) k ≡ None → (k < length h.rows) × ((row_at h.rows k).state ≡ Standing)
suspend_accepted h k e =
    let inside : k < length h.rows = grind (arith, nat_tests) in
    let stood : stands (row_at h.rows k).state ≡ true = grind (arith, nat_tests) in
    (inside, is_standing (row_at h.rows k).state stood)

-- a ticket that is spent has the board's mark, and the number of a constraint that waits for it
pub spend_accepted : (h : Held) (mark k : ℕ) → spend_fault (holding h) mark k ≡ None → (h.mark ≡ mark) × ((row_at h.rows k).state ≡ Suspended)
spend_accepted h mark k e =
    let own : h.mark ≡ mark = grind (arith, nat_tests) in
    let waits : suspended (row_at h.rows k).state ≡ true = grind (arith, nat_tests) in
    (own, is_suspended (row_at h.rows k).state waits)
