-- What every board keeps true of its rows, through each change of them.
use Rattle.std.proofs.Common.{◌≡◌, ℕ, ◌≤◌, true, false, List, [], ◌∷◌, ◌++◌, length, Some, None, Option, sym, ap, ◌∙◌, subst, arith}
use Rattle.std.proofs.lemmas.List.{length-append}
use Rattle.std.specs.Option.{ForSome, ForNone}
use Rattle.timetable.specs.declared.Addition.{Addition}
use Rattle.timetable.specs.declared.Constraint.{Constraint}
use Rattle.timetable.specs.declared.LedgerEvent.{LedgerEvent}
use Rattle.timetable.specs.Changes.{with_time, moved, changed}
use Rattle.board_file.specs.declared.OpeningRecord.{OpeningRecord}
use Rattle.board.specs.Circuits.{NoFreeCircuit, closes_circuit}
use Rattle.board.specs.Invariant.{all_in_range}
use Rattle.board.specs.Ledger.{constraint_of, early_add_fault}
use Rattle.board.proofs.Additions.{passed, passed_in_range, range_more, sound_more}
use Rattle.board.proofs.Changes.{length_changed, range_moved, sound_moved, range_retimed, sound_retimed}
use Rattle.board.proofs.Empty.{empty_in_range, empty_sound}

-- at most 128 rows, in the ranges of the opening, without a token-free circuit; none on a new board
pub record Fit (opening : Option OpeningRecord) (rows : List Constraint) : Type 0 where
  pub few : length rows ≤ 128
  pub ranges : ForSome opening (λ o. all_in_range o.events rows ≡ true)
  pub sound : NoFreeCircuit rows
  pub blank : ForNone opening (length rows ≡ 0)

pub empty_fit : (opening : Option OpeningRecord) (rows : List Constraint) → rows ≡ [] → Fit opening rows
empty_fit opening rows empty = record { few = omega (arith, ap length empty); ranges = λ o is. empty_in_range o.events rows empty; sound = empty_sound rows empty; blank = λ new. ap length empty }

module _ (opening : Option OpeningRecord) (rows after : List Constraint) (fit : Fit opening rows) where
  pub moved_fit : (event : LedgerEvent) (k : ℕ) → after ≡ changed (moved event) rows k → Fit opening after
  moved_fit event k same = subst (Fit opening) (sym same) (record {
    few = omega (arith, fit.few, length_changed (moved event) rows k);
    ranges = λ o is. range_moved o.events event rows k (fit.ranges o is);
    sound = sound_moved event rows k fit.sound;
    blank = λ new. length_changed (moved event) rows k ∙ fit.blank new;
  })

  pub retimed_fit : (time k : ℕ) → time ≤ 14400 → after ≡ changed (λ c. with_time c time) rows k → Fit opening after
  retimed_fit time k small same = subst (Fit opening) (sym same) (record {
    few = omega (arith, fit.few, length_changed (λ c. with_time c time) rows k);
    ranges = λ o is. range_retimed o.events time small rows k (fit.ranges o is);
    sound = sound_retimed time rows k fit.sound;
    blank = λ new. length_changed (λ c. with_time c time) rows k ∙ fit.blank new;
  })

  -- one row more, of an addition that passes each test
  pub added_fit : (o : OpeningRecord) (count : ℕ) (a : Addition) → opening ≡ Some o → length rows ≡ count → early_add_fault o.events count a None ≡ None → closes_circuit o.events rows a ≡ false → after ≡ rows ++ constraint_of a ∷ [] → Fit opening after
  added_fit o count a opened long early calm same =
      let p = passed o.events count a early in
      let ranges : all_in_range o.events rows ≡ true = fit.ranges o opened in
      let more : all_in_range o.events (rows ++ constraint_of a ∷ []) ≡ true = range_more o.events rows (constraint_of a) ranges (passed_in_range o.events count a p) in
      subst (Fit opening) (sym same) (record {
        few = omega (arith, p.room, long, length-append rows (constraint_of a ∷ []));
        ranges = λ x is. let one : o ≡ x = cc in subst (λ y. all_in_range y.events (rows ++ constraint_of a ∷ []) ≡ true) one more;
        sound = sound_more o.events rows a ranges p.from calm fit.sound;
        blank = λ new. absurd (let z : ◌≡◌ {A = ℕ} 0 1 = cc in omega arith);
      })
