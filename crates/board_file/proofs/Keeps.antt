-- What holds of the state that a file opens, and stays through each addition, holds of the state that the file leaves.
use Rattle.std.proofs.Common.{ℕ, zero, suc, ◌+◌, List, length, IfOk, Some, None, Ok, Err, Option, Result}
use Rattle.timetable.specs.declared.Addition.{Addition}
use Rattle.board_file.specs.declared.FrameFault.{FrameFault}
use Rattle.board_file.specs.declared.RecordFault.{RecordFault}
use Rattle.board_file.specs.declared.LoadFault.{LoadFault}
use Rattle.board_file.specs.declared.OpeningRecord.{OpeningRecord}
use Rattle.board_file.specs.declared.Entry.{Entry}
use Rattle.board_file.specs.declared.Entry.TheVariants.{Add, End}
use Rattle.board_file.specs.Frames.{end_at}
use Rattle.board_file.specs.Records.{opening_at, departures_at, entry_at}
use Rattle.board_file.specs.Loading.{then_read, then_perform, then_judged, then_end, after_entry, entries_from, load_file}

module _ {S F : Type 0} (P : S → Type 0) where
  read_keeps : {X : Type 0} (r : Result X RecordFault) (next : X → Result S (LoadFault F)) → ((x : X) → IfOk (next x) P) → IfOk (then_read r next) P
  read_keeps (Ok x) next keeps = keeps x
  read_keeps (Err e) next keeps = tt

  perform_keeps : (place : ℕ) (r : Result S F) (next : S → Result S (LoadFault F)) → IfOk r P → ((s : S) → P s → IfOk (next s) P) → IfOk (then_perform place r next) P
  perform_keeps place (Ok s) next has keeps = keeps s has
  perform_keeps place (Err f) next has keeps = tt

  judged_keeps : (place : ℕ) (o : Option F) (next : Result S (LoadFault F)) → IfOk next P → IfOk (then_judged place o next) P
  judged_keeps place None next keeps = keeps
  judged_keeps place (Some f) next keeps = tt

end_keeps : {S : Type 0} (F : Type 0) (P : S → Type 0) (r : Result (Unit {0}) FrameFault) (s : S) → P s → IfOk (then_end {F = F} r s) P
end_keeps F P (Ok u) s has = has
end_keeps F P (Err e) s has = tt

module _ {S F : Type 0} (P : S → Type 0) (judge : OpeningRecord → Option F) (begin : OpeningRecord → List ℕ → Result S F) (perform : S → Addition → Result S F) (begins : (o : OpeningRecord) (departures : List ℕ) → IfOk (begin o departures) P) (goes_on : (s : S) (a : Addition) → P s → IfOk (perform s a) P) where
  entry_keeps : (bytes : List ℕ) (place : ℕ) (s : S) (next : S → Result S (LoadFault F)) (e : Entry) → P s → ((t : S) → P t → IfOk (next t) P) → IfOk (after_entry perform bytes place s next e) P
  entry_keeps bytes place s next (Add a) has keeps = perform_keeps P place (perform s a) next (goes_on s a has) keeps
  entry_keeps bytes place s next End has keeps = end_keeps F P (end_at bytes (place + 3)) s has

  entries_keep : (k : ℕ) (bytes : List ℕ) (place : ℕ) (s : S) → P s → IfOk (entries_from perform k bytes place s) P
  entries_keep zero bytes place s has = tt
  entries_keep (suc k) bytes place s has = read_keeps P (entry_at bytes place) _ (λ e. entry_keeps bytes place s _ e has (λ t h. entries_keep k bytes (place + 10) t h))

  pub load_keeps : (bytes : List ℕ) → IfOk (load_file judge begin perform bytes) P
  load_keeps bytes =
      read_keeps P (opening_at bytes 0) _ (λ o. judged_keeps P 0 (judge o) _ (read_keeps P (departures_at o.events bytes 10) _ (λ departures. perform_keeps P 10 (begin o departures) _ (begins o departures) (λ s has. entries_keep (length bytes) bytes _ s has))))
