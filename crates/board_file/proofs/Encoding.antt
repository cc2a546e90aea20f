-- A file of bytes is loaded with a state exactly where it is the encoding of what leads to that state.
use Rattle.std.proofs.Common.{◌≡◌, ℕ, zero, suc, ◌+◌, ◌-◌, ◌*◌, ◌≤◌, List, [], ◌∷◌, ◌++◌, length, drop, Some, None, Ok, Err, Option, Result, sym, refl, ap, ◌∙◌, arith}
use Rattle.std.proofs.lemmas.List.{drop_all, length-drop}
use Rattle.std.proofs.lemmas.Bool.Decides.{nat_tests}
use Rattle.timetable.specs.declared.Addition.{Addition}
use Rattle.board_file.specs.declared.FrameFault.{FrameFault}
use Rattle.board_file.specs.declared.RecordFault.{RecordFault}
use Rattle.board_file.specs.declared.LoadFault.{LoadFault}
use Rattle.board_file.specs.declared.OpeningRecord.{OpeningRecord}
use Rattle.board_file.specs.declared.Entry.{Entry}
use Rattle.board_file.specs.declared.Entry.TheVariants.{Add, End}
use Rattle.board_file.specs.Frames.{end_at}
use Rattle.board_file.specs.Records.{opening_at, departures_at, entry_at}
use Rattle.board_file.specs.Encodings.{encode_departures, encode_entries, Bytes, FitsAdditions}
use Rattle.board_file.specs.Loading.{then_read, then_perform, then_judged, then_end, and_then, performed, after_entry, entries_from, after_departures, after_opening, load_file, Accepted, LoadsEncodings}
use Rattle.board_file.proofs.Steps.{entries_more, entries_ended, load_begun}
use Rattle.board_file.proofs.Readings.{opening_stands, departures_stand, addition_stands, end_stands, opening_is_written, departures_are_written, addition_is_written, end_is_written}

-- the file ends at a place
ends_at : (bytes : List ℕ) (place : ℕ) → place ≡ length bytes → end_at bytes place ≡ Ok tt
ends_at bytes place e = grind (arith, nat_tests)

-- where a file ends as it has to, its end is there
end_from : (bytes : List ℕ) (place : ℕ) (u : Unit {0}) → end_at bytes place ≡ Ok u → place ≡ length bytes
end_from bytes place u e = grind (arith, nat_tests)

module _ {S F : Type 0} (perform : S → Addition → Result S F) (bytes : List ℕ) where
  -- the bytes from a place on are those of additions that fit, and that lead from one state to another
  pub record Entered (place : ℕ) (s last : S) : Type 0 where
    pub additions : List Addition
    pub fits : FitsAdditions additions
    pub written : drop place bytes ≡ encode_entries additions
    pub ended : performed perform s additions ≡ Ok last

  -- Additions whose bytes stand from a place on are read and performed. By induction on them: the first is read at the place, and the
  -- others stand ten bytes on; where there is none, the end stands there, and the file ends behind it.
  pub entries_stand : (k place : ℕ) (s last : S) (additions : List Addition) → length bytes - place ≤ k → drop place bytes ≡ encode_entries additions → performed perform s additions ≡ Ok last
      → entries_from perform k bytes place s ≡ Ok last
  entries_stand k place s last [] h written e =
      let long : length bytes - place ≡ 3 = sym (length-drop place bytes) ∙ ap length written in
      entries_ended perform bytes k place s h (end_stands bytes place written) (ends_at bytes (place + 3) (omega arith)) ∙ cc
  entries_stand k place s last (a ∷ additions) h written e =
      let w = addition_stands bytes place a (encode_entries additions) written in
      let by : (p : Result S F) → perform s a ≡ p → and_then p (λ t. performed perform t additions) ≡ Ok last → entries_from perform k bytes place s ≡ Ok last =
      λ p. elim p as (λ v. perform s a ≡ v → and_then v (λ t. performed perform t additions) ≡ Ok last → entries_from perform k bytes place s ≡ Ok last) [
        | Ok t ↦ λ is rest. entries_more perform bytes k (length bytes) place s t a h (omega arith) w.0 is ∙ entries_stand (length bytes) (place + 10) t last additions (omega arith) w.1 rest
        | Err f ↦ λ is rest. absurd cc
      ] in
      by (perform s a) refl e

  -- the end, with nothing behind it
  end_entered : (place : ℕ) (s last : S) → Bytes bytes → entry_at bytes place ≡ Ok End → (u : Result (Unit {0}) FrameFault) → end_at bytes (place + 3) ≡ u → then_end {F = F} u s ≡ Ok last → Entered place s last
  end_entered place s last small is (Err e) ends h = absurd cc
  end_entered place s last small is (Ok u) ends h =
      let w = end_is_written bytes place small is in
      let none : drop (place + 3) bytes ≡ [] = drop_all (place + 3) bytes (omega (arith, end_from bytes (place + 3) u ends)) in
      record { additions = []; fits = tt; written = cc (w.0, none); ended = cc }

  -- an addition, and what follows it
  addition_entered : (place : ℕ) (s last : S) (a : Addition) (next : S → Result S (LoadFault F)) → Bytes bytes → entry_at bytes place ≡ Ok (Add a) → ((t : S) → next t ≡ Ok last → Entered (place + 10) t last)
      → (p : Result S F) → perform s a ≡ p → then_perform place p next ≡ Ok last → Entered place s last
  addition_entered place s last a next small is further (Err f) made h = absurd cc
  addition_entered place s last a next small is further (Ok t) made h =
      let w = addition_is_written bytes place a small is in
      let rest = further t h in
      record {
        additions = a ∷ rest.additions;
        fits = (w.1, rest.fits);
        written = cc (w.0, rest.written);
        ended = rw made rest.ended;
      }

  -- an entry, and what follows it
  entry_entered : (place : ℕ) (s last : S) (next : S → Result S (LoadFault F)) → Bytes bytes → ((t : S) → next t ≡ Ok last → Entered (place + 10) t last)
      → (q : Result Entry RecordFault) → entry_at bytes place ≡ q → then_read q (after_entry perform bytes place s next) ≡ Ok last → Entered place s last
  entry_entered place s last next small further (Err e) is h = absurd cc
  entry_entered place s last next small further (Ok End) is h = end_entered place s last small is (end_at bytes (place + 3)) refl h
  entry_entered place s last next small further (Ok (Add a)) is h = addition_entered place s last a next small is further (perform s a) refl h

  -- Entries that are read and performed to a state are additions whose bytes stand from the place on. By induction on the fuel.
  pub entries_are_written : (k place : ℕ) (s last : S) → Bytes bytes → entries_from perform k bytes place s ≡ Ok last → Entered place s last
  entries_are_written zero place s last small h = absurd cc
  entries_are_written (suc k) place s last small h =
      entry_entered place s last (λ t. entries_from perform k bytes (place + 10) t) small (λ t g. entries_are_written k (place + 10) t last small g) (entry_at bytes place) refl h

module _ {S F : Type 0} (judge : OpeningRecord → Option F) (begin : OpeningRecord → List ℕ → Result S F) (perform : S → Addition → Result S F) (bytes : List ℕ) (last : S) where
  -- The encoding of what leads to a state is loaded with that state: each record's bytes stand where the one before ends, so each is read.
  pub encoding_is_loaded : Accepted judge begin perform bytes last → load_file judge begin perform bytes ≡ Ok last
  encoding_is_loaded accepted =
      let o = accepted.opening in
      let w = opening_stands bytes o (encode_departures accepted.departures ++ encode_entries accepted.additions) accepted.encoded in
      let v = departures_stand bytes 10 o.events accepted.departures (encode_entries accepted.additions) accepted.counted w.1 in
      load_begun judge begin perform bytes (length bytes) o accepted.departures accepted.first w.0 accepted.judged v.0 accepted.begun (omega arith)
      ∙ entries_stand perform bytes (length bytes) (13 + 4 * o.events) accepted.first last accepted.additions (omega arith) v.1 accepted.ended

  -- from the entries back to the file
  begun_accepted : (o : OpeningRecord) (departures : List ℕ) → Bytes bytes → opening_at bytes 0 ≡ Ok o → judge o ≡ None → departures_at o.events bytes 10 ≡ Ok departures
      → (p : Result S F) → begin o departures ≡ p → then_perform 10 p (λ s. entries_from perform (length bytes) bytes (13 + 4 * o.events) s) ≡ Ok last → Accepted judge begin perform bytes last
  begun_accepted o departures small opened judged read (Err f) begun h = absurd cc
  begun_accepted o departures small opened judged read (Ok first) begun h =
      let w = opening_is_written bytes o small opened in
      let v = departures_are_written bytes 10 o.events departures small read in
      let x = entries_are_written perform bytes (length bytes) (13 + 4 * o.events) first last small h in
      record {
        opening = o;
        departures = departures;
        additions = x.additions;
        first = first;
        fits_opening = w.1;
        fits_departures = v.1;
        fits_additions = x.fits;
        counted = v.2;
        encoded = cc (w.0, v.0, x.written);
        judged = judged;
        begun = begun;
        ended = x.ended;
      }

  -- from the departures back to the file
  departures_accepted : (o : OpeningRecord) → Bytes bytes → opening_at bytes 0 ≡ Ok o → judge o ≡ None → (q : Result (List ℕ) RecordFault) → departures_at o.events bytes 10 ≡ q
      → then_read q (after_departures judge begin perform bytes o) ≡ Ok last → Accepted judge begin perform bytes last
  departures_accepted o small opened judged (Err e) read h = absurd cc
  departures_accepted o small opened judged (Ok departures) read h = begun_accepted o departures small opened judged read (begin o departures) refl h

  -- from what is judged of the opening record back to the file
  judged_accepted : (o : OpeningRecord) → Bytes bytes → opening_at bytes 0 ≡ Ok o → (j : Option F) → judge o ≡ j → then_judged 0 j (then_read (departures_at o.events bytes 10) (after_departures judge begin perform bytes o)) ≡ Ok last
      → Accepted judge begin perform bytes last
  judged_accepted o small opened (Some f) judged h = absurd cc
  judged_accepted o small opened None judged h = departures_accepted o small opened judged (departures_at o.events bytes 10) refl h

  -- from the opening record back to the file
  opening_accepted : Bytes bytes → (q : Result OpeningRecord RecordFault) → opening_at bytes 0 ≡ q → then_read q (after_opening judge begin perform bytes) ≡ Ok last → Accepted judge begin perform bytes last
  opening_accepted small (Err e) opened h = absurd cc
  opening_accepted small (Ok o) opened h = judged_accepted o small opened (judge o) refl h

  -- A file that is loaded is an encoding: no step stops it, and what each step reads stands there as its bytes, one behind the other.
  pub loaded_is_encoding : Bytes bytes → load_file judge begin perform bytes ≡ Ok last → Accepted judge begin perform bytes last
  loaded_is_encoding small h = opening_accepted small (opening_at bytes 0) refl h

-- a file of bytes is loaded with a state exactly where it is accepted with it
pub loads_encodings : {S F : Type 0} (judge : OpeningRecord → Option F) (begin : OpeningRecord → List ℕ → Result S F) (perform : S → Addition → Result S F) → LoadsEncodings judge begin perform
loads_encodings judge begin perform bytes small s = (loaded_is_encoding judge begin perform bytes s small, encoding_is_loaded judge begin perform bytes s)
