-- What the call answers, from what its loops leave; and what the answer says in the subject's words.
use Rattle.std.proofs.Common.{length, ◌≡◌, ℕ, ◌≤◌, Bool, true, false, List, Some, None, Ok, Err, Option, Result, sym, refl, ap, ◌∙◌, subst, arith}
use borrow.Author.Tests.{clash}
use Rattle.faults.specs.Causes.{unless, reply_of}
use Rattle.faults.proofs.Refusals.{unless_none}
use Rattle.weights.specs.Kinds.{Kind, Laws, Idempotent}
use Rattle.runs.specs.declared.Link.{Link}
use Rattle.runs.specs.declared.TableFault.{TableFault}
use Rattle.runs.specs.declared.TableFault.TheVariants.{EventCount, Event, Length, Span, Gain}
use Rattle.runs.specs.Nets.{Net, Within}
use Rattle.runs.specs.Runs.{closed_runs}
use Rattle.runs.specs.Gaining.{some_gains, gaining_event, SomeCircuitGains, NoCircuitGains, LeastAbove}
use Rattle.runs.specs.Links.{net_of, at}
use Rattle.runs.specs.Faults.{table_report}
use Rattle.runs.specs.Rounds.{Fit}
use Rattle.runs.specs.Tables.{in_range, events_below, right_lengths, spans_at_most_one, gain_fault, early_fault, table_fault, CellsAfter, Tabled, Cause, LowestCause, TableLaw}
use Rattle.runs.proofs.Extending.{net_within}
use Rattle.runs.proofs.Searches.{links_are_below, all_span, lowest_passes, none_passes}
use Rattle.runs.proofs.Theorem.{gaining_circuit, no_gaining_circuit, none_gains_closed, least_above}

reply_none : (o : Option TableFault) → reply_of o ≡ Ok tt → o ≡ None
reply_none None e = refl
reply_none (Some f) e = absurd (let z : ◌≡◌ {A = ℕ} 0 1 = cc in omega arith)

gain_none : (o : Option ℕ) → gain_fault o ≡ None → o ≡ None
gain_none None e = refl
gain_none (Some j) e = absurd (let z : ◌≡◌ {A = ℕ} 0 1 = cc in omega arith)

gain_event : (o : Option ℕ) (j : ℕ) → reply_of (gain_fault o) ≡ Err (Gain j) → o ≡ Some j
gain_event None j e = absurd (let z : ◌≡◌ {A = ℕ} 0 1 = cc in omega arith)
gain_event (Some i) j e = let same : i ≡ j = cc in ap Some same

pub links_within : (n : ℕ) (ls : List Link) → events_below n ls ≡ true → Within n (net_of ls)
links_within n ls e = net_within n ls (links_are_below n ls e)

module _ (K : Kind) {X : Type 0} (m : X → K.carrier) (n : ℕ) (ls : List Link) (ws : List X) where
  abbrev net : Net
  net = net_of ls

  abbrev w : ℕ → K.carrier
  w = at K m ws

  pub fit_from : events_below n ls ≡ true → length ls ≡ length ws → spans_at_most_one K m ws ≡ true → Fit K m n ls ws
  fit_from below paired light = record { paired = paired; within = links_are_below n ls below; light = (all_span K m 1 ws).0 light }

  module _ (cells spare cells' spare' : List X) where
    module _ (L : Laws K) (I : Idempotent K) where
      abbrev range : Bool
      range = in_range n

      abbrev below : Bool
      below = events_below n ls

      abbrev lengths : Bool
      lengths = right_lengths n ls ws cells spare

      abbrev light : Bool
      light = spans_at_most_one K m ws

      abbrev gain : Option ℕ
      gain = gaining_event K net w n

      -- of several causes the lowest is answered: by the causes one after another
      causes : (a b c d : Bool) (o : Option ℕ) → range ≡ a → below ≡ b → lengths ≡ c → light ≡ d → gain ≡ o
          → LowestCause K m n ls ws cells spare (reply_of (unless a EventCount (unless b Event (unless c Length (unless d Span (gain_fault o))))))
      causes false b c d o ea eb ec ed eo = (ea, least)
        where
          least : (other : TableFault) → Cause K m n ls ws cells spare other → 3 ≤ (table_report other).number
          least EventCount h = omega arith
          least Event h = omega arith
          least Length h = omega arith
          least Span h = omega arith
          least (Gain j) h = omega arith
      causes true false c d o ea eb ec ed eo = (eb, least)
        where
          least : (other : TableFault) → Cause K m n ls ws cells spare other → 6 ≤ (table_report other).number
          least EventCount h = absurd (clash (sym h ∙ ea))
          least Event h = omega arith
          least Length h = omega arith
          least Span h = omega arith
          least (Gain j) h = omega arith
      causes true true false d o ea eb ec ed eo = (ec, least)
        where
          least : (other : TableFault) → Cause K m n ls ws cells spare other → 18 ≤ (table_report other).number
          least EventCount h = absurd (clash (sym h ∙ ea))
          least Event h = absurd (clash (sym h ∙ eb))
          least Length h = omega arith
          least Span h = omega arith
          least (Gain j) h = omega arith
      causes true true true false o ea eb ec ed eo = (ed, least)
        where
          least : (other : TableFault) → Cause K m n ls ws cells spare other → 22 ≤ (table_report other).number
          least EventCount h = absurd (clash (sym h ∙ ea))
          least Event h = absurd (clash (sym h ∙ eb))
          least Length h = absurd (clash (sym h ∙ ec))
          least Span h = omega arith
          least (Gain j) h = omega arith
      causes true true true true (Some i) ea eb ec ed eo = (eo, least)
        where
          least : (other : TableFault) → Cause K m n ls ws cells spare other → 23 ≤ (table_report other).number
          least EventCount h = absurd (clash (sym h ∙ ea))
          least Event h = absurd (clash (sym h ∙ eb))
          least Length h = absurd (clash (sym h ∙ ec))
          least Span h = absurd (clash (sym h ∙ ed))
          least (Gain j) h = omega arith
      causes true true true true None ea eb ec ed eo = none
        where
          none : (other : TableFault) → Cause K m n ls ws cells spare other → ⊥
          none EventCount h = clash (sym h ∙ ea)
          none Event h = clash (sym h ∙ eb)
          none Length h = clash (sym h ∙ ec)
          none Span h = clash (sym h ∙ ed)
          none (Gain j) h = let z : ◌≡◌ {A = ℕ} 0 1 = cc in omega arith

      -- where no lower cause holds
      pub record Clear (next : Option TableFault) : Type 0 where
        pub no_range : range ≡ true
        pub no_event : below ≡ true
        pub no_length : lengths ≡ true
        pub no_span : light ≡ true
        pub no_next : next ≡ None

      clear_from : (next : Option TableFault) → early_fault K m n ls ws cells spare next ≡ None → Clear next
      clear_from next e =
          let a = unless_none range EventCount (unless below Event (unless lengths Length (unless light Span next))) e in
          let b = unless_none below Event (unless lengths Length (unless light Span next)) a.1 in
          let c = unless_none lengths Length (unless light Span next) b.1 in
          let d = unless_none light Span next c.1 in
          record { no_range = a.0; no_event = b.0; no_length = c.0; no_span = d.0; no_next = d.1 }

      only_gain : Clear None → table_fault K m n ls ws cells spare ≡ gain_fault gain
      only_gain c =
          ap (λ t. unless t EventCount (unless below Event (unless lengths Length (unless light Span (gain_fault gain))))) c.no_range
          ∙ ap (λ t. unless t Event (unless lengths Length (unless light Span (gain_fault gain)))) c.no_event
          ∙ ap (λ t. unless t Length (unless light Span (gain_fault gain))) c.no_length
          ∙ ap (λ t. unless t Span (gain_fault gain)) c.no_span

      some_circuit : (j : ℕ) → gain ≡ Some j → SomeCircuitGains K net w
      some_circuit j e = gaining_circuit K L I net w n j (lowest_passes (λ i. some_gains K w (closed_runs net n i)) n j e)

      no_circuit : below ≡ true → gain ≡ None → NoCircuitGains K net w
      no_circuit b e = no_gaining_circuit K L I net w n (links_within n ls b) (none_passes (λ i. some_gains K w (closed_runs net n i)) n e)

      no_gain : NoCircuitGains K net w → gain ≡ None
      no_gain none = go gain refl
        where
          go : (o : Option ℕ) → gain ≡ o → o ≡ None
          go None is = refl
          go (Some j) is = absurd (clash (sym (none_gains_closed K L I net w none n j) ∙ lowest_passes (λ i. some_gains K w (closed_runs net n i)) n j is))

      some_gain : below ≡ true → SomeCircuitGains K net w → (j : ℕ) × (gain ≡ Some j)
      some_gain b s = go gain refl
        where
          go : (o : Option ℕ) → gain ≡ o → (j : ℕ) × (o ≡ Some j)
          go (Some j) is = (j, refl)
          go None is = absurd (s.3 (no_circuit b is s.0 s.1 s.2))

      pub law_from : (r : Result (Unit {0}) TableFault) → Tabled K m n ls ws cells spare (table_fault K m n ls ws cells spare) cells' spare' r → TableLaw K m n ls ws cells spare cells' r
      law_from r t = record {
        lowest_cause = subst (LowestCause K m n ls ws cells spare) (sym t.reply) (causes range below lengths light gain refl refl refl refl refl);
        refused_so = λ e.
            let c : Clear None = clear_from None e in
            let is : r ≡ reply_of (gain_fault gain) = t.reply ∙ ap reply_of (only_gain c) in (
              λ refused. some_circuit refused.0 (gain_event gain refused.0 (sym is ∙ refused.1)),
              λ some. let found = some_gain c.no_event some in (found.0, is ∙ ap (λ o. reply_of (gain_fault o)) found.1),
            );
        accepted_so = λ e.
            let c : Clear None = clear_from None e in
            let is : r ≡ reply_of (gain_fault gain) = t.reply ∙ ap reply_of (only_gain c) in (
              λ ok. no_circuit c.no_event (gain_none gain (reply_none (gain_fault gain) (sym is ∙ ok))),
              λ none. is ∙ ap (λ o. reply_of (gain_fault o)) (no_gain none),
            );
        least = λ ok i j hi hj.
            let fault : table_fault K m n ls ws cells spare ≡ None = reply_none (table_fault K m n ls ws cells spare) (sym t.reply ∙ ok) in
            let c : Clear (gain_fault gain) = clear_from (gain_fault gain) fault in
            let held : CellsAfter K m n ls ws cells spare cells' None = subst (CellsAfter K m n ls ws cells spare cells') fault t.cells_hold in
            subst (LeastAbove K net w i j) (sym (held i j hi hj)) (least_above K L I net w (no_circuit c.no_event (gain_none gain c.no_next)) n (links_within n ls c.no_event) i j hj);
      }
