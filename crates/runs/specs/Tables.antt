-- The table of runs: when it is refused and with which fault, what cells and spare cells then hold, and what that says of
-- circuits and of runs of any length.
use Rattle.std.specs.Prelude.{◌≡◌, ℕ, ◌+◌, ◌*◌, ◌<◌, ◌≤◌, Bool, true, false, ◌&&◌, leb, ◌↔◌, List, [], ◌∷◌, length, Some, None, Ok, Err, Option, Result, ◌==◌, nat_le, nat_lt}
use Rattle.faults.specs.Causes.{unless, reply_of}
use Rattle.weights.specs.Kinds.{Kind}
use Rattle.runs.specs.declared.Link.{Link}
use Rattle.runs.specs.declared.TableFault.{TableFault}
use Rattle.runs.specs.declared.TableFault.TheVariants.{EventCount, Event, Length, Span, Gain}
use Rattle.runs.specs.Runs.{cell}
use Rattle.runs.specs.Gaining.{gaining_event, SomeCircuitGains, NoCircuitGains, LeastAbove}
use Rattle.runs.specs.Links.{net_of, at}
use Rattle.runs.specs.Faults.{table_report}

-- whether every element of a list passes a test
abbrev pub every : {X : Type 0} → (X → Bool) → List X → Bool
every passes [] = true
every passes (x ∷ xs) = passes x && every passes xs

-- there are 1 to 32 events
abbrev pub in_range : ℕ → Bool
in_range n = nat_le 1 n && nat_le n 32

-- a link goes between events below n
abbrev pub link_below : ℕ → Link → Bool
link_below n l = nat_lt l.from n && nat_lt l.to n

-- every link does
abbrev pub events_below : ℕ → List Link → Bool
events_below n ls = every (link_below n) ls

-- at most 128 links, as many weights, n × n cells and n spare cells
abbrev pub right_lengths : {X : Type 0} → ℕ → List Link → List X → List X → List X → Bool
right_lengths n ls ws cells spare = nat_le (length ls) 128 && (length ls == length ws && (length cells == n * n && length spare == n))

-- every weight spans at most 1
abbrev pub spans_at_most_one : (K : Kind) {X : Type 0} → (X → K.carrier) → List X → Bool
spans_at_most_one K m ws = every (λ w. leb (K.span (m w)) 1) ws

-- the fault of a gain at an event, where there is one
abbrev pub gain_fault : Option ℕ → Option TableFault
gain_fault None = None
gain_fault (Some event) = Some (Gain event)

-- what a list of weights holds after the call: on a gain none everywhere, on any other fault what it held before
abbrev pub Left : (K : Kind) {X : Type 0} → (X → K.carrier) → List X → List X → TableFault → Type 0
Left K m before after EventCount = after ≡ before
Left K m before after Event = after ≡ before
Left K m before after Length = after ≡ before
Left K m before after Span = after ≡ before
Left K m before after (Gain event) = (t : ℕ) → at K m after t ≡ K.none

module _ (K : Kind) {X : Type 0} (m : X → K.carrier) (n : ℕ) (ls : List Link) (ws cells spare : List X) where
  -- the first cause of a refusal before any run is weighed
  abbrev pub early_fault : Option TableFault → Option TableFault
  early_fault next =
      unless (in_range n) EventCount
      (unless (events_below n ls) Event
      (unless (right_lengths n ls ws cells spare) Length
      (unless (spans_at_most_one K m ws) Span next)))

  -- the fault with the lowest number of those that have a cause, or none
  abbrev pub table_fault : Option TableFault
  table_fault = early_fault (gain_fault (gaining_event K (net_of ls) (at K m ws) n))

  -- an accepted call puts into cell (i, j) the choice over all runs from i to j of fewer than n links
  abbrev pub CellsAfter : List X → Option TableFault → Type 0
  CellsAfter after None = (i j : ℕ) → i < n → j < n → at K m after (i * n + j) ≡ cell K (net_of ls) (at K m ws) n i j
  CellsAfter after (Some fault) = Left K m cells after fault

  -- the spare cells of an accepted call end as none
  abbrev pub SpareAfter : List X → Option TableFault → Type 0
  SpareAfter after None = (t : ℕ) → at K m after t ≡ K.none
  SpareAfter after (Some fault) = Left K m spare after fault

  -- what a call answers and leaves, by its fault
  pub record Tabled (fault : Option TableFault) (cells_after spare_after : List X) (r : Result (Unit {0}) TableFault) : Type 0 where
    pub reply : r ≡ reply_of fault
    pub cells_hold : CellsAfter cells_after fault
    pub spare_holds : SpareAfter spare_after fault

  -- the causes of each fault
  abbrev pub Cause : TableFault → Type 0
  Cause EventCount = in_range n ≡ false
  Cause Event = events_below n ls ≡ false
  Cause Length = right_lengths n ls ws cells spare ≡ false
  Cause Span = spans_at_most_one K m ws ≡ false
  Cause (Gain event) = gaining_event K (net_of ls) (at K m ws) n ≡ Some event

  -- of several causes the one with the lowest number is answered, and without a cause nothing is refused
  abbrev pub LowestCause : Result (Unit {0}) TableFault → Type 0
  LowestCause (Ok done) = (fault : TableFault) → Cause fault → ⊥
  LowestCause (Err fault) = Cause fault × ((other : TableFault) → Cause other → (table_report fault).number ≤ (table_report other).number)

  -- the call is refused for a gain
  abbrev pub RefusedForGain : Result (Unit {0}) TableFault → Type 0
  RefusedForGain r = (event : ℕ) × (r ≡ Err (Gain event))

  -- where no lower cause holds, the table is refused exactly when some circuit gains, which is exactly when not every
  -- circuit is at most start; and each cell of an accepted one is the least weight that no run, of any length, exceeds
  pub record TableLaw (after : List X) (r : Result (Unit {0}) TableFault) : Type 0 where
    pub lowest_cause : LowestCause r
    pub refused_so : early_fault None ≡ None → RefusedForGain r ↔ SomeCircuitGains K (net_of ls) (at K m ws)
    pub accepted_so : early_fault None ≡ None → (r ≡ Ok tt) ↔ NoCircuitGains K (net_of ls) (at K m ws)
    pub least : r ≡ Ok tt → (i j : ℕ) → i < n → j < n → LeastAbove K (net_of ls) (at K m ws) i j (at K m after (i * n + j))
