-- A run that meets an event twice falls into three parts, of which the second is closed and can be cut out; and a run of n
-- links or more among n events meets one twice, since its events would else be more than n distinct numbers below n.
use Rattle.std.proofs.Common.{◌≡◌, ℕ, zero, suc, ◌+◌, ◌<◌, ◌≤◌, ◌⊎◌, List, [], ◌∷◌, ◌++◌, map, length, sym, refl, ap, ◌∙◌, subst, inl, inr, ⊎_elim, arith}
use Rattle.std.proofs.lemmas.List.{append-nil, length-append, length-map}
use Rattle.runs.specs.Nets.{Net, In, Distinct, IsRun, Within}
use Rattle.runs.proofs.Members.{in?}
use Rattle.runs.proofs.Pigeonhole.{at_most}

-- a run from s to j in two parts, the second beginning at event e
pub record Parted (net : Net) (s j e : ℕ) (run : List ℕ) : Type 0 where
  pub front : List ℕ
  pub back : List ℕ
  pub whole : run ≡ front ++ back
  pub front_run : IsRun net s e front
  pub back_run : IsRun net e j back
  pub some : 0 < length back

-- a run from i to j in three parts, the second closed
pub record Cut (net : Net) (i j : ℕ) (run : List ℕ) : Type 0 where
  pub event : ℕ
  pub before : List ℕ
  pub loop : List ℕ
  pub after : List ℕ
  pub whole : run ≡ before ++ (loop ++ after)
  pub before_run : IsRun net i event before
  pub loop_run : IsRun net event event loop
  pub after_run : IsRun net event j after
  pub some : 0 < length loop

module _ (net : Net) where
  -- the events from which the links of a run go
  abbrev pub events : List ℕ → List ℕ
  events run = map net.from run

  pub run_append : (i e j : ℕ) (p q : List ℕ) → IsRun net i e p → IsRun net e j q → IsRun net i j (p ++ q)
  run_append i e j [] q is more = subst (λ z. IsRun net z j q) (sym is) more
  run_append i e j (l ∷ p) q is more = (is.0, is.1, run_append (net.to l) e j p q is.2 more)

  -- in two, before a link from e
  part : (s j e : ℕ) (run : List ℕ) → In e (events run) → IsRun net s j run → Parted net s j e run
  part s j e [] h is = absurd h
  part s j e (l ∷ run) (inl same) is = record {
    front = [];
    back = l ∷ run;
    whole = refl;
    front_run = sym (same ∙ is.1);
    back_run = (is.0, sym same, is.2);
    some = omega arith;
  }
  part s j e (l ∷ run) (inr h) is =
      let t : Parted net (net.to l) j e run = part (net.to l) j e run h is.2 in
      record {
        front = l ∷ t.front;
        back = t.back;
        whole = ap (λ y. l ∷ y) t.whole;
        front_run = (is.0, is.1, t.front_run);
        back_run = t.back_run;
        some = t.some;
      }

  -- a cut that leaves a link behind the closed part
  abbrev pub InnerCut : ℕ → ℕ → List ℕ → Type 0
  InnerCut i j run = (c : Cut net i j run) × (0 < length c.after)

  -- no event twice among those that links go from, or a closed part with a link behind it
  pub distinct_or_cut : (run : List ℕ) (i j : ℕ) → IsRun net i j run → Distinct (events run) ⊎ InnerCut i j run
  distinct_or_cut [] i j is = inl tt
  distinct_or_cut (l ∷ run) i j is = go (distinct_or_cut run (net.to l) j is.2) (in? (net.from l) (events run))
    where
      go : Distinct (events run) ⊎ InnerCut (net.to l) j run → Dec (In (net.from l) (events run)) → Distinct (events (l ∷ run)) ⊎ InnerCut i j (l ∷ run)
      go (inr c) d = inr (
        record {
          event = c.0.event;
          before = l ∷ c.0.before;
          loop = c.0.loop;
          after = c.0.after;
          whole = ap (λ y. l ∷ y) c.0.whole;
          before_run = (is.0, is.1, c.0.before_run);
          loop_run = c.0.loop_run;
          after_run = c.0.after_run;
          some = c.0.some;
        },
        c.1,
      )
      go (inl d) (no nh) = inl (nh, d)
      go (inl d) (yes h) =
          let t : Parted net (net.to l) j (net.from l) run = part (net.to l) j (net.from l) run h is.2 in
          inr (
            record {
              event = net.from l;
              before = [];
              loop = l ∷ t.front;
              after = t.back;
              whole = ap (λ y. l ∷ y) t.whole;
              before_run = sym is.1;
              loop_run = (is.0, refl, t.front_run);
              after_run = t.back_run;
              some = omega arith;
            },
            t.some,
          )

  pub events_below : (n : ℕ) → Within n net → (i j x : ℕ) (run : List ℕ) → IsRun net i j run → In x (events run) → x < n
  events_below n b i j x [] is h = absurd h
  events_below n b i j x (l ∷ run) is (inl e) = subst (λ y. y < n) (sym e) (b l is.0).0
  events_below n b i j x (l ∷ run) is (inr h) = events_below n b (net.to l) j x run is.2 h

  pub long_cut : (n : ℕ) → Within n net → (i j : ℕ) → j < n → (run : List ℕ) → IsRun net i j run → n ≤ length run → Cut net i j run
  long_cut n b i j hj run is long = go (distinct_or_cut run i j is) (in? j (events run))
    where
      go : Distinct (events run) ⊎ InnerCut i j run → Dec (In j (events run)) → Cut net i j run
      go (inr c) d = c.0
      go (inl d) (yes h) =
          let t : Parted net i j j run = part i j j run h is in
          record {
            event = j;
            before = t.front;
            loop = t.back;
            after = [];
            whole = t.whole ∙ ap (λ y. t.front ++ y) (sym (append-nil t.back));
            before_run = t.front_run;
            loop_run = t.back_run;
            after_run = refl;
            some = t.some;
          }
      go (inl d) (no nh) =
          let few : length (j ∷ events run) ≤ n = at_most n (j ∷ events run) (nh, d) (λ x. ⊎_elim (λ e. subst (λ y. y < n) (sym e) hj) (events_below n b i j x run is)) in
          absurd (omega (arith, length-map run net.from))

  module _ (i j : ℕ) (run : List ℕ) (c : Cut net i j run) where
    pub cut_length : length run ≡ length c.before + (length c.loop + length c.after)
    cut_length = ap length c.whole ∙ length-append c.before (c.loop ++ c.after) ∙ ap (λ y. length c.before + y) (length-append c.loop c.after)

    -- what is left is a shorter run
    pub short_run : IsRun net i j (c.before ++ c.after)
    short_run = run_append i c.event j c.before c.after c.before_run c.after_run

    pub short_length : length (c.before ++ c.after) < length run
    short_length = omega (arith, cut_length, length-append c.before c.after, c.some)

  -- a run that meets no event twice, not even its last
  pub record Simple (i j : ℕ) : Type 0 where
    pub run : List ℕ
    pub is_run : IsRun net i j run
    pub apart : Distinct (events run)
    pub once : In j (events run) → ⊥

  -- where there is a run there is a simple one: cut closed parts out, and end at the first visit of the last event
  simple_within : (k i j : ℕ) (run : List ℕ) → length run ≤ k → IsRun net i j run → Simple i j
  simple_within zero i j [] le is = record { run = []; is_run = is; apart = tt; once = λ h. h }
  simple_within zero i j (l ∷ run) le is = absurd (omega arith)
  simple_within (suc k) i j run le is = go (simple_within k i j) (distinct_or_cut run i j is) (in? j (events run))
    where
      go : ((r : List ℕ) → length r ≤ k → IsRun net i j r → Simple i j) → Distinct (events run) ⊎ InnerCut i j run → Dec (In j (events run)) → Simple i j
      go ih (inr (c, more)) d = ih (c.before ++ c.after) (omega (arith, short_length i j run c)) (short_run i j run c)
      go ih (inl apart) (no once) = record { run = run; is_run = is; apart = apart; once = once }
      go ih (inl apart) (yes h) =
          let t : Parted net i j j run = part i j j run h is in
          ih t.front (omega (arith, ap length t.whole, length-append t.front t.back, t.some)) t.front_run

  pub simple_run : (i j : ℕ) (run : List ℕ) → IsRun net i j run → Simple i j
  simple_run i j run is = simple_within (length run) i j run (omega arith) is

  -- a run in two parts around one of its links
  pub record Around (i j l : ℕ) (run : List ℕ) : Type 0 where
    pub before : List ℕ
    pub after : List ℕ
    pub whole : run ≡ before ++ l ∷ after
    pub before_run : IsRun net i (net.from l) before
    pub after_run : IsRun net (net.to l) j after

  pub around : (i j l : ℕ) (run : List ℕ) → In l run → IsRun net i j run → Around i j l run
  around i j l [] h is = absurd h
  around i j l (k ∷ run) (inl same) is = record {
    before = [];
    after = run;
    whole = ap (λ y. y ∷ run) (sym same);
    before_run = sym (ap net.from same ∙ is.1);
    after_run = subst (λ y. IsRun net (net.to y) j run) (sym same) is.2;
  }
  around i j l (k ∷ run) (inr h) is =
      let t : Around (net.to k) j l run = around (net.to k) j l run h is.2 in
      record {
        before = k ∷ t.before;
        after = t.after;
        whole = ap (λ y. k ∷ y) t.whole;
        before_run = (is.0, is.1, t.before_run);
        after_run = t.after_run;
      }
