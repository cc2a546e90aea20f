-- What a round does to the values, and what the values are.
use Rattle.std.proofs.Common.{◌≡◌, ℕ, zero, suc, ◌+◌, ◌*◌, ◌<◌, ◌≤◌, Bool, true, false, cond, eqb, ◌⊎◌, List, [], ◌∷◌, length, set, ℤ, pos, ◌+ℤ◌, nat_abs, ◌≤ℤ◌, ◌<ℤ◌, sym, refl, ap, ◌∙◌, subst, inl, inr, add-one, arith, eq-eqb, ne_eqb, eqb-true}
use native.Mathlib.Decide.{ℕ_discrete, dec_lt}
use lib.Signed.{le_z}
use Rattle.std.specs.Int.{int_max}
use Rattle.std.proofs.ByRecursion.{All-get_or, All-weaker}
use Rattle.std.proofs.lemmas.Int.{ints, clamps}
use Rattle.std.proofs.lemmas.List.{get_or-set_same, get_or-set_other, get_or_past}
use Rattle.circuits.specs.declared.Arc.{Arc}
use Rattle.runs.specs.Nets.{In, IsRun}
use Rattle.runs.proofs.Members.{in_counting, counting_in}
use Rattle.circuits.specs.Arcs.{no_arc, start_of, end_of, arcs_net, CircuitOf, sum, ArcsBelow}
use Rattle.circuits.specs.Rounds.{rise, value, at, HoldsRound, HoldsRise, WeightsFit, ValuesFit}
use Rattle.circuits.specs.Walks.{IsRaised}

cond_over : (b : Bool) (x y u : ℤ) → u ≤ℤ y → u ≤ℤ cond b (int_max x y) y
cond_over true x y u h = omega (arith, ints, clamps)
cond_over false x y u h = h

cond_under : (b : Bool) (x y u : ℤ) → x ≤ℤ u → y ≤ℤ u → cond b (int_max x y) y ≤ℤ u
cond_under true x y u h k = omega (arith, ints, clamps)
cond_under false x y u h k = k

max_first : (x y : ℤ) → x ≤ℤ int_max x y
max_first x y = omega (arith, ints, clamps)

-- the numbers of the arcs are the places in their list
pub arc_inside : (arcs : List Arc) (a : ℕ) → In a (arcs_net arcs).links → a < length arcs
arc_inside arcs a m = let lt : a < 0 + length arcs = in_counting a 0 (length arcs) m in omega arith

pub inside_arc : (arcs : List Arc) (a : ℕ) → a < length arcs → In a (arcs_net arcs).links
inside_arc arcs a h = counting_in a 0 (length arcs) (omega arith) (omega arith)

module _ (arcs : List Arc) (w : ℕ → ℤ) where
  pub rise_none : (v : ℕ → ℤ) (j : ℕ) → rise arcs w v j 0 ≡ v j
  unfolding rise
  rise_none v j = refl

  pub rise_on : (v : ℕ → ℤ) (j k : ℕ) → end_of arcs k ≡ j → rise arcs w v j (k + 1) ≡ int_max (v (start_of arcs k) +ℤ w k) (rise arcs w v j k)
  unfolding rise
  rise_on v j k e = rw (add-one k) (ap (λ t. cond t (int_max (v (start_of arcs k) +ℤ w k) (rise arcs w v j k)) (rise arcs w v j k)) (eq-eqb (end_of arcs k) j e))

  pub rise_by : (v : ℕ → ℤ) (j k : ℕ) → (end_of arcs k ≡ j → ⊥) → rise arcs w v j (k + 1) ≡ rise arcs w v j k
  unfolding rise
  rise_by v j k e = rw (add-one k) (ap (λ t. cond t (int_max (v (start_of arcs k) +ℤ w k) (rise arcs w v j k)) (rise arcs w v j k)) (ne_eqb (end_of arcs k) j e))

  pub rise_over : (v : ℕ → ℤ) (j k : ℕ) → v j ≤ℤ rise arcs w v j k
  unfolding rise
  rise_over v j zero = omega (arith, ints)
  rise_over v j (suc k) = cond_over (eqb (end_of arcs k) j) (v (start_of arcs k) +ℤ w k) (rise arcs w v j k) (v j) (rise_over v j k)

  pub rise_arc : (v : ℕ → ℤ) (j k a : ℕ) → a < k → end_of arcs a ≡ j → (v (start_of arcs a) +ℤ w a) ≤ℤ rise arcs w v j k
  unfolding rise
  rise_arc v j zero a h e = absurd (omega arith)
  rise_arc v j (suc k) a h e = go (ℕ_discrete a k) (rise_arc v j k a)
    where
      go : Dec (a ≡ k) → (a < k → end_of arcs a ≡ j → (v (start_of arcs a) +ℤ w a) ≤ℤ rise arcs w v j k) → (v (start_of arcs a) +ℤ w a) ≤ℤ rise arcs w v j (suc k)
      go (yes same) ih =
          subst (λ t. (v (start_of arcs a) +ℤ w a) ≤ℤ cond t (int_max (v (start_of arcs k) +ℤ w k) (rise arcs w v j k)) (rise arcs w v j k)) (sym (eq-eqb (end_of arcs k) j (ap (end_of arcs) (sym same) ∙ e)))
          (subst (λ t. (v (start_of arcs a) +ℤ w a) ≤ℤ int_max (v (start_of arcs t) +ℤ w t) (rise arcs w v j k)) same (max_first (v (start_of arcs a) +ℤ w a) (rise arcs w v j k)))
      go (no ne) ih = cond_over (eqb (end_of arcs k) j) (v (start_of arcs k) +ℤ w k) (rise arcs w v j k) (v (start_of arcs a) +ℤ w a) (ih (omega arith) e)

  pub rise_under : (v : ℕ → ℤ) (u : ℤ) (b : ℕ) → ((j : ℕ) → v j ≤ℤ u) → ((k : ℕ) → nat_abs (w k) ≤ b) → (j k : ℕ) → rise arcs w v j k ≤ℤ (u +ℤ pos b)
  unfolding rise
  rise_under v u b hv hw j zero = omega (arith, ints, hv j)
  rise_under v u b hv hw j (suc k) = cond_under (eqb (end_of arcs k) j) (v (start_of arcs k) +ℤ w k) (rise arcs w v j k) (u +ℤ pos b) (omega (arith, ints, hv (start_of arcs k), hw k)) (rise_under v u b hv hw j k)

  -- the values
  pub value_none : (j : ℕ) → value arcs w 0 j ≡ pos 0
  unfolding value
  value_none j = refl

  pub value_more : (k j : ℕ) → value arcs w (k + 1) j ≡ rise arcs w (value arcs w k) j (length arcs)
  unfolding value
  value_more k j = rw (add-one k) refl

  pub value_step : (k j : ℕ) → value arcs w k j ≤ℤ value arcs w (k + 1) j
  value_step k j = rw (value_more k j) (rise_over (value arcs w k) j (length arcs))

  pub value_mono : (s t j : ℕ) → s ≤ t → value arcs w s j ≤ℤ value arcs w t j
  value_mono s zero j h = let e : s ≡ 0 = omega arith in subst (λ t. value arcs w t j ≤ℤ value arcs w 0 j) (sym e) (omega (arith, ints))
  value_mono s (suc t) j h = go (ℕ_discrete s (suc t)) (value_mono s t j)
    where
      go : Dec (s ≡ suc t) → (s ≤ t → value arcs w s j ≤ℤ value arcs w t j) → value arcs w s j ≤ℤ value arcs w (suc t) j
      go (yes e) ih = subst (λ y. value arcs w s j ≤ℤ value arcs w y j) e (omega (arith, ints))
      go (no ne) ih =
          let one : value arcs w t j ≤ℤ value arcs w (suc t) j = subst (λ y. value arcs w t j ≤ℤ value arcs w y j) (add-one t) (value_step t j) in
          let two : value arcs w s j ≤ℤ value arcs w t j = ih (omega arith) in
          omega (arith, ints)

  pub value_low : (k j : ℕ) → pos 0 ≤ℤ value arcs w k j
  value_low k j = let h : value arcs w 0 j ≤ℤ value arcs w k j = value_mono 0 k j (omega arith) in omega (arith, ints, value_none j)

  pub value_high : ((k : ℕ) → nat_abs (w k) ≤ 1099511627776) → (k j : ℕ) → value arcs w k j ≤ℤ pos (k * 1099511627776)
  value_high hw zero j = omega (arith, ints, value_none j)
  value_high hw (suc k) j =
      let h : value arcs w (k + 1) j ≤ℤ (pos (k * 1099511627776) +ℤ pos 1099511627776) = rw (value_more k j) (rise_under (value arcs w k) (pos (k * 1099511627776)) 1099511627776 (value_high hw k) hw j (length arcs)) in
      subst (λ y. value arcs w y j ≤ℤ pos (y * 1099511627776)) (add-one k) (omega (arith, ints))

  -- values that no arc raises stand above every way
  pub settled : (v : ℕ → ℤ) → ((a : ℕ) → a < length arcs → (v (start_of arcs a) +ℤ w a) ≤ℤ v (end_of arcs a)) → (i j : ℕ) (r : List ℕ) → IsRun (arcs_net arcs) i j r → (v i +ℤ sum w r) ≤ℤ v j
  settled v h i j [] g = subst (λ y. (v i +ℤ pos 0) ≤ℤ v y) g (omega (arith, ints))
  settled v h i j (a ∷ r) g =
      let rest : (v (end_of arcs a) +ℤ sum w r) ≤ℤ v j = settled v h (end_of arcs a) j r g.2 in
      let one : (v (start_of arcs a) +ℤ w a) ≤ℤ v (end_of arcs a) = h a (arc_inside arcs a g.0) in
      let here : v (start_of arcs a) ≡ v i = ap v g.1 in
      omega (arith, ints)

  pub none_gains : (v : ℕ → ℤ) → ((a : ℕ) → a < length arcs → (v (start_of arcs a) +ℤ w a) ≤ℤ v (end_of arcs a)) → (r : List ℕ) → CircuitOf arcs r → sum w r ≤ℤ pos 0
  none_gains v h r c = let t : (v c.event +ℤ sum w r) ≤ℤ v c.event = settled v h c.event c.event r c.circuit.0 in omega (arith, ints)

  -- one more arc of a round
  pub raised_more : (v : ℕ → ℤ) (new : List ℤ) (k p : ℕ) (x : ℤ) → length new ≡ 32 → p ≡ end_of arcs k → p < 32 → x ≡ int_max (v (start_of arcs k) +ℤ w k) (at new p) → ((j : ℕ) → j < 32 → at new j ≡ rise arcs w v j k)
      → (j : ℕ) → j < 32 → at (set new p x) j ≡ rise arcs w v j (k + 1)
  raised_more v new k p x len ends inside e inv j hj = go (ℕ_discrete p j)
    where
      go : Dec (p ≡ j) → at (set new p x) j ≡ rise arcs w v j (k + 1)
      go (yes same) =
          let lt : p < length new = omega arith in
          subst (λ y. at (set new p x) y ≡ x) same (get_or-set_same new p x (pos 0) lt)
          ∙ e ∙ ap (int_max (v (start_of arcs k) +ℤ w k)) (ap (at new) same ∙ inv j hj)
          ∙ sym (rise_on v j k (sym ends ∙ same))
      go (no ne) = get_or-set_other new p j x (pos 0) (λ z. ne (sym z)) ∙ inv j hj ∙ sym (rise_by v j k (λ z. ne (ends ∙ z)))

max_either : (x y : ℤ) → (int_max x y ≡ x) ⊎ (int_max x y ≡ y)
max_either x y = go (le_z x y) refl
  where
    go : (t : Bool) → le_z x y ≡ t → (int_max x y ≡ x) ⊎ (int_max x y ≡ y)
    go true e = inr (grind (arith, ints, clamps))
    go false e = inl (grind (arith, ints, clamps))

-- the value at j after a round is what it was, or what an arc to j brings
abbrev pub Brought : List Arc → (ℕ → ℤ) → (ℕ → ℤ) → ℕ → ℕ → Type 0
Brought arcs w v j k = (rise arcs w v j k ≡ v j) ⊎ ((a : ℕ) × (a < k) × (end_of arcs a ≡ j) × (rise arcs w v j k ≡ v (start_of arcs a) +ℤ w a))

module _ (arcs : List Arc) (w : ℕ → ℤ) where
  pub brought : (v : ℕ → ℤ) (j k : ℕ) → Brought arcs w v j k
  unfolding rise
  brought v j zero = inl refl
  brought v j (suc k) = go (eqb (end_of arcs k) j) refl (brought v j k)
    where
      x : ℤ
      x = v (start_of arcs k) +ℤ w k

      wider : (y : ℤ) → y ≡ rise arcs w v j k → Brought arcs w v j k → (y ≡ v j) ⊎ ((a : ℕ) × (a < suc k) × (end_of arcs a ≡ j) × (y ≡ v (start_of arcs a) +ℤ w a))
      wider y e (inl h) = inl (e ∙ h)
      wider y e (inr t) = inr (t.0, omega (arith, t.1), t.2, e ∙ t.3)

      by_max : end_of arcs k ≡ j → (int_max x (rise arcs w v j k) ≡ x) ⊎ (int_max x (rise arcs w v j k) ≡ rise arcs w v j k) → Brought arcs w v j k → (int_max x (rise arcs w v j k) ≡ v j) ⊎ ((a : ℕ) × (a < suc k) × (end_of arcs a ≡ j) × (int_max x (rise arcs w v j k) ≡ v (start_of arcs a) +ℤ w a))
      by_max e (inl m) b = inr (k, omega arith, e, m)
      by_max e (inr m) b = wider (int_max x (rise arcs w v j k)) m b

      go : (t : Bool) → eqb (end_of arcs k) j ≡ t → Brought arcs w v j k → (cond t (int_max x (rise arcs w v j k)) (rise arcs w v j k) ≡ v j) ⊎ ((a : ℕ) × (a < suc k) × (end_of arcs a ≡ j) × (cond t (int_max x (rise arcs w v j k)) (rise arcs w v j k) ≡ v (start_of arcs a) +ℤ w a))
      go true e b = by_max (eqb-true (end_of arcs k) j e) (max_either x (rise arcs w v j k)) b
      go false e b = wider (rise arcs w v j k) refl b

-- only the values at events count
pub rise_same : (arcs : List Arc) (w v u : ℕ → ℤ) → ArcsBelow 32 arcs → ((j : ℕ) → j < 32 → v j ≡ u j) → (j : ℕ) → j < 32 → (k : ℕ) → k ≤ length arcs → rise arcs w v j k ≡ rise arcs w u j k
unfolding rise
rise_same arcs w v u below e j hj zero l = e j hj
rise_same arcs w v u below e j hj (suc k) l =
    let hs : start_of arcs k < 32 = (All-get_or _ arcs k no_arc (omega arith) below).0 in
    ap (λ y. cond (eqb (end_of arcs k) j) (int_max (y +ℤ w k) (rise arcs w v j k)) (rise arcs w v j k)) (e (start_of arcs k) hs)
    ∙ ap (λ y. cond (eqb (end_of arcs k) j) (int_max (u (start_of arcs k) +ℤ w k) y) y) (rise_same arcs w v u below e j hj k (omega arith))

-- a row's numbers stay small
pub row_roomy : (arcs : List Arc) (w : ℕ → ℤ) (k : ℕ) (row : List ℤ) → k ≤ 32 → length row ≡ 32 → WeightsFit w → HoldsRound arcs w k row → ValuesFit row
row_roomy arcs w k row hk len modest h j = elim (dec_lt j 32) [
  | yes p ↦ omega (arith, ints, h j p, value_low arcs w k j, value_high arcs w modest k j)
  | no p ↦ let past : length row ≤ j = omega arith in omega (arith, ints, get_or_past row j (pos 0) past)
]

pub row_more : (arcs : List Arc) (w : ℕ → ℤ) (k : ℕ) (row new : List ℤ) → ArcsBelow 32 arcs → HoldsRound arcs w k row → HoldsRise arcs w row new → HoldsRound arcs w (k + 1) new
row_more arcs w k row new below h e j hj = e j hj ∙ rise_same arcs w (at row) (value arcs w k) below h j hj (length arcs) (omega arith) ∙ sym (value_more arcs w k j)

pub below_wider : (n : ℕ) (arcs : List Arc) → n ≤ 32 → ArcsBelow n arcs → ArcsBelow 32 arcs
below_wider n arcs h b = All-weaker _ _ (λ a t. (omega (arith, t.0), omega (arith, t.1))) arcs b

-- a round that raises nothing leaves values that no arc would raise
pub settled_holds : (arcs : List Arc) (w : ℕ → ℤ) (row new : List ℤ) → ArcsBelow 32 arcs → HoldsRise arcs w row new → ((j : ℕ) → j < 32 → at new j ≤ℤ at row j) → (a : ℕ) → a < length arcs → (at row (start_of arcs a) +ℤ w a) ≤ℤ at row (end_of arcs a)
settled_holds arcs w row new below e le a h =
    let he : end_of arcs a < 32 = (All-get_or _ arcs a no_arc h below).1 in
    let one = rise_arc arcs w (at row) (end_of arcs a) (length arcs) a h refl in
    let two = e (end_of arcs a) he in
    let three = le (end_of arcs a) he in
    omega (arith, ints)

pub raised_more_event : (arcs : List Arc) (w : ℕ → ℤ) (k e : ℕ) (row new : List ℤ) → e < 32 → HoldsRound arcs w k row → HoldsRound arcs w (k + 1) new → at row e <ℤ at new e → IsRaised arcs w (k + 1) e
raised_more_event arcs w k e row new he h h' lt q eq =
    let same : k ≡ q = omega arith in
    let old = h e he in
    let now' = h' e he in
    subst (λ y. value arcs w y e <ℤ value arcs w (y + 1) e) same (omega (arith, ints))

-- an event that a round raises has an arc that brings it what it is raised to
pub some_raiser : (arcs : List Arc) (w v : ℕ → ℤ) (e : ℕ) → v e <ℤ rise arcs w v e (length arcs) → ((a : ℕ) → a < length arcs → end_of arcs a ≡ e → rise arcs w v e (length arcs) ≡ v (start_of arcs a) +ℤ w a → ⊥) → ⊥
some_raiser arcs w v e up none = go (brought arcs w v e (length arcs))
  where
    go : Brought arcs w v e (length arcs) → ⊥
    go (inl same) = omega (arith, ints, same)
    go (inr t) = none t.0 t.1 t.2 t.3
