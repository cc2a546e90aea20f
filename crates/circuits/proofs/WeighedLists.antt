-- What the facts of weighed arcs say of the arcs and of the weights.
use Rattle.std.proofs.Common.{◌≡◌, ℕ, zero, suc, ◌+◌, ◌<◌, ◌≤◌, List, [], ◌∷◌, ◌++◌, length, get_or, take, ℤ, ◌<ℤ◌, nat_abs, Option, Some, None, MatchOption, sym, refl, ap, ◌∙◌, subst, arith, rules, below_more}
use native.Mathlib.Decide.{dec_lt}
use Rattle.std.specs.List.{All}
use Rattle.std.specs.Option.{IsSome}
use Rattle.std.proofs.ByRecursion.{All-get_or, All-from_get_or}
use Rattle.std.proofs.lemmas.Int.{ints}
use Rattle.std.proofs.lemmas.List.{length-map, get_or_past, map-append, take_more, get_or_append_left, get_or_at, length-append}
use Rattle.circuits.specs.declared.Arc.{Arc}
use Rattle.circuits.specs.declared.weighed.WeighedArc.{WeighedArc}
use Rattle.circuits.specs.declared.weighed.WeighedNet.{WeighedNet}
use Rattle.circuits.specs.declared.rounds.Round.{Round}
use Rattle.circuits.specs.Arcs.{no_arc, start_of, end_of, ArcsBelow}
use Rattle.circuits.specs.Ratios.{weight_of}
use Rattle.circuits.specs.Rounds.{at, WeightsFit, HoldsRound, HoldsRise}
use Rattle.circuits.specs.Walks.{RaisesTo, RaisesIn}
use Rattle.circuits.specs.Weighed.{no_weighed_arc, arcs_in, weight_in, GoesBelow, IsModest, AreWeighed}
use Rattle.circuits.proofs.Rises.{below_wider, row_more, some_raiser}

-- the arc at a place is that of the weighed arc there
pub arc_at : (xs : List WeighedArc) (k : ℕ) → get_or (arcs_in xs) k no_arc ≡ (get_or xs k no_weighed_arc).arc
arc_at [] k = refl
arc_at (x ∷ xs) zero = refl
arc_at (x ∷ xs) (suc k) = arc_at xs k

pub start_at : (xs : List WeighedArc) (k : ℕ) → start_of (arcs_in xs) k ≡ (get_or xs k no_weighed_arc).arc.from
start_at xs k = ap (λ (a : Arc). a.from) (arc_at xs k)

pub end_at : (xs : List WeighedArc) (k : ℕ) → end_of (arcs_in xs) k ≡ (get_or xs k no_weighed_arc).arc.to
end_at xs k = ap (λ (a : Arc). a.to) (arc_at xs k)

pub length_arcs : (xs : List WeighedArc) → length (arcs_in xs) ≡ length xs
length_arcs xs = length-map xs (λ (x : WeighedArc). x.arc)

pub below_arcs : (n : ℕ) (xs : List WeighedArc) → All (GoesBelow n) xs → ArcsBelow n (arcs_in xs)
below_arcs n xs h = All-from_get_or _ (arcs_in xs) no_arc (λ k lt.
    let inside : k < length xs = omega (arith, length_arcs xs) in
    let here = h k no_weighed_arc inside in
    (subst (λ y. y < n) (sym (start_at xs k)) here.0, subst (λ y. y < n) (sym (end_at xs k)) here.1))

pub weights_fit : (xs : List WeighedArc) → All IsModest xs → WeightsFit (weight_in xs)
weights_fit xs h k = elim (dec_lt k (length xs)) [
  | yes p ↦ h k no_weighed_arc p
  | no p ↦ let past : length xs ≤ k = omega arith in subst (λ (x : WeighedArc). nat_abs x.weight ≤ 1099511627776) (sym (get_or_past xs k no_weighed_arc past)) (omega arith)
]

-- one more arc is weighed
pub weighed_more : (arcs : List Arc) (gain cost : ℤ) (k : ℕ) (xs : List WeighedArc) (x : WeighedArc) → k < length arcs → x.arc ≡ get_or arcs k no_arc → x.weight ≡ weight_of arcs gain cost k → IsModest x
    → AreWeighed arcs gain cost k xs → AreWeighed arcs gain cost (k + 1) (xs ++ x ∷ [])
weighed_more arcs gain cost k xs x lt same weighs modest h = record {
  are = map-append (λ (y : WeighedArc). y.arc) xs (x ∷ []) ∙ ap (λ ys. ys ++ x.arc ∷ []) h.are ∙ ap (λ a. take k arcs ++ a ∷ []) same ∙ sym (take_more arcs k no_arc lt);
  weigh = below_more (λ a. weight_in (xs ++ x ∷ []) a ≡ weight_of arcs gain cost a) k
      (λ a l. ap (λ (y : WeighedArc). y.weight) (get_or_append_left xs (x ∷ []) no_weighed_arc a (omega (arith, h.len))) ∙ h.weigh a l)
      (ap (λ (y : WeighedArc). y.weight) (get_or_at xs x [] no_weighed_arc k h.len) ∙ weighs);
  modest = λ a d l. elim (dec_lt a (length xs)) [
    | yes p ↦ subst IsModest (sym (get_or_append_left xs (x ∷ []) d a p)) (h.modest a d p)
    | no p ↦ let last : length xs ≡ a = omega (arith, length-append xs (x ∷ [])) in subst IsModest (sym (get_or_at xs x [] d a last)) modest
  ];
  len = omega (arith, h.len, length-append xs (x ∷ []));
}

-- a round's values, where its net and the values before it are known
pub round_rises : (r : Round) (net : WeighedNet) (old : List ℤ) → r.net ≡ net → r.old ≡ old → HoldsRise (arcs_in net.arcs.now) (weight_in net.arcs.now) old r.new
round_rises r net old same before = subst (λ (n : WeighedNet). HoldsRise (arcs_in n.arcs.now) (weight_in n.arcs.now) old r.new) same (subst (λ o. HoldsRise (arcs_in r.net.arcs.now) (weight_in r.net.arcs.now) o r.new) before r.rises)

module _ (net : WeighedNet) where
  pub below_net : ArcsBelow net.events (arcs_in net.arcs.now)
  below_net = below_arcs net.events net.arcs.now net.within

  pub below_all : ArcsBelow 32 (arcs_in net.arcs.now)
  below_all = below_wider net.events (arcs_in net.arcs.now) net.few below_net

  pub net_fits : WeightsFit (weight_in net.arcs.now)
  net_fits = weights_fit net.arcs.now net.modest

-- an arc that gives an event what a round raises it to raises it in that round
pub raises_in : (xs : List WeighedArc) (k e a : ℕ) (old new : List ℤ) → ArcsBelow 32 (arcs_in xs) → HoldsRound (arcs_in xs) (weight_in xs) k old → HoldsRise (arcs_in xs) (weight_in xs) old new → e < 32
    → a < length xs → RaisesTo old new e (get_or xs a no_weighed_arc) → RaisesIn (arcs_in xs) (weight_in xs) k a
raises_in xs k e a old new below held rise he lt t =
    let A = arcs_in xs in
    let w = weight_in xs in
    let next : HoldsRound A w (k + 1) new = row_more A w k old new below held rise in
    let ends : end_of A a ≡ e = end_at xs a ∙ t.0 in
    let he' : end_of A a < 32 = omega arith in
    let inside : a < length A = omega (arith, length_arcs xs) in
    let hs : start_of A a < 32 = (All-get_or _ A a no_arc inside below).0 in
    let at_start : at old (start_of A a) ≡ at old (get_or xs a no_weighed_arc).arc.from = ap (at old) (start_at xs a) in
    let at_end : at new (end_of A a) ≡ at new (get_or xs a no_weighed_arc).arc.to = ap (at new) (end_at xs a) in
    let old_end : at old (end_of A a) ≡ at old (get_or xs a no_weighed_arc).arc.to = ap (at old) (end_at xs a) in
    let v0 = held (start_of A a) hs in
    let v1 = held (end_of A a) he' in
    let v2 = next (end_of A a) he' in
    let up = t.1 in
    let sum = t.2 in
    record { inside = inside; adds = omega (arith, ints); rises = omega (arith, ints) }

-- a round that raises an event has an arc that gives it what it is raised to
pub some_raises : (xs : List WeighedArc) (e : ℕ) (old new : List ℤ) → HoldsRise (arcs_in xs) (weight_in xs) old new → e < 32 → at old e <ℤ at new e → All (λ x. RaisesTo old new e x → ⊥) xs → ⊥
some_raises xs e old new rises he up none =
    let A = arcs_in xs in
    let w = weight_in xs in
    some_raiser A w (at old) e (omega (arith, ints, rises e he)) (λ a lt ends adds.
    let inside : a < length xs = omega (arith, length_arcs xs) in
    let to : (get_or xs a no_weighed_arc).arc.to ≡ e = sym (end_at xs a) ∙ ends in
    let from : at old (start_of A a) ≡ at old (get_or xs a no_weighed_arc).arc.from = ap (at old) (start_at xs a) in
    let there : at new (get_or xs a no_weighed_arc).arc.to ≡ at new e = ap (at new) to in
    let before : at old (get_or xs a no_weighed_arc).arc.to ≡ at old e = ap (at old) to in
    let here = rises e he in
    none a no_weighed_arc inside (to, omega (arith, ints), omega (arith, ints)))

-- a value that cannot be missing is there
pub is_there : {X : Type 0} (o : Option X) (P : Type 0) (Q : X → Type 0) → (P → ⊥) → MatchOption o P Q → IsSome o
is_there None P Q never h = absurd (never h)
is_there (Some x) P Q never h = search rules
