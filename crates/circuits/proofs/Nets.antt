-- What the ranges of a net's arcs give the searches.
use Rattle.std.proofs.Common.{◌≡◌, ℕ, ◌<◌, ◌≤◌, Bool, true, ◌&&◌, ltb, leb, List, [], ◌∷◌, ◌++◌, length, ℤ, pos, negsuc, nat_abs, ◌≤ℤ◌, ◌<ℤ◌, sym, refl, ap, ◌∙◌, subst, arith, ltb-true, leb-true}
use lib.Signed.{le_z}
use Rattle.std.proofs.lemmas.Int.{ints}
use Rattle.runs.specs.Tables.{in_range, every}
use Rattle.runs.proofs.Searches.{and_both, and_first, and_second}
use Rattle.circuits.specs.declared.Arc.{Arc}
use Rattle.circuits.specs.declared.numbers.Circuit.{Circuit}
use Rattle.circuits.specs.declared.WeighedCircuit.{WeighedCircuit}
use Rattle.circuits.specs.Arcs.{arc_in_range, ArcsBelow, ArcsFit, CircuitOf, numbers_of, gain_of, cost_of, sum}
use Rattle.circuits.specs.Turns.{TurnsToLowest, ShownTurned}
use Rattle.circuits.specs.Ratios.{OwnSums, NoneBetter, LargestRatio, GainsForNothing}
use Rattle.circuits.proofs.Turns.{turned_length, turned_sum, turned_is_circuit}

from_leZ : (a b : ℤ) → le_z a b ≡ true → a ≤ℤ b
from_leZ a b h = grind (arith, ints)

pub every_push : {X : Type 0} (passes : X → Bool) (xs : List X) (x : X) → every passes xs ≡ true → passes x ≡ true → every passes (xs ++ x ∷ []) ≡ true
every_push passes [] x e p = and_both (passes x) true p refl
every_push passes (y ∷ xs) x e p = and_both (passes y) (every passes (xs ++ x ∷ [])) (and_first (passes y) (every passes xs) e) (every_push passes xs x (and_second (passes y) (every passes xs) e) p)

module _ (n : ℕ) where
  ends_below : (a : Arc) → arc_in_range n a ≡ true → (a.from < n) × (a.to < n)
  ends_below a e =
      let t : (ltb a.from n && ltb a.to n) ≡ true = and_first (ltb a.from n && ltb a.to n) _ e in
      (ltb-true a.from n (and_first (ltb a.from n) (ltb a.to n) t), ltb-true a.to n (and_second (ltb a.from n) (ltb a.to n) t))

  numbers_fit : (a : Arc) → arc_in_range n a ≡ true → (nat_abs a.gain ≤ 1073741824) × (pos 0 ≤ℤ a.cost) × (nat_abs a.cost ≤ 7)
  numbers_fit a e =
      let g : Bool = le_z (negsuc 1073741823) a.gain && le_z a.gain (pos 1073741824) in
      let c : Bool = le_z (pos 0) a.cost && le_z a.cost (pos 7) in
      let t : (g && c) ≡ true = and_second (ltb a.from n && ltb a.to n) (g && c) e in
      let tg : g ≡ true = and_first g c t in
      let tc : c ≡ true = and_second g c t in
      let g0 : negsuc 1073741823 ≤ℤ a.gain = from_leZ (negsuc 1073741823) a.gain (and_first (le_z (negsuc 1073741823) a.gain) (le_z a.gain (pos 1073741824)) tg) in
      let g1 : a.gain ≤ℤ pos 1073741824 = from_leZ a.gain (pos 1073741824) (and_second (le_z (negsuc 1073741823) a.gain) (le_z a.gain (pos 1073741824)) tg) in
      let c0 : pos 0 ≤ℤ a.cost = from_leZ (pos 0) a.cost (and_first (le_z (pos 0) a.cost) (le_z a.cost (pos 7)) tc) in
      let c1 : a.cost ≤ℤ pos 7 = from_leZ a.cost (pos 7) (and_second (le_z (pos 0) a.cost) (le_z a.cost (pos 7)) tc) in
      (omega (arith, ints), c0, omega (arith, ints))

  pub ranges_below : (arcs : List Arc) → every (arc_in_range n) arcs ≡ true → ArcsBelow n arcs
  ranges_below [] e = tt
  ranges_below (a ∷ arcs) e = (ends_below a (and_first (arc_in_range n a) (every (arc_in_range n) arcs) e), ranges_below arcs (and_second (arc_in_range n a) (every (arc_in_range n) arcs) e))

  pub ranges_fit : (arcs : List Arc) → every (arc_in_range n) arcs ≡ true → ArcsFit arcs
  ranges_fit [] e = tt
  ranges_fit (a ∷ arcs) e = (numbers_fit a (and_first (arc_in_range n a) (every (arc_in_range n) arcs) e), ranges_fit arcs (and_second (arc_in_range n a) (every (arc_in_range n) arcs) e))

  pub events_range : in_range n ≡ true → (0 < n) × (n ≤ 32)
  events_range e = (leb-true 1 n (and_first (leb 1 n) (leb n 32) e), leb-true n 32 (and_second (leb 1 n) (leb n 32) e))

-- a circuit turned keeps its sums
module _ (arcs : List Arc) (before after : Circuit) (t : TurnsToLowest before after) where
  pub still_circuit : CircuitOf arcs (numbers_of before) → CircuitOf arcs (numbers_of after)
  still_circuit c = subst (CircuitOf arcs) (sym t.numbers) (turned_is_circuit arcs t.place (numbers_of before) c)

  pub still_sum : (f : ℕ → ℤ) → sum f (numbers_of after) ≡ sum f (numbers_of before)
  still_sum f = ap (sum f) t.numbers ∙ turned_sum f t.place (numbers_of before)

pub still_own : (arcs : List Arc) (x y : WeighedCircuit) → ShownTurned x y → OwnSums arcs x → OwnSums arcs y
still_own arcs x y t o = record {
  circuit = still_circuit arcs x.circuit y.circuit t.turned o.circuit;
  short = omega (arith, o.short, ap length t.turned.numbers, turned_length t.turned.place (numbers_of x.circuit));
  gains = t.gain ∙ o.gains ∙ sym (still_sum arcs x.circuit y.circuit t.turned (gain_of arcs));
  costs = t.cost ∙ o.costs ∙ sym (still_sum arcs x.circuit y.circuit t.turned (cost_of arcs));
}

pub still_largest : (arcs : List Arc) (x y : WeighedCircuit) → ShownTurned x y → LargestRatio arcs x → LargestRatio arcs y
still_largest arcs x y t l = record {
  own = still_own arcs x y t l.own;
  costs_some = subst (λ c. pos 0 <ℤ c) (sym t.cost) l.costs_some;
  largest = subst (λ g. NoneBetter arcs g y.cost) (sym t.gain) (subst (NoneBetter arcs x.gain) (sym t.cost) l.largest);
}

pub still_for_nothing : (arcs : List Arc) (x y : WeighedCircuit) → ShownTurned x y → GainsForNothing arcs x → GainsForNothing arcs y
still_for_nothing arcs x y t f = record {
  own = still_own arcs x y t f.own;
  nothing = t.cost ∙ f.nothing;
  gains_some = subst (λ g. pos 0 <ℤ g) (sym t.gain) f.gains_some;
}
