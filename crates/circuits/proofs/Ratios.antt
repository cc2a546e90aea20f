-- Sums over circuits, and the measure of a rising ratio.
use Rattle.std.proofs.Common.{◌≡◌, ℕ, suc, ◌+◌, ◌-◌, ◌*◌, ◌/◌, ◌<◌, ◌≤◌, List, [], ◌∷◌, ◌++◌, length, ℤ, pos, negsuc, ◌+ℤ◌, ◌-ℤ◌, ◌*ℤ◌, neg_ℤ, nat_abs, ◌≤ℤ◌, ◌<ℤ◌, Some, None, Ok, Option, sym, refl, ap, ◌∙◌, subst, mul-le-mul_right, mul_comm, add-mul, mul-le-mul, mul_right_comm, div-mul-le_self, le_of_mul-le-mul_right, arith, w64, SFits, to_z, of_z, MatchOption}
use Rattle.circuits.specs.Rounds.{at}
use lib.IntN.{*ℤ_comm}
use borrow.Author.Differences.{up, down, sum_is_lem}
use Rattle.std.specs.List.{AllByRecursion}
use Rattle.std.proofs.ByRecursion.{All-get_or}
use Rattle.std.proofs.lemmas.Int.{ints}
use Rattle.std.proofs.lemmas.Nat.{le-div, mul-le}
use Rattle.circuits.specs.declared.Arc.{Arc}
use Rattle.runs.specs.Nets.{IsRun}
use Rattle.circuits.specs.Arcs.{no_arc, end_of, gain_of, cost_of, arcs_net, CircuitOf, sum, numbers_of, ArcsFit}
use Rattle.circuits.specs.Ratios.{weight_of, OwnSums, BetterCircuit, NoneBetter, Improved}
use Rattle.circuits.specs.Searches.{SettledRow}
use Rattle.circuits.proofs.Rises.{arc_inside, none_gains}
use Rattle.circuits.specs.declared.numbers.Circuit.{Circuit}
use Rattle.circuits.specs.declared.WeighedCircuit.{WeighedCircuit}
use Rattle.circuits.specs.Walks.{GainingCircuit, NoneGains}

pub times_add : (x y b : ℤ) → (x +ℤ y) *ℤ b ≡ (x *ℤ b) +ℤ (y *ℤ b)
times_add x y b =
    let e = sum_is_lem x y in
    let eu : up (x +ℤ y) * up b + down x * up b + down y * up b ≡ down (x +ℤ y) * up b + up x * up b + up y * up b = simp add-mul at (ap (λ z. z * up b) e) in
    let ed : up (x +ℤ y) * down b + down x * down b + down y * down b ≡ down (x +ℤ y) * down b + up x * down b + up y * down b = simp add-mul at (ap (λ z. z * down b) e) in
    omega (arith, ints)

pub sum_weights : (g c : ℕ → ℤ) (gain cost : ℤ) (r : List ℕ) → sum (λ a. (g a *ℤ cost) -ℤ (c a *ℤ gain)) r ≡ (sum g r *ℤ cost) -ℤ (sum c r *ℤ gain)
sum_weights g c gain cost [] = omega (arith, ints)
sum_weights g c gain cost (a ∷ r) = omega (arith, ints, sum_weights g c gain cost r, times_add (g a) (sum g r) cost, times_add (c a) (sum c r) gain)

natAbs_neg : (z : ℤ) → nat_abs (neg_ℤ z) ≡ nat_abs z
natAbs_neg z = omega (arith, ints)

natAbs_times : (x y : ℤ) → nat_abs (x *ℤ y) ≡ nat_abs x * nat_abs y
natAbs_times (pos a) (pos b) = refl
natAbs_times (pos a) (negsuc b) = natAbs_neg (pos (a * suc b))
natAbs_times (negsuc a) (pos b) = natAbs_neg (pos (suc a * b))
natAbs_times (negsuc a) (negsuc b) = refl

pub times_small : (x y : ℤ) (m n : ℕ) → nat_abs x ≤ m → nat_abs y ≤ n → nat_abs (x *ℤ y) ≤ m * n
times_small x y m n h k = rw (natAbs_times x y) (mul-le-mul h k)

pub goes_inside : (arcs : List Arc) (i j : ℕ) (r : List ℕ) → IsRun (arcs_net arcs) i j r → AllByRecursion (λ a. a < length arcs) r
goes_inside arcs i j [] g = tt
goes_inside arcs i j (a ∷ r) g = (arc_inside arcs a g.0, goes_inside arcs (end_of arcs a) j r g.2)

-- the arcs of a circuit are those of the net
pub circuit_known : (arcs : List Arc) (r : List ℕ) → CircuitOf arcs r → AllByRecursion (λ a. a < length arcs) r
circuit_known arcs r c = goes_inside arcs c.event c.event r c.circuit.0

pub sum_same : (f g : ℕ → ℤ) (m : ℕ) → ((a : ℕ) → a < m → f a ≡ g a) → (r : List ℕ) → AllByRecursion (λ a. a < m) r → sum f r ≡ sum g r
sum_same f g m e [] h = refl
sum_same f g m e (a ∷ r) h = ap (λ y. y +ℤ sum f r) (e a h.0) ∙ ap (λ y. g a +ℤ y) (sum_same f g m e r h.1)

pub sum_push : (f : ℕ → ℤ) (r : List ℕ) (a : ℕ) → sum f (r ++ a ∷ []) ≡ sum f r +ℤ f a
sum_push f [] a = omega (arith, ints)
sum_push f (b ∷ r) a = omega (arith, ints, sum_push f r a)

pub sum_small : (f : ℕ → ℤ) (m b : ℕ) → ((a : ℕ) → a < m → nat_abs (f a) ≤ b) → (r : List ℕ) → AllByRecursion (λ a. a < m) r → nat_abs (sum f r) ≤ length r * b
sum_small f m b h [] l = omega arith
sum_small f m b h (a ∷ r) l = let e : suc (length r) * b ≡ b + length r * b = omega (arith, add-mul (length r) 1 b) in rw e (omega (arith, ints, h a l.0, sum_small f m b h r l.1))

-- a pair of numbers whose ratio is larger has the larger rank
pub rank_less : (P C P' C' : ℕ) → 0 < C → 0 < C' → C ≤ 224 → C' ≤ 224 → P * C' < P' * C → P * 50176 / C < P' * 50176 / C'
rank_less P C P' C' hC hC' bC bC' h =
    let q : ℕ = P * 50176 / C in
    let one : q * C ≤ P * 50176 = div-mul-le_self (P * 50176) C in
    let two : q * C * C' ≤ P * 50176 * C' = mul-le-mul_right C' one in
    let three : C' * C ≤ 50176 = mul-le C' C 224 224 bC' bC in
    let whole : (q + 1) * C' * C ≡ q * C * C' + C' * C = ap (λ y. y * C) (add-mul q 1 C') ∙ add-mul (q * C') (1 * C') C ∙ (let a = mul_right_comm q C' C in let b : 1 * C' * C ≡ C' * C = ap (λ y. y * C) (omega arith) in omega arith) in
    let left : P * 50176 * C' ≡ P * C' * 50176 = mul_right_comm P 50176 C' in
    let right : P' * 50176 * C ≡ P' * C * 50176 = mul_right_comm P' 50176 C in
    let le : (q + 1) * C' * C ≤ P' * 50176 * C = omega arith in
    let cancelled : (q + 1) * C' ≤ P' * 50176 = le_of_mul-le-mul_right le hC in
    omega (arith, le-div (q + 1) (P' * 50176) C' hC' cancelled)

cross : (gu gd au ad C C' P P' K : ℕ) → gu + K * C' ≡ P' + gd → au + K * C ≡ P + ad → gd * C + au * C' < gu * C + ad * C' → P * C' < P' * C
cross gu gd au ad C C' P P' K e f h =
    let one : gu * C + K * C' * C ≡ P' * C + gd * C = simp add-mul at (ap (λ y. y * C) e) in
    let two : au * C' + K * C * C' ≡ P * C' + ad * C' = simp add-mul at (ap (λ y. y * C') f) in
    let same : K * C' * C ≡ K * C * C' = mul_right_comm K C' C in
    omega arith

-- the rank of a gain over a cost above 0
abbrev pub shifted : ℤ → ℤ → ℕ
shifted gain cost = nat_abs (gain +ℤ pos (34359738368 * nat_abs cost))

abbrev pub rank : ℤ → ℤ → ℕ
rank gain cost = shifted gain cost * 50176 / nat_abs cost

pub record RatioFits (gain cost : ℤ) : Type 0 where
  pub gain_small : nat_abs gain ≤ 34359738368
  pub cost_small : nat_abs cost ≤ 224
  pub cost_some : pos 0 <ℤ cost

pub rank_rises : (gain cost gain' cost' : ℤ) → RatioFits gain cost → RatioFits gain' cost' → (cost' *ℤ gain) <ℤ (gain' *ℤ cost) → rank gain cost < rank gain' cost'
rank_rises gain (pos C) gain' (pos C') f f' h =
    let s = f.cost_some in
    let s' = f'.cost_some in
    let g = f.gain_small in
    let g' = f'.gain_small in
    let e : up gain + 34359738368 * C ≡ shifted gain (pos C) + down gain = omega (arith, ints) in
    let e' : up gain' + 34359738368 * C' ≡ shifted gain' (pos C') + down gain' = omega (arith, ints) in
    let c1 = mul_comm C' (up gain) in
    let c2 = mul_comm C' (down gain) in
    let lt : down gain' * C + up gain * C' < up gain' * C + down gain * C' = omega (arith, ints) in
    rank_less (shifted gain (pos C)) C (shifted gain' (pos C')) C' (omega (arith, ints)) (omega (arith, ints)) f.cost_small f'.cost_small
    (cross (up gain') (down gain') (up gain) (down gain) C C' (shifted gain (pos C)) (shifted gain' (pos C')) 34359738368 e' e lt)
rank_rises gain (pos C) gain' (negsuc C') f f' h = absurd (omega (arith, ints, f'.cost_some))
rank_rises gain (negsuc C) gain' cost' f f' h = absurd (omega (arith, ints, f.cost_some))

div_small : (a b c : ℕ) → 0 < c → a ≤ b * c → a / c ≤ b
div_small a b c h l = le_of_mul-le-mul_right (let d = div-mul-le_self a c in let t : a / c * c ≤ b * c = omega arith in t) h

pub rank_small : (gain cost : ℤ) → RatioFits gain cost → rank gain cost ≤ 3448068464705536
rank_small gain (pos C) f =
    let s = f.cost_some in
    let g = f.gain_small in
    let c : 0 < C = omega (arith, ints) in
    div_small (shifted gain (pos C) * 50176) 3448068464705536 C c (omega (arith, ints))
rank_small gain (negsuc C) f = absurd (omega (arith, ints, f.cost_some))

pub back : (z : ℤ) → nat_abs z ≤ 34359738368 → to_z w64 (of_z w64 z) ≡ z
back z h = omega (arith, ints)

pub product_back : (x y : ℤ) → nat_abs x ≤ 34359738368 → nat_abs y ≤ 34359738368 → to_z w64 (of_z w64 x) *ℤ to_z w64 (of_z w64 y) ≡ x *ℤ y
product_back x y hx hy = ap (λ u. u *ℤ to_z w64 (of_z w64 y)) (back x hx) ∙ ap (λ u. x *ℤ u) (back y hy)

pub sub_fits : (X Y : ℤ) → nat_abs X ≤ 240518168576 → nat_abs Y ≤ 240518168576 → SFits w64 (to_z w64 (of_z w64 X) -ℤ to_z w64 (of_z w64 Y))
sub_fits X Y hx hy = omega (arith, ints)

sub_back : (X Y : ℤ) → nat_abs X ≤ 240518168576 → nat_abs Y ≤ 240518168576 → to_z w64 (of_z w64 (to_z w64 (of_z w64 X) -ℤ to_z w64 (of_z w64 Y))) ≡ X -ℤ Y
sub_back X Y hx hy = omega (arith, ints)

sub_small : (X Y : ℤ) → nat_abs X ≤ 240518168576 → nat_abs Y ≤ 240518168576 → nat_abs (X -ℤ Y) ≤ 1099511627776
sub_small X Y hx hy = omega (arith, ints)

-- an arc's weight as the code computes it
module _ (g c gain cost : ℤ) (hg : nat_abs g ≤ 1073741824) (hc : nat_abs c ≤ 7) (hgain : nat_abs gain ≤ 34359738368) (hcost : nat_abs cost ≤ 224) where
  abbrev X : ℤ
  X = to_z w64 (of_z w64 g) *ℤ to_z w64 (of_z w64 cost)

  abbrev Y : ℤ
  Y = to_z w64 (of_z w64 c) *ℤ to_z w64 (of_z w64 gain)

  eX : X ≡ g *ℤ cost
  eX = product_back g cost (omega arith) (omega arith)

  eY : Y ≡ c *ℤ gain
  eY = product_back c gain (omega arith) hgain

  pub x_small : nat_abs X ≤ 240518168576
  x_small = subst (λ y. nat_abs y ≤ 240518168576) (sym eX) (times_small g cost 1073741824 224 hg hcost)

  pub y_small : nat_abs Y ≤ 240518168576
  y_small = subst (λ y. nat_abs y ≤ 240518168576) (sym eY) (times_small c gain 7 34359738368 hc hgain)

  pub weight_back : to_z w64 (of_z w64 (to_z w64 (of_z w64 X) -ℤ to_z w64 (of_z w64 Y))) ≡ (g *ℤ cost) -ℤ (c *ℤ gain)
  weight_back = sub_back X Y x_small y_small ∙ ap (λ u. u -ℤ Y) eX ∙ ap (λ u. (g *ℤ cost) -ℤ u) eY

  pub weight_small : nat_abs (to_z w64 (of_z w64 (to_z w64 (of_z w64 X) -ℤ to_z w64 (of_z w64 Y)))) ≤ 1099511627776
  weight_small = subst (λ u. nat_abs u ≤ 1099511627776) (sym (sub_back X Y x_small y_small)) (sub_small X Y x_small y_small)

from_diff : (X Y : ℤ) → (X -ℤ Y) ≤ℤ pos 0 → X ≤ℤ Y
from_diff X Y h = omega (arith, ints)

from_diff_lt : (X Y : ℤ) → pos 0 <ℤ (X -ℤ Y) → Y <ℤ X
from_diff_lt X Y h = omega (arith, ints)

module _ (arcs : List Arc) (gain cost : ℤ) (w : ℕ → ℤ) (e : (k : ℕ) → k < length arcs → w k ≡ weight_of arcs gain cost k) where
  pub sum_of_weights : (r : List ℕ) → CircuitOf arcs r → sum w r ≡ (sum (gain_of arcs) r *ℤ cost) -ℤ (sum (cost_of arcs) r *ℤ gain)
  sum_of_weights r c = sum_same w (weight_of arcs gain cost) (length arcs) e r (circuit_known arcs r c) ∙ sum_weights (gain_of arcs) (cost_of arcs) gain cost r

  pub none_better : NoneGains arcs w → NoneBetter arcs gain cost
  none_better h r c = subst (λ y. (sum (gain_of arcs) r *ℤ cost) ≤ℤ y) (*ℤ_comm (sum (cost_of arcs) r) gain) (from_diff _ _ (subst (λ y. y ≤ℤ pos 0) (sum_of_weights r c) (h r c)))

  pub some_better : (r : List ℕ) → GainingCircuit arcs w r → (sum (cost_of arcs) r *ℤ gain) <ℤ (sum (gain_of arcs) r *ℤ cost)
  some_better r g = from_diff_lt _ _ (subst (λ y. pos 0 <ℤ y) (sum_of_weights r g.circuit) g.gains)

-- settled values leave no circuit that gains
pub row_none_gains : (arcs : List Arc) (w : ℕ → ℤ) (row : List ℤ) → SettledRow arcs w row → NoneGains arcs w
row_none_gains arcs w row s = none_gains arcs w (at row) s.holds

gain_small : (arcs : List Arc) → ArcsFit arcs → (a : ℕ) → a < length arcs → nat_abs (gain_of arcs a) ≤ 1073741824
gain_small arcs s a h = (All-get_or _ arcs a no_arc h s).0

cost_small : (arcs : List Arc) → ArcsFit arcs → (a : ℕ) → a < length arcs → nat_abs (cost_of arcs a) ≤ 7
cost_small arcs s a h = (All-get_or _ arcs a no_arc h s).2

pub own_fair : (arcs : List Arc) (x : WeighedCircuit) → ArcsFit arcs → pos 0 <ℤ x.cost → OwnSums arcs x → RatioFits x.gain x.cost
own_fair arcs x s some o =
    let r : List ℕ = numbers_of x.circuit in
    let inside = circuit_known arcs r o.circuit in
    let short : length r ≤ 32 = o.short in
    let g : nat_abs (sum (gain_of arcs) r) ≤ length r * 1073741824 = sum_small (gain_of arcs) (length arcs) 1073741824 (gain_small arcs s) r inside in
    let c : nat_abs (sum (cost_of arcs) r) ≤ length r * 7 = sum_small (cost_of arcs) (length arcs) 7 (cost_small arcs s) r inside in
    record {
      gain_small = subst (λ y. nat_abs y ≤ 34359738368) (sym o.gains) (omega arith);
      cost_small = subst (λ y. nat_abs y ≤ 224) (sym o.costs) (omega arith);
      cost_some = some;
    }

-- sums as the code hands them on
pub own_sums : (arcs : List Arc) → ArcsFit arcs → (f : Circuit) → length (numbers_of f) ≤ 32 → (G C : ℤ) → G ≡ sum (gain_of arcs) (numbers_of f) → C ≡ sum (cost_of arcs) (numbers_of f) → CircuitOf arcs (numbers_of f)
    → OwnSums arcs (record { gain = to_z w64 (of_z w64 G); cost = to_z w64 (of_z w64 C); circuit = f })
own_sums arcs s f short G C eG eC c =
    let r : List ℕ = numbers_of f in
    let inside = circuit_known arcs r c in
    let hG : nat_abs (sum (gain_of arcs) r) ≤ length r * 1073741824 = sum_small (gain_of arcs) (length arcs) 1073741824 (gain_small arcs s) r inside in
    let hC : nat_abs (sum (cost_of arcs) r) ≤ length r * 7 = sum_small (cost_of arcs) (length arcs) 7 (cost_small arcs s) r inside in
    record {
      circuit = c;
      short = short;
      gains = back G (subst (λ y. nat_abs y ≤ 34359738368) (sym eG) (omega arith)) ∙ eG;
      costs = back C (subst (λ y. nat_abs y ≤ 34359738368) (sym eC) (omega arith)) ∙ eC;
    }

-- a circuit that gains against a ratio is better
pub make_better : (arcs : List Arc) (gain cost : ℤ) (w : ℕ → ℤ) → ((k : ℕ) → k < length arcs → w k ≡ weight_of arcs gain cost k) → (x : WeighedCircuit) → OwnSums arcs x → GainingCircuit arcs w (numbers_of x.circuit) → BetterCircuit arcs gain cost x
make_better arcs gain cost w e x own g =
    let r : List ℕ = numbers_of x.circuit in
    record {
      own = own;
      above = subst (λ y. (y *ℤ gain) <ℤ (x.gain *ℤ cost)) (sym own.costs) (subst (λ y. (sum (cost_of arcs) r *ℤ gain) <ℤ (y *ℤ cost)) (sym own.gains) (some_better arcs gain cost w e r g));
    }

cost_low : (arcs : List Arc) → ArcsFit arcs → (a : ℕ) → a < length arcs → pos 0 ≤ℤ cost_of arcs a
cost_low arcs s a h = (All-get_or _ arcs a no_arc h s).1

sum_low : (f : ℕ → ℤ) (m : ℕ) → ((a : ℕ) → a < m → pos 0 ≤ℤ f a) → (r : List ℕ) → AllByRecursion (λ a. a < m) r → pos 0 ≤ℤ sum f r
sum_low f m h [] l = omega (arith, ints)
sum_low f m h (a ∷ r) l = omega (arith, ints, h a l.0, sum_low f m h r l.1)

-- no circuit costs less than nothing
pub costs_low : (arcs : List Arc) → ArcsFit arcs → (r : List ℕ) → CircuitOf arcs r → pos 0 ≤ℤ sum (cost_of arcs) r
costs_low arcs s r c = sum_low (cost_of arcs) (length arcs) (cost_low arcs s) r (goes_inside arcs c.event c.event r c.circuit.0)

-- what the loop has so far: nothing, at the ratio of -1 to 0, or a circuit at its own ratio
abbrev pub BestSoFar : List Arc → Option WeighedCircuit → ℤ → ℤ → Type 0
BestSoFar arcs best gain cost = MatchOption best ((gain ≡ negsuc 0) × (cost ≡ pos 0)) (λ x. OwnSums arcs x × (gain ≡ x.gain) × (cost ≡ x.cost) × (pos 0 <ℤ x.cost))

-- how many improvements are left at most
abbrev pub left : Option WeighedCircuit → ℕ
left None = 3448068464705538
left (Some x) = 3448068464705537 - rank x.gain x.cost

module _ (arcs : List Arc) (s : ArcsFit arcs) where
  pub best_fits : (best : Option WeighedCircuit) (gain cost : ℤ) → BestSoFar arcs best gain cost → (nat_abs gain ≤ 34359738368) × (nat_abs cost ≤ 224)
  best_fits None gain cost k = (omega (arith, ints, k.0), omega (arith, ints, k.1))
  best_fits (Some x) gain cost k =
      let f = own_fair arcs x s k.3 k.0 in
      (subst (λ y. nat_abs y ≤ 34359738368) (sym k.1) f.gain_small, subst (λ y. nat_abs y ≤ 224) (sym k.2) f.cost_small)

  pub cost_above : (x : WeighedCircuit) → OwnSums arcs x → (x.cost ≡ pos 0 → ⊥) → pos 0 <ℤ x.cost
  cost_above x o ne = let low : pos 0 ≤ℤ x.cost = subst (λ y. pos 0 ≤ℤ y) (sym o.costs) (costs_low arcs s (numbers_of x.circuit) o.circuit) in omega (arith, ints, ne)

  pub best_falls : (best : Option WeighedCircuit) (gain cost : ℤ) (y : WeighedCircuit) → pos 0 <ℤ y.cost → BestSoFar arcs best gain cost → BetterCircuit arcs gain cost y → left (Some y) < left best
  best_falls None gain cost y some k b = omega arith
  best_falls (Some x) gain cost y some k b =
      let fx = own_fair arcs x s k.3 k.0 in
      let fy = own_fair arcs y s some b.own in
      let above : (y.cost *ℤ x.gain) <ℤ (y.gain *ℤ x.cost) = subst (λ u. (y.cost *ℤ u) <ℤ (y.gain *ℤ x.cost)) k.1 (subst (λ u. (y.cost *ℤ gain) <ℤ (y.gain *ℤ u)) k.2 b.above) in
      omega (arith, rank_rises x.gain x.cost y.gain y.cost fx fy above, rank_small y.gain y.cost fy)

  pub best_last : (best : Option WeighedCircuit) (gain cost : ℤ) → BestSoFar arcs best gain cost → NoneBetter arcs gain cost → Improved arcs (Ok best)
  best_last None gain cost k h = λ r c.
      let none : (sum (gain_of arcs) r *ℤ pos 0) ≤ℤ (negsuc 0 *ℤ sum (cost_of arcs) r) = subst (λ y. (sum (gain_of arcs) r *ℤ pos 0) ≤ℤ (y *ℤ sum (cost_of arcs) r)) k.0 (subst (λ y. (sum (gain_of arcs) r *ℤ y) ≤ℤ (gain *ℤ sum (cost_of arcs) r)) k.1 (h r c)) in
      omega (arith, ints, costs_low arcs s r c)
  best_last (Some x) gain cost k h = record { own = k.0; costs_some = k.3; largest = subst (λ y. NoneBetter arcs y x.cost) k.1 (subst (NoneBetter arcs gain) k.2 h) }
