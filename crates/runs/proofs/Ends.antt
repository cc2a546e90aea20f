-- A cell may be reached from either end: to extend what runs behind each first link weigh is to let what runs before each last
-- link weigh arrive. Both choose over the same chains of links, since chaining distributes over choice on both sides.
use Rattle.std.proofs.Common.{◌≡◌, ℕ, zero, suc, Bool, true, false, cond, eqb, List, [], ◌∷◌, sym, refl, ap, ◌∙◌, inl, inr, eq-eqb, ne_eqb}
use native.Mathlib.Decide.{ℕ_discrete}
use borrow.Author.Tests.{clash}
use Rattle.weights.specs.Kinds.{Kind, Laws}
use Rattle.runs.specs.Nets.{Net, In}
use Rattle.runs.specs.Runs.{cell}
use Rattle.runs.specs.Rounds.{seed, extend, arrive}
use Rattle.runs.proofs.Order.{none_choice}
use Rattle.runs.proofs.Cells.{cell_zero, cell_suc, extend_none, extend_same}

module _ (K : Kind) (L : Laws K) (net : Net) (w : ℕ → K.carrier) where
  -- two choices between choices
  crossed : (a b c d : K.carrier) → K.choice (K.choice a b) (K.choice c d) ≡ K.choice (K.choice a c) (K.choice b d)
  crossed a b c d =
      L.choice_assoc a b (K.choice c d)
      ∙ ap (K.choice a) (sym (L.choice_assoc b c d) ∙ ap (λ y. K.choice y d) (L.choice_comm b c) ∙ L.choice_assoc c b d)
      ∙ sym (L.choice_assoc a c (K.choice b d))

  choice_if : (t : Bool) (p u v : K.carrier) → p ≡ K.choice u v → cond t p K.none ≡ K.choice (cond t u K.none) (cond t v K.none)
  choice_if true p u v e = e
  choice_if false p u v e = sym (L.choice_none K.none)

  extend_choice : (x y : ℕ → K.carrier) (i : ℕ) (ls : List ℕ) → extend K net w (λ e. K.choice (x e) (y e)) i ls ≡ K.choice (extend K net w x i ls) (extend K net w y i ls)
  extend_choice x y i [] = sym (L.choice_none K.none)
  extend_choice x y i (l ∷ ls) =
      let t : Bool = eqb (net.from l) i in
      let u : K.carrier = K.chaining (w l) (x (net.to l)) in
      let v : K.carrier = K.chaining (w l) (y (net.to l)) in
      ap (λ z. K.choice z (extend K net w (λ e. K.choice (x e) (y e)) i ls)) (choice_if t (K.chaining (w l) (K.choice (x (net.to l)) (y (net.to l)))) u v (L.over_left (w l) (x (net.to l)) (y (net.to l))))
      ∙ ap (K.choice (K.choice (cond t u K.none) (cond t v K.none))) (extend_choice x y i ls)
      ∙ crossed (cond t u K.none) (cond t v K.none) (extend K net w x i ls) (extend K net w y i ls)

  pub arrive_choice : (x y : ℕ → K.carrier) (j : ℕ) (ls : List ℕ) → arrive K net w (λ e. K.choice (x e) (y e)) j ls ≡ K.choice (arrive K net w x j ls) (arrive K net w y j ls)
  arrive_choice x y j [] = sym (L.choice_none K.none)
  arrive_choice x y j (l ∷ ls) =
      let t : Bool = eqb (net.to l) j in
      let u : K.carrier = K.chaining (x (net.from l)) (w l) in
      let v : K.carrier = K.chaining (y (net.from l)) (w l) in
      ap (λ z. K.choice z (arrive K net w (λ e. K.choice (x e) (y e)) j ls)) (choice_if t (K.chaining (K.choice (x (net.from l)) (y (net.from l))) (w l)) u v (L.over_right (x (net.from l)) (y (net.from l)) (w l)))
      ∙ ap (K.choice (K.choice (cond t u K.none) (cond t v K.none))) (arrive_choice x y j ls)
      ∙ crossed (cond t u K.none) (cond t v K.none) (arrive K net w x j ls) (arrive K net w y j ls)

  nothing_before : (l : ℕ) (t : Bool) → cond t (K.chaining K.none (w l)) K.none ≡ K.none
  nothing_before l true = L.none_left (w l)
  nothing_before l false = refl

  arrive_none : (j : ℕ) (ls : List ℕ) → arrive K net w (λ e. K.none) j ls ≡ K.none
  arrive_none j [] = refl
  arrive_none j (l ∷ ls) =
      ap (λ y. K.choice y (arrive K net w (λ e. K.none) j ls)) (nothing_before l (eqb (net.to l) j))
      ∙ none_choice K L (arrive K net w (λ e. K.none) j ls) ∙ arrive_none j ls

  -- only what stands at the links' beginnings counts
  pub arrive_same : (x y : ℕ → K.carrier) (j : ℕ) (ls : List ℕ) → ((l : ℕ) → In l ls → x (net.from l) ≡ y (net.from l)) → arrive K net w x j ls ≡ arrive K net w y j ls
  arrive_same x y j [] same = refl
  arrive_same x y j (l ∷ ls) same =
      ap (λ v. K.choice (cond (eqb (net.to l) j) (K.chaining v (w l)) K.none) (arrive K net w x j ls)) (same l (inl refl))
      ∙ ap (K.choice (cond (eqb (net.to l) j) (K.chaining (y (net.from l)) (w l)) K.none)) (arrive_same x y j ls (λ k h. same k (inr h)))

  chained_if : (a b : K.carrier) (l : ℕ) (t : Bool) → cond t (K.chaining (K.chaining a b) (w l)) K.none ≡ K.chaining a (cond t (K.chaining b (w l)) K.none)
  chained_if a b l true = L.chaining_assoc a b (w l)
  chained_if a b l false = sym (L.none_right a)

  arrive_chained : (a : K.carrier) (y : ℕ → K.carrier) (j : ℕ) (ls : List ℕ) → arrive K net w (λ e. K.chaining a (y e)) j ls ≡ K.chaining a (arrive K net w y j ls)
  arrive_chained a y j [] = sym (L.none_right a)
  arrive_chained a y j (l ∷ ls) =
      let here : K.carrier = cond (eqb (net.to l) j) (K.chaining (y (net.from l)) (w l)) K.none in
      ap (λ z. K.choice z (arrive K net w (λ e. K.chaining a (y e)) j ls)) (chained_if a (y (net.from l)) l (eqb (net.to l) j))
      ∙ ap (K.choice (K.chaining a here)) (arrive_chained a y j ls)
      ∙ sym (L.over_left a here (arrive K net w y j ls))

  arrive_if : (t : Bool) (a : K.carrier) (y : ℕ → K.carrier) (j : ℕ) (ls : List ℕ) → arrive K net w (λ e. cond t (K.chaining a (y e)) K.none) j ls ≡ cond t (K.chaining a (arrive K net w y j ls)) K.none
  arrive_if true a y j ls = arrive_chained a y j ls
  arrive_if false a y j ls = arrive_none j ls

  -- first links and last links may be gone over in either order
  either_order : (x : ℕ → ℕ → K.carrier) (i j : ℕ) (ls ks : List ℕ) → extend K net w (λ e. arrive K net w (x e) j ks) i ls ≡ arrive K net w (λ f. extend K net w (λ e. x e f) i ls) j ks
  either_order x i j [] ks = sym (arrive_none j ks)
  either_order x i j (l ∷ ls) ks =
      let t : Bool = eqb (net.from l) i in
      let head : ℕ → K.carrier = λ f. cond t (K.chaining (w l) (x (net.to l) f)) K.none in
      let tail : ℕ → K.carrier = λ f. extend K net w (λ e. x e f) i ls in
      ap (λ z. K.choice z (extend K net w (λ e. arrive K net w (x e) j ks) i ls)) (sym (arrive_if t (w l) (x (net.to l)) j ks))
      ∙ ap (K.choice (arrive K net w head j ks)) (either_order x i j ls ks)
      ∙ sym (arrive_choice head tail j ks)

  turned : (a i b j : ℕ) (v : K.carrier) → cond (eqb a i) (K.chaining v (cond (eqb b j) K.start K.none)) K.none ≡ cond (eqb b j) (K.chaining (cond (eqb i a) K.start K.none) v) K.none
  turned a i b j v = go (eqb a i) (eqb b j) (eqb i a) (both a i)
    where
      both : (p q : ℕ) → eqb p q ≡ eqb q p
      both p q = elim (ℕ_discrete p q) [ yes e ↦ eq-eqb p q e ∙ sym (eq-eqb q p (sym e)) | no ne ↦ ne_eqb p q ne ∙ sym (ne_eqb q p (λ e. ne (sym e))) ]

      go : (s t r : Bool) → s ≡ r → cond s (K.chaining v (cond t K.start K.none)) K.none ≡ cond t (K.chaining (cond r K.start K.none) v) K.none
      go true true true e = L.start_right v ∙ sym (L.start_left v)
      go true false true e = L.none_right v
      go false true false e = sym (L.none_left v)
      go false false false e = refl
      go true t false e = absurd (clash (sym e))
      go false t true e = absurd (clash e)

  -- a single link
  one_link : (i j : ℕ) (ls : List ℕ) → extend K net w (λ e. seed K e j) i ls ≡ arrive K net w (λ e. seed K i e) j ls
  one_link i j [] = refl
  one_link i j (l ∷ ls) =
      ap (λ y. K.choice y (extend K net w (λ e. seed K e j) i ls)) (turned (net.from l) i (net.to l) j (w l))
      ∙ ap (K.choice (cond (eqb (net.to l) j) (K.chaining (seed K i (net.from l)) (w l)) K.none)) (one_link i j ls)

  -- the cells behind the first links and those before the last ones give the same
  pub both_ends : (k i j : ℕ) → extend K net w (λ e. cell K net w k e j) i net.links ≡ arrive K net w (cell K net w k i) j net.links
  both_ends zero i j =
      extend_none K L net w (λ e. cell K net w 0 e j) i (λ e. cell_zero K L net w e j) net.links
      ∙ sym (arrive_same (cell K net w 0 i) (λ e. K.none) j net.links (λ l h. cell_zero K L net w i (net.from l)) ∙ arrive_none j net.links)
  both_ends (suc k) i j =
      let links : List ℕ = net.links in
      let before : ℕ → ℕ → K.carrier = cell K net w k in
      extend_same K L net w (λ e. cell K net w (suc k) e j) (λ e. K.choice (seed K e j) (arrive K net w (before e) j links)) i links
      (λ l h. cell_suc K L net w k (net.to l) j ∙ ap (K.choice (seed K (net.to l) j)) (both_ends k (net.to l) j))
      ∙ extend_choice (λ e. seed K e j) (λ e. arrive K net w (before e) j links) i links
      ∙ ap (λ y. K.choice y (extend K net w (λ e. arrive K net w (before e) j links) i links)) (one_link i j links)
      ∙ ap (K.choice (arrive K net w (λ e. seed K i e) j links)) (either_order before i j links links)
      ∙ sym (arrive_choice (λ e. seed K i e) (λ f. extend K net w (λ e. before e f) i links) j links)
      ∙ arrive_same (λ f. K.choice (seed K i f) (extend K net w (λ e. before e f) i links)) (cell K net w (suc k) i) j links (λ l h. sym (cell_suc K L net w k i (net.from l)))
