-- A round goes on from the row of the round before, and only from the cells that rose then: what a link brings from any other was chosen
-- before. In whatever order links are gone over, no cell sinks and none rises above what the round makes of it, and once each link is
-- brought the row is that.
use Rattle.std.proofs.Common.{◌≡◌, ℕ, zero, suc, ◌+◌, ◌-◌, ◌<◌, Bool, true, false, cond, eqb, List, [], ◌∷◌, sym, refl, ap, ◌∙◌, subst, inl, inr, arith, eq-eqb, eqb-true}
use native.Mathlib.Decide.{ℕ_discrete}
use Rattle.weights.specs.Kinds.{Kind, Laws, Idempotent, AtMost}
use Rattle.runs.specs.Nets.{Net, In}
use Rattle.runs.specs.Runs.{cell}
use Rattle.runs.specs.Rounds.{seed, arrive, Brought, Grown}
use Rattle.runs.proofs.Cells.{cell_zero, cell_suc}
use Rattle.runs.proofs.Ends.{arrive_same, arrive_choice, both_ends}
use Rattle.runs.proofs.Order.{none_choice, at_most_trans, first_at_most, second_at_most, both_at_most}

module _ (K : Kind) (L : Laws K) (I : Idempotent K) (net : Net) (w : ℕ → K.carrier) where
  abbrev bring : (ℕ → K.carrier) → ℕ → K.carrier
  bring x l = K.chaining (x (net.from l)) (w l)

  -- what a link brings is at most all that arrives
  arrives : (x : ℕ → K.carrier) (ls : List ℕ) (l : ℕ) → In l ls → AtMost K (bring x l) (arrive K net w x (net.to l) ls)
  arrives x [] l h = absurd h
  arrives x (k ∷ ls) l (inl e) =
      let rest : K.carrier = arrive K net w x (net.to l) ls in
      subst (λ z. AtMost K (bring x l) (K.choice (cond (eqb (net.to z) (net.to l)) (bring x z) K.none) rest)) e
      (subst (λ t. AtMost K (bring x l) (K.choice (cond t (bring x l) K.none) rest)) (sym (eq-eqb (net.to l) (net.to l) refl)) (first_at_most K L I (bring x l) rest))
  arrives x (k ∷ ls) l (inr h) =
      let rest : K.carrier = arrive K net w x (net.to l) ls in
      let first : K.carrier = cond (eqb (net.to k) (net.to l)) (bring x k) K.none in
      at_most_trans K L I (bring x l) rest (K.choice first rest) (arrives x ls l h) (second_at_most K L I first rest)

  if_at_most : (t : Bool) (v u : K.carrier) → (t ≡ true → AtMost K v u) → AtMost K (cond t v K.none) u
  if_at_most true v u f = f refl
  if_at_most false v u f = none_choice K L u

  -- and all that arrives is at most what each link brings at most
  arrives_least : (x : ℕ → K.carrier) (j : ℕ) (u : K.carrier) (ls : List ℕ) → ((l : ℕ) → In l ls → net.to l ≡ j → AtMost K (bring x l) u) → AtMost K (arrive K net w x j ls) u
  arrives_least x j u [] f = none_choice K L u
  arrives_least x j u (l ∷ ls) f =
      both_at_most K L I (cond (eqb (net.to l) j) (bring x l) K.none) (arrive K net w x j ls) u
      (if_at_most (eqb (net.to l) j) (bring x l) u (λ t. f l (inl refl) (eqb-true (net.to l) j t)))
      (arrives_least x j u ls (λ k h. f k (inr h)))

  -- more arrives from a row that rose
  arrives_more : (x y : ℕ → K.carrier) (j : ℕ) (ls : List ℕ) → ((e : ℕ) → AtMost K (x e) (y e)) → AtMost K (arrive K net w x j ls) (arrive K net w y j ls)
  arrives_more x y j ls up = sym (arrive_choice K L net w x y j ls) ∙ arrive_same K L net w (λ e. K.choice (x e) (y e)) y j ls (λ l h. up (net.from l))

  -- the cells of one link more, from the last link
  cell_more : (k i j : ℕ) → cell K net w (suc k) i j ≡ K.choice (seed K i j) (arrive K net w (cell K net w k i) j net.links)
  cell_more k i j = cell_suc K L net w k i j ∙ ap (K.choice (seed K i j)) (both_ends K L net w k i j)

  pub cell_one : (i j : ℕ) → cell K net w 1 i j ≡ seed K i j
  cell_one i j =
      cell_more 0 i j
      ∙ L.choice_comm (seed K i j) (arrive K net w (cell K net w 0 i) j net.links)
      ∙ arrives_least (cell K net w 0 i) j (seed K i j) net.links (λ l h e. ap (λ y. K.choice (K.chaining y (w l)) (seed K i j)) (cell_zero K L net w i (net.from l)) ∙ ap (λ y. K.choice y (seed K i j)) (L.none_left (w l)) ∙ none_choice K L (seed K i j))

  cells_rise : (k i j : ℕ) → AtMost K (cell K net w k i j) (cell K net w (suc k) i j)
  cells_rise zero i j = ap (λ y. K.choice y (cell K net w 1 i j)) (cell_zero K L net w i j) ∙ none_choice K L (cell K net w 1 i j)
  cells_rise (suc k) i j =
      let s : K.carrier = seed K i j in
      let a : K.carrier = arrive K net w (cell K net w k i) j net.links in
      let b : K.carrier = arrive K net w (cell K net w (suc k) i) j net.links in
      let up : AtMost K a b = arrives_more (cell K net w k i) (cell K net w (suc k) i) j net.links (cells_rise k i) in
      ap (λ y. K.choice y (cell K net w (suc (suc k)) i j)) (cell_more k i j)
      ∙ ap (K.choice (K.choice s a)) (cell_more (suc k) i j)
      ∙ both_at_most K L I s a (K.choice s b) (first_at_most K L I s b) (at_most_trans K L I a b (K.choice s b) up (second_at_most K L I s b))
      ∙ sym (cell_more (suc k) i j)

  -- a round may go on from the row instead of what the empty run gives
  pub cell_on : (k i j : ℕ) → 0 < k → K.choice (cell K net w k i j) (arrive K net w (cell K net w k i) j net.links) ≡ cell K net w (k + 1) i j
  cell_on zero i j some = absurd (omega arith)
  cell_on (suc k) i j some =
      let s : K.carrier = seed K i j in
      let a : K.carrier = arrive K net w (cell K net w k i) j net.links in
      let b : K.carrier = arrive K net w (cell K net w (suc k) i) j net.links in
      let up : AtMost K a b = arrives_more (cell K net w k i) (cell K net w (suc k) i) j net.links (cells_rise k i) in
      let more : suc k + 1 ≡ suc (suc k) = omega arith in
      ap (λ y. K.choice y b) (cell_more k i j) ∙ L.choice_assoc s a b ∙ ap (K.choice s) up ∙ sym (cell_more (suc k) i j) ∙ ap (λ z. cell K net w z i j) (sym more)

  -- what a link brings from a cell that did not change was chosen in the round before
  pub brought_before : (k i l : ℕ) → 0 < k → In l net.links → cell K net w k i (net.from l) ≡ cell K net w (k - 1) i (net.from l) → Brought K net w (cell K net w k i) (cell K net w k i) l
  brought_before zero i l some h same = absurd (omega arith)
  brought_before (suc k) i l some h same =
      let s : K.carrier = seed K i (net.to l) in
      let a : K.carrier = arrive K net w (cell K net w k i) (net.to l) net.links in
      let less : suc k - 1 ≡ k = omega arith in
      let old : cell K net w (suc k) i (net.from l) ≡ cell K net w k i (net.from l) = same ∙ ap (λ z. cell K net w z i (net.from l)) less in
      ap (λ y. K.choice (K.chaining y (w l)) (cell K net w (suc k) i (net.to l))) old
      ∙ ap (K.choice (bring (cell K net w k i) l)) (cell_more k i (net.to l))
      ∙ at_most_trans K L I (bring (cell K net w k i) l) a (K.choice s a) (arrives (cell K net w k i) net.links l h) (second_at_most K L I s a)
      ∙ sym (cell_more k i (net.to l))

  module _ (x : ℕ → K.carrier) where
    pub grown_none : (r : ℕ → K.carrier) → Grown K net w x r r
    grown_none r = record { above = λ j. I (r j); below = λ j. first_at_most K L I (r j) (arrive K net w x j net.links) }

    pub grown_on : (r s t : ℕ → K.carrier) → Grown K net w x r s → Grown K net w x s t → Grown K net w x r t
    grown_on r s t g h = record {
      above = λ j. at_most_trans K L I (r j) (s j) (t j) (g.above j) (h.above j);
      below = λ j.
          let a : K.carrier = arrive K net w x j net.links in
          at_most_trans K L I (t j) (K.choice (s j) a) (K.choice (r j) a) (h.below j) (both_at_most K L I (s j) a (K.choice (r j) a) (g.below j) (second_at_most K L I (r j) a));
    }

    pub brought_on : (r s : ℕ → K.carrier) (l : ℕ) → Grown K net w x r s → Brought K net w x r l → Brought K net w x s l
    brought_on r s l g b = at_most_trans K L I (bring x l) (r (net.to l)) (s (net.to l)) b (g.above (net.to l))

    -- one link is chosen into the cell at its end, and no other changes
    pub grown_by : (r s : ℕ → K.carrier) (l : ℕ) → In l net.links → s (net.to l) ≡ K.choice (r (net.to l)) (bring x l) → ((j : ℕ) → (j ≡ net.to l → ⊥) → s j ≡ r j) → Grown K net w x r s
    grown_by r s l h here others = record { above = above; below = below }
      where
        a : ℕ → K.carrier
        a j = arrive K net w x j net.links

        above : (j : ℕ) → AtMost K (r j) (s j)
        above j = elim (ℕ_discrete j (net.to l)) [
          | yes e ↦ subst (λ y. AtMost K (r y) (s y)) (sym e) (subst (AtMost K (r (net.to l))) (sym here) (first_at_most K L I (r (net.to l)) (bring x l)))
          | no ne ↦ subst (AtMost K (r j)) (sym (others j ne)) (I (r j))
        ]

        unders : AtMost K (K.choice (r (net.to l)) (bring x l)) (K.choice (r (net.to l)) (arrive K net w x (net.to l) net.links))
        unders =
            let b : K.carrier = arrive K net w x (net.to l) net.links in
            let top : K.carrier = K.choice (r (net.to l)) b in
            both_at_most K L I (r (net.to l)) (bring x l) top (first_at_most K L I (r (net.to l)) b) (at_most_trans K L I (bring x l) b top (arrives x net.links l h) (second_at_most K L I (r (net.to l)) b))

        below : (j : ℕ) → AtMost K (s j) (K.choice (r j) (arrive K net w x j net.links))
        below j = elim (ℕ_discrete j (net.to l)) [
          | yes e ↦ subst (λ y. AtMost K (s y) (K.choice (r y) (arrive K net w x y net.links))) (sym e) (subst (λ v. AtMost K v (K.choice (r (net.to l)) (arrive K net w x (net.to l) net.links))) (sym here) unders)
          | no ne ↦ subst (λ v. AtMost K v (K.choice (r j) (arrive K net w x j net.links))) (sym (others j ne)) (first_at_most K L I (r j) (arrive K net w x j net.links))
        ]

    pub brought_by : (r s : ℕ → K.carrier) (l : ℕ) → s (net.to l) ≡ K.choice (r (net.to l)) (bring x l) → Brought K net w x s l
    brought_by r s l here = subst (AtMost K (bring x l)) (sym here) (second_at_most K L I (r (net.to l)) (bring x l))

    -- once each link is brought, the row is what the round makes of it
    pub round_done : (r s : ℕ → K.carrier) → Grown K net w x r s → ((l : ℕ) → In l net.links → Brought K net w x s l) → (j : ℕ) → s j ≡ K.choice (r j) (arrive K net w x j net.links)
    round_done r s g all j =
        let a : K.carrier = arrive K net w x j net.links in
        let over : AtMost K (K.choice (r j) a) (s j) = both_at_most K L I (r j) a (s j) (g.above j) (arrives_least x j (s j) net.links (λ l h e. subst (λ y. AtMost K (bring x l) (s y)) e (all l h))) in
        sym over ∙ L.choice_comm (K.choice (r j) a) (s j) ∙ g.below j
