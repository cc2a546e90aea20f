-- A row of cells by rounds: a round makes the row of k + 1 of that of k, and one that changes nothing is the last that could.
use Rattle.std.proofs.Common.{◌≡◌, ℕ, zero, suc, ◌+◌, ◌-◌, ◌<◌, ◌≤◌, sym, refl, ap, ◌∙◌, add-one, arith}
use Rattle.weights.specs.Kinds.{Kind, Laws, Idempotent, gains}
use Rattle.runs.specs.Nets.{Net, In, Within}
use Rattle.runs.specs.Runs.{closed_runs, choice_over, cell}
use Rattle.runs.specs.Gaining.{some_gains}
use Rattle.runs.specs.Rounds.{seed, arrive, Brought}
use Rattle.runs.proofs.Cells.{cell_suc, closed_is}
use Rattle.runs.proofs.Ends.{arrive_same, both_ends}
use Rattle.runs.proofs.Rounds.{cell_on, brought_before}
use Rattle.runs.proofs.Theorem.{gains_over}

module _ (K : Kind) (L : Laws K) (net : Net) (w : ℕ → K.carrier) (n : ℕ) (b : Within n net) where
  -- x is, below n, the row i of the cells of k
  abbrev pub IsRow : ℕ → ℕ → (ℕ → K.carrier) → Type 0
  IsRow k i x = (e : ℕ) → e < n → x e ≡ cell K net w k i e

  round_cell : (k i : ℕ) (x : ℕ → K.carrier) → IsRow k i x → (j : ℕ) → K.choice (seed K i j) (arrive K net w x j net.links) ≡ cell K net w (k + 1) i j
  round_cell k i x is j =
      rw (add-one k) (
      ap (K.choice (seed K i j)) (arrive_same K L net w x (cell K net w k i) j net.links (λ l h. is (net.from l) (b l h).0) ∙ sym (both_ends K L net w k i j))
      ∙ sym (cell_suc K L net w k i j)
      )

  round_closed : (k j : ℕ) (x : ℕ → K.carrier) → IsRow k j x → arrive K net w x j net.links ≡ choice_over K w (closed_runs net k j)
  round_closed k j x is = arrive_same K L net w x (cell K net w k j) j net.links (λ l h. is (net.from l) (b l h).0) ∙ sym (both_ends K L net w k j j) ∙ sym (closed_is K L net w k j)

  -- the row that a round makes of the one before
  pub next_row : Idempotent K → (k i : ℕ) (x row extended : ℕ → K.carrier) → 0 < k → IsRow k i x → IsRow k i row → ((j : ℕ) → extended j ≡ K.choice (row j) (arrive K net w x j net.links)) → IsRow (k + 1) i extended
  next_row I k i x row extended some is is' then j h =
      then j ∙ ap (λ y. K.choice y (arrive K net w x j net.links)) (is' j h)
      ∙ ap (K.choice (cell K net w k i j)) (arrive_same K L net w x (cell K net w k i) j net.links (λ l m. is (net.from l) (b l m).0))
      ∙ cell_on K L I net w k i j some

  -- what a link brings from an event whose cell the round before left
  pub brought_row : Idempotent K → (k i l : ℕ) (x row : ℕ → K.carrier) → 0 < k → IsRow k i x → IsRow k i row → In l net.links → cell K net w k i (net.from l) ≡ cell K net w (k - 1) i (net.from l) → Brought K net w x row l
  brought_row I k i l x row some is is' m old =
      let ends = b l m in
      ap (λ y. K.choice (K.chaining y (w l)) (row (net.to l))) (is (net.from l) ends.0)
      ∙ ap (K.choice (K.chaining (cell K net w k i (net.from l)) (w l))) (is' (net.to l) ends.1)
      ∙ brought_before K L I net w k i l some m old
      ∙ sym (is' (net.to l) ends.1)

  -- a round that changes nothing leaves nothing to change
  settled : (k i : ℕ) → ((e : ℕ) → e < n → cell K net w (k + 1) i e ≡ cell K net w k i e) → (d e : ℕ) → e < n → cell K net w (d + k) i e ≡ cell K net w k i e
  settled k i same zero e h = ap (λ z. cell K net w z i e) (omega arith)
  settled k i same (suc d) e h =
      let up : suc d + k ≡ d + k + 1 = omega arith in
      ap (λ z. cell K net w z i e) up
      ∙ sym (round_cell (d + k) i (cell K net w (d + k) i) (λ f hf. refl) e)
      ∙ ap (K.choice (seed K i e)) (arrive_same K L net w (cell K net w (d + k) i) (cell K net w k i) e net.links (λ l m. settled k i same d (net.from l) (b l m).0))
      ∙ round_cell k i (cell K net w k i) (λ f hf. refl) e
      ∙ same e h

  pub settled_row : (k m i : ℕ) (x y : ℕ → K.carrier) → k ≤ m → IsRow k i x → IsRow (k + 1) i y → ((e : ℕ) → e < n → y e ≡ x e) → IsRow m i x
  settled_row k m i x y le is is' same e h =
      let d : ℕ = m - k in
      let up : d + k ≡ m = omega arith in
      is e h ∙ sym (settled k i (λ f hf. sym (is' f hf) ∙ same f hf ∙ is f hf) d e h) ∙ ap (λ z. cell K net w z i e) up

  -- the choice over the links that lead back to j from the row j of the cells of n gains where a closed run does
  pub row_gains : Idempotent K → (j : ℕ) (x : ℕ → K.carrier) (v : K.carrier) → IsRow n j x → v ≡ arrive K net w x j net.links → some_gains K w (closed_runs net n j) ≡ gains K v
  row_gains I j x v is e = sym (gains_over K L I net w (closed_runs net n j) v (e ∙ round_closed n j x is))
