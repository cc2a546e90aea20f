-- The enumeration has exactly the runs: each of its lists is a run, and each short enough run is in it. By induction on the
-- number of links, over the first link.
use Rattle.std.proofs.Common.{◌≡◌, ℕ, zero, suc, ◌<◌, cond, eqb, List, [], ◌∷◌, map, length, sym, refl, subst, inl, inr, arith, eq-eqb, eqb-true}
use Rattle.std.specs.List.{AllByRecursion}
use Rattle.std.proofs.ByRecursion.{All-append, All-map, All-weaker}
use Rattle.runs.specs.Nets.{Net, In, IsRun}
use Rattle.runs.specs.Runs.{standing, longer, runs_below, closed_runs}
use Rattle.runs.proofs.Members.{in_left, in_right, in_map, all_if}

module _ (net : Net) where
  -- a link from i, in front of a run behind it
  pub in_longer : (behind : ℕ → List (List ℕ)) (i l : ℕ) (run ls : List ℕ) → In l ls → net.from l ≡ i → In run (behind (net.to l)) → In (l ∷ run) (longer net behind i ls)
  in_longer behind i l run [] h e m = absurd h
  in_longer behind i l run (k ∷ ls) (inl same) e m =
      let Front : ℕ → Type 0 = λ x. In (l ∷ run) (cond (eqb (net.from x) i) (map (λ r. x ∷ r) (behind (net.to x))) []) in
      let here : Front l = subst (λ t. In (l ∷ run) (cond t (map (λ r. l ∷ r) (behind (net.to l))) [])) (sym (eq-eqb (net.from l) i e)) (in_map (λ r. l ∷ r) run (behind (net.to l)) m) in
      in_left (l ∷ run) (cond (eqb (net.from k) i) (map (λ r. k ∷ r) (behind (net.to k))) []) (longer net behind i ls) (subst Front same here)
  in_longer behind i l run (k ∷ ls) (inr h) e m = in_right (l ∷ run) (cond (eqb (net.from k) i) (map (λ r. k ∷ r) (behind (net.to k))) []) (longer net behind i ls) (in_longer behind i l run ls h e m)

  pub in_runs : (k i j : ℕ) (run : List ℕ) → IsRun net i j run → length run < k → In run (runs_below net k i j)
  in_runs zero i j run is short = absurd (omega arith)
  in_runs (suc k) i j [] is short =
      in_left [] (standing i j) (longer net (λ e. runs_below net k e j) i net.links) (subst (λ t. In {X = List ℕ} [] (cond t ([] ∷ []) [])) (sym (eq-eqb i j is)) (inl refl))
  in_runs (suc k) i j (l ∷ run) is short =
      in_right (l ∷ run) (standing i j) (longer net (λ e. runs_below net k e j) i net.links)
      (in_longer (λ e. runs_below net k e j) i l run net.links is.0 is.1 (in_runs k (net.to l) j run is.2 (omega arith)))

  -- what holds of each link from i in front of each run behind it
  all_longer : (P : List ℕ → Type 0) (behind : ℕ → List (List ℕ)) (i : ℕ) (ls : List ℕ) → ((l : ℕ) → In l ls → net.from l ≡ i → AllByRecursion (λ run. P (l ∷ run)) (behind (net.to l))) → AllByRecursion P (longer net behind i ls)
  all_longer P behind i [] f = tt
  all_longer P behind i (l ∷ ls) f =
      All-append P (cond (eqb (net.from l) i) (map (λ run. l ∷ run) (behind (net.to l))) []) (longer net behind i ls)
      (all_if P (map (λ run. l ∷ run) (behind (net.to l))) (eqb (net.from l) i) (λ t. All-map P (λ run. l ∷ run) (behind (net.to l)) (f l (inl refl) (eqb-true (net.from l) i t))))
      (all_longer P behind i ls (λ k h. f k (inr h)))

  behind_are : (i j l : ℕ) (runs : List (List ℕ)) → AllByRecursion (IsRun net (net.to l) j) runs → In l net.links → net.from l ≡ i → AllByRecursion (λ run. IsRun net i j (l ∷ run)) runs
  behind_are i j l runs are h e = All-weaker (IsRun net (net.to l) j) (λ run. IsRun net i j (l ∷ run)) (λ run is. (h, e, is)) runs are

  pub runs_are : (k i j : ℕ) → AllByRecursion (IsRun net i j) (runs_below net k i j)
  runs_are zero i j = tt
  runs_are (suc k) i j =
      All-append (IsRun net i j) (standing i j) (longer net (λ e. runs_below net k e j) i net.links)
      (all_if (IsRun net i j) ([] ∷ []) (eqb i j) (λ t. (eqb-true i j t, tt)))
      (all_longer (IsRun net i j) (λ e. runs_below net k e j) i net.links (λ l. behind_are i j l (runs_below net k (net.to l) j) (runs_are k (net.to l) j)))

  pub closed_are : (n j : ℕ) → AllByRecursion (IsRun net j j) (closed_runs net n j)
  closed_are n j = all_longer (IsRun net j j) (λ e. runs_below net n e j) j net.links (λ l. behind_are j j l (runs_below net n (net.to l) j) (runs_are n (net.to l) j))
