-- One round of a row: from what the runs before each link weigh, what they weigh with it. For the private functions.
use Rattle.std.specs.Prelude.{◌≡◌, ℕ, ◌-◌, ◌<◌, ◌≤◌, cond, List, [], ◌∷◌, length, get_or, ◌==◌}
use Rattle.std.specs.List.{AllByRecursion}
use Rattle.weights.specs.Kinds.{Kind, AtMost}
use Rattle.runs.specs.declared.Link.{Link}
use Rattle.runs.specs.Nets.{Net}
use Rattle.runs.specs.Links.{no_link}

-- what the empty run gives the cell (i, j)
abbrev pub seed : (K : Kind) → ℕ → ℕ → K.carrier
seed K i j = cond (i == j) K.start K.none

-- the choice over those of some links that go from i, each chained with x at its end
abbrev pub extend : (K : Kind) → Net → (ℕ → K.carrier) → (ℕ → K.carrier) → ℕ → List ℕ → K.carrier
extend K net w x i [] = K.none
extend K net w x i (l ∷ ls) = K.choice (cond (net.from l == i) (K.chaining (w l) (x (net.to l))) K.none) (extend K net w x i ls)

-- the choice over those of some links that go to j, each chained behind x at its beginning
abbrev pub arrive : (K : Kind) → Net → (ℕ → K.carrier) → (ℕ → K.carrier) → ℕ → List ℕ → K.carrier
arrive K net w x j [] = K.none
arrive K net w x j (l ∷ ls) = K.choice (cond (net.to l == j) (K.chaining (x (net.from l)) (w l)) K.none) (arrive K net w x j ls)

-- links between n events, as many weights, each of span at most 1
pub record Fit (K : Kind) {X : Type 0} (m : X → K.carrier) (n : ℕ) (ls : List Link) (ws : List X) : Type 0 where
  pub paired : length ls ≡ length ws
  pub within : AllByRecursion (λ l. (l.from < n) × (l.to < n)) ls
  pub light : AllByRecursion (λ w. K.span (m w) ≤ 1) ws

-- what x brings over link l is at most what row r has at its end
abbrev pub Brought : (K : Kind) → Net → (w x r : ℕ → K.carrier) → ℕ → Type 0
Brought K net w x r l = AtMost K (K.chaining (x (net.from l)) (w l)) (r (net.to l))

-- row r became s: no cell sank, and none rose above the choice between it and all that arrives from x
pub record Grown (K : Kind) (net : Net) (w x r s : ℕ → K.carrier) : Type 0 where
  pub above : (j : ℕ) → AtMost K (r j) (s j)
  pub below : (j : ℕ) → AtMost K (s j) (K.choice (r j) (arrive K net w x j net.links))

-- of the first k links, c is the number plus one of the last from event e, or 0 where none is
pub record LastFrom (ls : List Link) (k e c : ℕ) : Type 0 where
  pub within : c ≤ k
  pub is : 0 < c → (get_or ls (c - 1) no_link).from ≡ e
  pub none_after : (l : ℕ) → c ≤ l → l < k → (get_or ls l no_link).from ≡ e → ⊥

-- of at most 128 links, the last from each event, and before each link the last from the same event
pub record Departing (ls : List Link) (last earlier : List ℕ) : Type 0 where
  pub few : length ls ≤ 128
  pub lasts : (e : ℕ) → e < 32 → LastFrom ls (length ls) e (get_or last e 0)
  pub earliers : (l : ℕ) → l < length ls → LastFrom ls l (get_or ls l no_link).from (get_or earlier l 0)
