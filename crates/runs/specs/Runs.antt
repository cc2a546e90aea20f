-- All short runs between two events, one by one, and the choice over what they weigh.
use Rattle.std.specs.Prelude.{ℕ, zero, suc, cond, List, [], ◌∷◌, ◌++◌, map, ◌==◌}
use Rattle.weights.specs.Kinds.{Kind}
use Rattle.runs.specs.Nets.{Net}

-- the empty run, where it leads from i to j
abbrev pub standing : ℕ → ℕ → List (List ℕ)
standing i j = cond (i == j) ([] ∷ []) []

-- each of some links that goes from i, in front of each run behind it
abbrev pub longer : Net → (ℕ → List (List ℕ)) → ℕ → List ℕ → List (List ℕ)
longer net behind i [] = []
longer net behind i (l ∷ ls) = cond (net.from l == i) (map (λ run. l ∷ run) (behind (net.to l))) [] ++ longer net behind i ls

-- the runs of fewer than k links from i to j
abbrev pub runs_below : Net → ℕ → ℕ → ℕ → List (List ℕ)
runs_below net zero i j = []
runs_below net (suc k) i j = standing i j ++ longer net (λ e. runs_below net k e j) i net.links

-- the runs of 1 to n links from i to j
abbrev pub some_runs : Net → ℕ → ℕ → ℕ → List (List ℕ)
some_runs net n i j = longer net (λ e. runs_below net n e j) i net.links

-- the closed runs of 1 to n links from j back to j
abbrev pub closed_runs : Net → ℕ → ℕ → List (List ℕ)
closed_runs net n j = some_runs net n j j

-- a run's weight chains its links in order, and the empty run weighs start
abbrev pub weigh : (K : Kind) → (ℕ → K.carrier) → List ℕ → K.carrier
weigh K w [] = K.start
weigh K w (l ∷ run) = K.chaining (w l) (weigh K w run)

-- the choice over the weights of some runs, or none
abbrev pub choice_over : (K : Kind) → (ℕ → K.carrier) → List (List ℕ) → K.carrier
choice_over K w [] = K.none
choice_over K w (run ∷ runs) = K.choice (weigh K w run) (choice_over K w runs)

-- the cell (i, j): the choice over all runs of fewer than n links from i to j, or none
unfoldable pub cell : (K : Kind) → Net → (ℕ → K.carrier) → ℕ → ℕ → ℕ → K.carrier
cell K net w n i j = choice_over K w (runs_below net n i j)
