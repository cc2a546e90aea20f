-- Token-free circuits: what no board may have on any day, and when an addition would close one.
use Rattle.std.specs.Prelude.{ℕ, Bool, ◌&&◌, List, [], ◌∷◌, ◌++◌, map, length, ◌==◌, slice_index_or}
use Rattle.weights.specs.DaysKind.{Weekday, days_of, some_weekday, days_kind}
use Rattle.runs.specs.Nets.{In, IsCircuit}
use Rattle.runs.specs.Runs.{cell}
use Rattle.runs.specs.Links.{net_of}
use Rattle.timetable.specs.declared.Addition.{Addition}
use Rattle.timetable.specs.declared.Constraint.{Constraint}
use Rattle.timetable.specs.Words.{link_of, free_days, free_net}

-- on no day is there a circuit of token-free constraints, each standing or suspended
abbrev pub NoFreeCircuit : List Constraint → Type 0
NoFreeCircuit rows = (d : Weekday) (i : ℕ) (run : List ℕ) → IsCircuit (free_net d rows) i run → ⊥

-- the days of the mask of the constraint of a number, where it stands or is suspended and has no token; else none
abbrev pub free_at : List Constraint → ℕ → Weekday → Bool
free_at rows k = slice_index_or (map free_days rows) k days_kind.none

-- the days on which token-free constraints, standing or suspended, lead from i to j: the cell of the table of runs in Days
abbrev pub days_between : ℕ → List Constraint → ℕ → ℕ → Weekday → Bool
days_between n rows i j = cell days_kind (net_of (map link_of rows)) (free_at rows) n i j

-- an addition closes a token-free circuit: it has no token, and on one of its days token-free constraints lead back
abbrev pub closes_circuit : ℕ → List Constraint → Addition → Bool
closes_circuit n rows a = a.tokens == 0 && some_weekday (λ d. days_of a.days d && days_between n rows a.to a.from d)

-- with one more constraint there is, on some day, a circuit of token-free constraints through it, each of the others standing or
-- suspended
abbrev pub FreeCircuitThrough : List Constraint → Constraint → Type 0
FreeCircuitThrough rows new = (d : Weekday) × (i : ℕ) × (run : List ℕ) × IsCircuit (free_net d (rows ++ new ∷ [])) i run × In (length rows) run
