-- A list turned to begin at another place; a circuit so turned is a circuit with the same sums.
use Rattle.std.proofs.Common.{◌≡◌, ℕ, ◌+◌, ◌<◌, ◌≤◌, List, [], ◌∷◌, ◌++◌, length, get_or, take, drop, ℤ, ◌+ℤ◌, sym, ap, ◌∙◌, subst, arith}
use Rattle.std.specs.List.{AllByRecursion}
use Rattle.std.proofs.ByRecursion.{All-append, All-take, All-drop}
use Rattle.std.proofs.lemmas.List.{take-append-drop, length-append, length-drop, length-take, drop_more}
use Rattle.std.proofs.lemmas.Int.{ints}
use Rattle.runs.specs.Nets.{IsCircuit}
use Rattle.runs.proofs.Turning.{turned_circuit}
use Rattle.circuits.specs.declared.Arc.{Arc}
use Rattle.circuits.specs.Arcs.{arcs_net, CircuitOf, sum, BeginsLowest}

-- the elements from a place on, then those before it
abbrev pub turned_list : ℕ → List ℕ → List ℕ
turned_list p xs = drop p xs ++ take p xs

pub turned_length : (p : ℕ) (xs : List ℕ) → length (turned_list p xs) ≡ length xs
turned_length p xs = length-append (drop p xs) (take p xs) ∙ omega (arith, length-drop p xs, length-take p xs)

module _ (p : ℕ) (xs : List ℕ) (inside : p < length xs) where
  pub turned_lowest : AllByRecursion (λ b. get_or xs p 0 ≤ b) xs → BeginsLowest (turned_list p xs)
  turned_lowest low =
      let P : ℕ → Type 0 = λ b. get_or xs p 0 ≤ b in
      subst BeginsLowest (sym (ap (λ ys. ys ++ take p xs) (drop_more xs p 0 inside))) (All-append P (drop (p + 1) xs) (take p xs) (All-drop P (p + 1) xs low) (All-take P p xs low))

pub sum_append : (f : ℕ → ℤ) (p q : List ℕ) → sum f (p ++ q) ≡ sum f p +ℤ sum f q
sum_append f [] q = omega (arith, ints)
sum_append f (a ∷ p) q = omega (arith, ints, sum_append f p q)

pub turned_sum : (f : ℕ → ℤ) (p : ℕ) (xs : List ℕ) → sum f (turned_list p xs) ≡ sum f xs
turned_sum f p xs =
    let whole : sum f xs ≡ sum f (take p xs ++ drop p xs) = ap (sum f) (sym (take-append-drop p xs)) in
    omega (arith, ints, sum_append f (take p xs) (drop p xs), sum_append f (drop p xs) (take p xs))

pub turned_is_circuit : (arcs : List Arc) (p : ℕ) (xs : List ℕ) → CircuitOf arcs xs → CircuitOf arcs (turned_list p xs)
turned_is_circuit arcs p xs c =
    let t = turned_circuit (arcs_net arcs) c.event (take p xs) (drop p xs) (subst (λ ys. IsCircuit (arcs_net arcs) c.event ys) (sym (take-append-drop p xs)) c.circuit) in
    record { event = t.0; circuit = t.1 }
