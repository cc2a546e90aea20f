-- A circuit may begin at any of its links: a circuit in two parts is one too when the second part comes first. The event between the
-- parts is where the turned circuit begins and ends, and the same events are met once each.
use Rattle.std.proofs.Common.{ℕ, ◌⊎◌, List, [], ◌∷◌, ◌++◌, map, sym, refl, subst, inl, inr, ⊎_elim, arith}
use Rattle.std.proofs.lemmas.List.{length-append, map-append}
use Rattle.runs.specs.Nets.{Net, In, Distinct, IsRun, IsCircuit}
use Rattle.runs.proofs.Members.{in_left, in_right}
use Rattle.runs.proofs.Cutting.{run_append}

pub in_either : {X : Type 0} (x : X) (xs ys : List X) → In x (xs ++ ys) → In x xs ⊎ In x ys
in_either x [] ys h = inr h
in_either x (y ∷ xs) ys (inl e) = inl (inl e)
in_either x (y ∷ xs) ys (inr h) = ⊎_elim (λ m. inl (inr m)) inr (in_either x xs ys h)

-- two lists whose elements are all distinct from one another
pub record Apart {X : Type 0} (xs ys : List X) : Type 0 where
  pub first : Distinct xs
  pub second : Distinct ys
  pub between : (x : X) → In x xs → In x ys → ⊥

pub distinct_apart : {X : Type 0} (xs ys : List X) → Distinct (xs ++ ys) → Apart xs ys
distinct_apart [] ys d = record { first = tt; second = d; between = λ x h m. h }
distinct_apart (x ∷ xs) ys d =
    let t : Apart xs ys = distinct_apart xs ys d.1 in
    record {
      first = ((λ h. d.0 (in_left x xs ys h)), t.first);
      second = t.second;
      between = λ y h m. ⊎_elim (λ e. d.0 (in_right x xs ys (subst (λ z. In z ys) e m))) (λ k. t.between y k m) h;
    }

pub apart_distinct : {X : Type 0} (xs ys : List X) → Apart xs ys → Distinct (xs ++ ys)
apart_distinct [] ys t = t.second
apart_distinct (x ∷ xs) ys t = (
  (λ h. ⊎_elim t.first.0 (t.between x (inl refl)) (in_either x xs ys h)),
  apart_distinct xs ys (record { first = t.first.1; second = t.second; between = λ y h. t.between y (inr h) }),
)

pub distinct_turned : {X : Type 0} (xs ys : List X) → Distinct (xs ++ ys) → Distinct (ys ++ xs)
distinct_turned xs ys d = let t : Apart xs ys = distinct_apart xs ys d in apart_distinct ys xs (record { first = t.second; second = t.first; between = λ x h m. t.between x m h })

-- the event at which a run of two parts passes from the first to the second
pub record Passing (net : Net) (i j : ℕ) (p q : List ℕ) : Type 0 where
  pub event : ℕ
  pub first : IsRun net i event p
  pub second : IsRun net event j q

module _ (net : Net) where
  pub passing : (i j : ℕ) (p q : List ℕ) → IsRun net i j (p ++ q) → Passing net i j p q
  passing i j [] q is = record { event = i; first = refl; second = is }
  passing i j (l ∷ p) q is = let t : Passing net (net.to l) j p q = passing (net.to l) j p q is.2 in record { event = t.event; first = (is.0, is.1, t.first); second = t.second }

  pub turned_circuit : (i : ℕ) (p q : List ℕ) → IsCircuit net i (p ++ q) → (e : ℕ) × IsCircuit net e (q ++ p)
  turned_circuit i p q c =
      let t : Passing net i i p q = passing i i p q c.0 in
      let apart : Distinct (map net.from (q ++ p)) = subst Distinct (sym (map-append net.from q p)) (distinct_turned (map net.from p) (map net.from q) (subst Distinct (map-append net.from p q) c.2)) in
      (t.event, (run_append net t.event i t.event q p t.second t.first, omega (arith, length-append p q, length-append q p, c.1), apart))
