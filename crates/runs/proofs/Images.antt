-- Two nets whose links answer to one another: if each link of the first stands for a link of the second between the same events, and each
-- link of the second is stood for, then runs and circuits of the first stand for runs and circuits of the second, and each of the
-- second is stood for. By induction on the run, link by link.
use Rattle.std.proofs.Common.{◌≡◌, ℕ, ◌<◌, List, [], ◌∷◌, map, length, sym, refl, ap, ◌∙◌, subst, inl, inr}
use Rattle.std.proofs.lemmas.List.{length-map}
use Rattle.runs.specs.Nets.{Net, In, Distinct, IsRun, IsCircuit}
use Rattle.runs.proofs.Members.{in_map}

-- the links of the second net are those that f gives for the links of the first, with the same events
pub record ImageOf (first second : Net) (f : ℕ → ℕ) : Type 0 where
  pub links : second.links ≡ map f first.links
  pub from : (l : ℕ) → In l first.links → second.from (f l) ≡ first.from l
  pub to : (l : ℕ) → In l first.links → second.to (f l) ≡ first.to l

-- an element of the image of a list comes from an element of the list
pub record From {X Y : Type 0} (f : X → Y) (y : Y) (xs : List X) : Type 0 where
  pub source : X
  pub is_in : In source xs
  pub is : f source ≡ y

pub from_map : {X Y : Type 0} (f : X → Y) (y : Y) (xs : List X) → In y (map f xs) → From f y xs
from_map f y [] h = absurd h
from_map f y (x ∷ xs) (inl e) = record { source = x; is_in = inl refl; is = sym e }
from_map f y (x ∷ xs) (inr h) = let t : From f y xs = from_map f y xs h in record { source = t.source; is_in = inr t.is_in; is = t.is }

-- a run of the first net that stands for a run of the second
pub record Source (first : Net) (f : ℕ → ℕ) (i j : ℕ) (run : List ℕ) : Type 0 where
  pub source : List ℕ
  pub is_run : IsRun first i j source
  pub is : map f source ≡ run

module _ (first second : Net) (f : ℕ → ℕ) (image : ImageOf first second f) where
  pub image_run : (i j : ℕ) (run : List ℕ) → IsRun first i j run → IsRun second i j (map f run)
  image_run i j [] is = is
  image_run i j (l ∷ run) is = (
    subst (In (f l)) (sym image.links) (in_map f l first.links is.0),
    image.from l is.0 ∙ is.1,
    subst (λ e. IsRun second e j (map f run)) (sym (image.to l is.0)) (image_run (first.to l) j run is.2),
  )

  image_events : (i j : ℕ) (run : List ℕ) → IsRun first i j run → map second.from (map f run) ≡ map first.from run
  image_events i j [] is = refl
  image_events i j (l ∷ run) is = ap (λ e. e ∷ map second.from (map f run)) (image.from l is.0) ∙ ap (λ es. first.from l ∷ es) (image_events (first.to l) j run is.2)

  pub image_circuit : (i : ℕ) (run : List ℕ) → IsCircuit first i run → IsCircuit second i (map f run)
  image_circuit i run c = (
    image_run i i run c.0,
    subst (λ n. 0 < n) (sym (length-map run f)) c.1,
    subst Distinct (sym (image_events i i run c.0)) c.2,
  )

  pub source_run : (i j : ℕ) (run : List ℕ) → IsRun second i j run → Source first f i j run
  source_run i j [] is = record { source = []; is_run = is; is = refl }
  source_run i j (k ∷ run) is =
      let t : From f k first.links = from_map f k first.links (subst (In k) image.links is.0) in
      let same : second.to k ≡ first.to t.source = ap second.to (sym t.is) ∙ image.to t.source t.is_in in
      let rest : Source first f (first.to t.source) j run = source_run (first.to t.source) j run (subst (λ e. IsRun second e j run) same is.2) in
      record {
        source = t.source ∷ rest.source;
        is_run = (t.is_in, sym (image.from t.source t.is_in) ∙ ap second.from t.is ∙ is.1, rest.is_run);
        is = ap (λ l. l ∷ map f rest.source) t.is ∙ ap (λ ls. k ∷ ls) rest.is;
      }

  -- a circuit of the first net that stands for a circuit of the second
  pub record SourceCircuit (i : ℕ) (run : List ℕ) : Type 0 where
    pub source : List ℕ
    pub is_circuit : IsCircuit first i source
    pub is : map f source ≡ run

  pub source_circuit : (i : ℕ) (run : List ℕ) → IsCircuit second i run → SourceCircuit i run
  source_circuit i run c =
      let t : Source first f i i run = source_run i i run c.0 in
      let events : map second.from run ≡ map first.from t.source = ap (map second.from) (sym t.is) ∙ image_events i i t.source t.is_run in
      record {
        source = t.source;
        is_circuit = (
          t.is_run,
          subst (λ n. 0 < n) (sym (sym (length-map t.source f) ∙ ap length t.is)) c.1,
          subst Distinct events c.2,
        );
        is = t.is;
      }
