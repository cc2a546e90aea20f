-- The links from each event, last first: one link more is the last from its event, and before it comes what was the last.
use Rattle.std.proofs.Common.{◌≡◌, ℕ, ◌+◌, ◌-◌, ◌<◌, List, length, get_or, set, sym, ap, ◌∙◌, subst, arith, below_more}
use native.Mathlib.Decide.{ℕ_discrete}
use Rattle.std.proofs.lemmas.List.{get_or-set_same, get_or-set_other}
use Rattle.runs.specs.declared.Link.{Link}
use Rattle.runs.specs.Links.{no_link}
use Rattle.runs.specs.Rounds.{LastFrom}

module _ (ls : List Link) where
  abbrev start_of : ℕ → ℕ
  start_of l = (get_or ls l no_link).from

  -- the k-th link goes from another event
  last_past : (k e c : ℕ) → LastFrom ls k e c → (start_of k ≡ e → ⊥) → LastFrom ls (k + 1) e c
  last_past k e c t ne = record {
    within = omega (arith, t.within);
    is = t.is;
    none_after = λ l low high same. elim (ℕ_discrete l k) [ yes here ↦ ne (ap start_of (sym here) ∙ same) | no other ↦ t.none_after l low (omega arith) same ];
  }

  -- the k-th link goes from e
  last_here : (k e : ℕ) → start_of k ≡ e → LastFrom ls (k + 1) e (k + 1)
  last_here k e h = record {
    within = omega arith;
    is = λ some. let back : k + 1 - 1 ≡ k = omega arith in ap start_of back ∙ h;
    none_after = λ l low high same. absurd (omega arith);
  }

  pub none_yet : (e : ℕ) → LastFrom ls 0 e 0
  none_yet e = record { within = omega arith; is = λ some. absurd (omega arith); none_after = λ l low high same. absurd (omega arith) }

  -- one link more is written into both lists
  pub lasts_more : (last : List ℕ) (k from : ℕ) → length last ≡ 32 → from < 32 → start_of k ≡ from → ((e : ℕ) → e < 32 → LastFrom ls k e (get_or last e 0)) → (e : ℕ) → e < 32 → LastFrom ls (k + 1) e (get_or (set last from (k + 1)) e 0)
  lasts_more last k from size inside h before e below = elim (ℕ_discrete e from) [
    | yes q ↦ subst (λ z. LastFrom ls (k + 1) z (get_or (set last from (k + 1)) z 0)) (sym q) (subst (LastFrom ls (k + 1) from) (sym (get_or-set_same last from (k + 1) 0 (omega arith))) (last_here k from h))
    | no ne ↦ subst (LastFrom ls (k + 1) e) (sym (get_or-set_other last from e (k + 1) 0 ne)) (last_past k e (get_or last e 0) (before e below) (λ same. ne (sym same ∙ h)))
  ]

  pub earliers_more : (earlier : List ℕ) (k c : ℕ) → k < length earlier → LastFrom ls k (start_of k) c → ((l : ℕ) → l < k → LastFrom ls l (start_of l) (get_or earlier l 0)) → (l : ℕ) → l < k + 1 → LastFrom ls l (start_of l) (get_or (set earlier k c) l 0)
  earliers_more earlier k c inside here before =
      below_more (λ l. LastFrom ls l (start_of l) (get_or (set earlier k c) l 0)) k
      (λ l h. subst (LastFrom ls l (start_of l)) (sym (get_or-set_other earlier k l c 0 (λ same. omega arith))) (before l h))
      (subst (LastFrom ls k (start_of k)) (sym (get_or-set_same earlier k c 0 inside)) here)
