-- The order of a kind of weight, and what it says of chained runs.
use Rattle.std.proofs.Common.{◌≡◌, ℕ, List, [], ◌∷◌, ◌++◌, sym, ap, ◌∙◌, subst, inl, inr}
use Rattle.std.specs.List.{AllByRecursion}
use Rattle.weights.specs.Kinds.{Kind, Laws, Idempotent, AtMost}
use Rattle.runs.specs.Nets.{In}
use Rattle.runs.specs.Runs.{weigh, choice_over}

module _ (K : Kind) (L : Laws K) where
  pub none_choice : (a : K.carrier) → K.choice K.none a ≡ a
  none_choice a = L.choice_comm K.none a ∙ L.choice_none a

  pub weigh_append : (w : ℕ → K.carrier) (p q : List ℕ) → weigh K w (p ++ q) ≡ K.chaining (weigh K w p) (weigh K w q)
  weigh_append w [] q = sym (L.start_left (weigh K w q))
  weigh_append w (l ∷ p) q = ap (K.chaining (w l)) (weigh_append w p q) ∙ sym (L.chaining_assoc (w l) (weigh K w p) (weigh K w q))

module _ (K : Kind) (L : Laws K) (I : Idempotent K) where
  pub at_most_trans : (a b c : K.carrier) → AtMost K a b → AtMost K b c → AtMost K a c
  at_most_trans a b c p q = ap (K.choice a) (sym q) ∙ sym (L.choice_assoc a b c) ∙ ap (λ y. K.choice y c) p ∙ q

  pub first_at_most : (a b : K.carrier) → AtMost K a (K.choice a b)
  first_at_most a b = sym (L.choice_assoc a a b) ∙ ap (λ y. K.choice y b) (I a)

  pub second_at_most : (a b : K.carrier) → AtMost K b (K.choice a b)
  second_at_most a b = ap (K.choice b) (L.choice_comm a b) ∙ first_at_most b a ∙ L.choice_comm b a

  pub both_at_most : (a b c : K.carrier) → AtMost K a c → AtMost K b c → AtMost K (K.choice a b) c
  both_at_most a b c p q = L.choice_assoc a b c ∙ ap (K.choice a) q ∙ p

  pub chained_at_most : (a b c : K.carrier) → AtMost K b c → AtMost K (K.chaining a b) (K.chaining a c)
  chained_at_most a b c p = sym (L.over_left a b c) ∙ ap (K.chaining a) p

  pub at_most_chained : (a b c : K.carrier) → AtMost K a b → AtMost K (K.chaining a c) (K.chaining b c)
  at_most_chained a b c p = sym (L.over_right a b c) ∙ ap (λ y. K.chaining y c) p

  module _ (w : ℕ → K.carrier) where
    -- each run weighs at most the choice over all
    pub choice_above : (run : List ℕ) (runs : List (List ℕ)) → In run runs → AtMost K (weigh K w run) (choice_over K w runs)
    choice_above run [] h = absurd h
    choice_above run (r ∷ runs) (inl e) = subst (λ y. AtMost K (weigh K w y) (choice_over K w (r ∷ runs))) (sym e) (first_at_most (weigh K w r) (choice_over K w runs))
    choice_above run (r ∷ runs) (inr h) = at_most_trans (weigh K w run) (choice_over K w runs) (choice_over K w (r ∷ runs)) (choice_above run runs h) (second_at_most (weigh K w r) (choice_over K w runs))

    -- and the choice over all weighs at most what all weigh at most
    pub choice_least : (runs : List (List ℕ)) (u : K.carrier) → AllByRecursion (λ run. AtMost K (weigh K w run) u) runs → AtMost K (choice_over K w runs) u
    choice_least [] u h = none_choice K L u
    choice_least (run ∷ runs) u h = both_at_most (weigh K w run) (choice_over K w runs) u h.0 (choice_least runs u h.1)

    -- to leave out a part that does not gain loses nothing
    pub shortened : (p c q : List ℕ) → AtMost K (weigh K w c) K.start → AtMost K (weigh K w (p ++ (c ++ q))) (weigh K w (p ++ q))
    shortened p c q h =
        let front : K.carrier = weigh K w p in
        let back : K.carrier = weigh K w q in
        let whole : weigh K w (p ++ (c ++ q)) ≡ K.chaining front (K.chaining (weigh K w c) back) = weigh_append K L w p (c ++ q) ∙ ap (K.chaining front) (weigh_append K L w c q) in
        let short : weigh K w (p ++ q) ≡ K.chaining front (K.chaining K.start back) = weigh_append K L w p q ∙ ap (K.chaining front) (sym (L.start_left back)) in
        let mid : AtMost K (K.chaining front (K.chaining (weigh K w c) back)) (K.chaining front (K.chaining K.start back)) = chained_at_most front (K.chaining (weigh K w c) back) (K.chaining K.start back) (at_most_chained (weigh K w c) K.start back h) in
        ap (λ y. K.choice y (weigh K w (p ++ q))) whole ∙ ap (K.choice (K.chaining front (K.chaining (weigh K w c) back))) short ∙ mid ∙ sym short
