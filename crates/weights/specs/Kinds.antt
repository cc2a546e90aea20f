-- What a kind of weight is, and the laws that every kind keeps: for whoever writes a kind, and for the table of runs.
use Rattle.std.specs.Prelude.{◌≡◌, ℕ, ◌+◌, ◌<◌, ◌≤◌, max, Bool, not, Decides, Option, MatchOption}

-- a set of weights with a choice between two, a chaining of two, a weight none and a weight start; whether two are equal;
-- and how far a weight spans
pub record Kind : Type 1 where
  pub carrier : Type 0
  pub choice : carrier → carrier → carrier
  pub chaining : carrier → carrier → carrier
  pub none : carrier
  pub start : carrier
  pub equal : carrier → carrier → Bool
  pub span : carrier → ℕ

-- choice and chaining form a semiring; equality tells what is equal; spans grow as they may
pub record Laws (K : Kind) : Type 0 where
  -- choice is associative and commutative, and none is neutral for it
  pub choice_assoc : (a b c : K.carrier) → K.choice (K.choice a b) c ≡ K.choice a (K.choice b c)
  pub choice_comm : (a b : K.carrier) → K.choice a b ≡ K.choice b a
  pub choice_none : (a : K.carrier) → K.choice a K.none ≡ a
  -- chaining is associative, start is neutral on both sides, and none on either side gives none
  pub chaining_assoc : (a b c : K.carrier) → K.chaining (K.chaining a b) c ≡ K.chaining a (K.chaining b c)
  pub start_left : (a : K.carrier) → K.chaining K.start a ≡ a
  pub start_right : (a : K.carrier) → K.chaining a K.start ≡ a
  pub none_left : (a : K.carrier) → K.chaining K.none a ≡ K.none
  pub none_right : (a : K.carrier) → K.chaining a K.none ≡ K.none
  -- chaining distributes over choice on both sides
  pub over_left : (a b c : K.carrier) → K.chaining a (K.choice b c) ≡ K.choice (K.chaining a b) (K.chaining a c)
  pub over_right : (a b c : K.carrier) → K.chaining (K.choice a b) c ≡ K.choice (K.chaining a c) (K.chaining b c)
  -- equality says yes exactly when two weights are the same
  pub equal_says : (a b : K.carrier) → Decides (K.equal a b) (a ≡ b)
  -- none and start span 0, a choice at most the larger span, a chaining at most the sum
  pub span_none : K.span K.none ≡ 0
  pub span_start : K.span K.start ≡ 0
  pub span_choice : (a b : K.carrier) → K.span (K.choice a b) ≤ max (K.span a) (K.span b)
  pub span_chaining : (a b : K.carrier) → K.span (K.chaining a b) ≤ K.span a + K.span b

-- the choice between a weight and itself is that weight
abbrev pub Idempotent : Kind → Type 0
Idempotent K = (a : K.carrier) → K.choice a a ≡ a

-- weight a is at most b: the choice between them gives b
abbrev pub AtMost : (K : Kind) → K.carrier → K.carrier → Type 0
AtMost K a b = K.choice a b ≡ b

-- a weight gains when it is not at most start
abbrev pub Gains : (K : Kind) → K.carrier → Type 0
Gains K a = AtMost K a K.start → ⊥

-- whether a weight gains
abbrev pub gains : (K : Kind) → K.carrier → Bool
gains K a = not (K.equal (K.choice a K.start) K.start)

-- what chaining answers for weights a and b that mean m a and m b: nothing exactly when the two spans add to more than 32
abbrev pub Chained : (K : Kind) {X : Type 0} → (X → K.carrier) → X → X → Option X → Type 0
Chained K m a b r = MatchOption r (32 < K.span (m a) + K.span (m b)) (λ x. (K.span (m a) + K.span (m b) ≤ 32) × (m x ≡ K.chaining (m a) (m b)))
