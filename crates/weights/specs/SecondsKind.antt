-- Seconds: a whole number or absent, as a kind of weight. Choice is the larger, absent being least; chaining is the sum.
use Rattle.std.specs.Prelude.{ℕ, ◌+◌, ◌*◌, ◌/◌, ◌≤◌, Bool, true, false, Option, Some, None, ℤ, pos, negsuc, ◌+ℤ◌, ◌==◌, unsigned_abs}
use Rattle.std.specs.Int.{int_max}
use Rattle.weights.specs.Kinds.{Kind}

-- the larger of two, absent being least
abbrev pub larger : Option ℤ → Option ℤ → Option ℤ
larger None b = b
larger (Some v) None = Some v
larger (Some v) (Some w) = Some (int_max v w)

-- the sum of two, absent where either is
abbrev pub sum : Option ℤ → Option ℤ → Option ℤ
sum None b = None
sum (Some v) None = None
sum (Some v) (Some w) = Some (v +ℤ w)

-- whether two whole numbers are equal
abbrev pub equal_numbers : ℤ → ℤ → Bool
equal_numbers (pos a) (pos b) = a == b
equal_numbers (pos a) (negsuc b) = false
equal_numbers (negsuc a) (pos b) = false
equal_numbers (negsuc a) (negsuc b) = a == b

-- whether two are equal
abbrev pub equal_seconds : Option ℤ → Option ℤ → Bool
equal_seconds None None = true
equal_seconds None (Some w) = false
equal_seconds (Some v) None = false
equal_seconds (Some v) (Some w) = equal_numbers v w

-- how many times 1,073,741,824 seconds a number reaches, rounded up; absent spans 0
abbrev pub span_of : Option ℤ → ℕ
span_of None = 0
span_of (Some v) = (unsigned_abs v + 1073741823) / 1073741824

-- seconds as a kind: the larger, the sum, absent, 0
abbrev pub seconds_kind : Kind
seconds_kind = record {
  carrier = Option ℤ;
  choice = larger;
  chaining = sum;
  none = None;
  start = Some (pos 0);
  equal = equal_seconds;
  span = span_of;
}

-- a weight reaches at most so many times 1,073,741,824 seconds either way
abbrev pub Reaches : Option ℤ → ℕ → Type 0
Reaches None s = Unit {0}
Reaches (Some v) s = unsigned_abs v ≤ s * 1073741824

-- s is the least number of times that a weight reaches; for absent it is 0
pub record LeastSpan (a : Option ℤ) (s : ℕ) : Type 0 where
  pub enough : Reaches a s
  pub least : (t : ℕ) → Reaches a t → s ≤ t
