-- Seconds keeps the laws: those of numbers by arithmetic, and by cases where a weight is absent.
use Rattle.std.specs.Prelude.{◌≡◌, ℕ, ◌+◌, ◌/◌, ◌≤◌, max, Option, Some, None, ℤ, pos, negsuc, ◌+ℤ◌, Decides, ◌==◌, unsigned_abs, refl}
use Rattle.std.proofs.Common.{ap, arith}
use Rattle.std.proofs.Math.IntN.{+ℤ_assoc, +ℤ_idl, +ℤ_idr}
use Rattle.std.specs.Int.{int_max}
use Rattle.std.proofs.lemmas.Int.{ints, clamps}
use Rattle.std.proofs.lemmas.Bool.Decides.{Decides-eqb, Decides-like}
use Rattle.weights.specs.Kinds.{Laws, Idempotent}
use Rattle.weights.specs.SecondsKind.{larger, sum, equal_numbers, equal_seconds, span_of, seconds_kind}

max_assoc : (a b c : ℤ) → int_max (int_max a b) c ≡ int_max a (int_max b c)
max_assoc a b c = omega (arith, ints, clamps)

max_comm : (a b : ℤ) → int_max a b ≡ int_max b a
max_comm a b = omega (arith, ints, clamps)

max_same : (a : ℤ) → int_max a a ≡ a
max_same a = omega (arith, ints, clamps)

add_max : (a b c : ℤ) → a +ℤ int_max b c ≡ int_max (a +ℤ b) (a +ℤ c)
add_max a b c = omega (arith, ints, clamps)

max_add : (a b c : ℤ) → int_max a b +ℤ c ≡ int_max (a +ℤ c) (b +ℤ c)
max_add a b c = omega (arith, ints, clamps)

-- z is at most the larger of x and y, or at most their sum
span_max : (x y z : ℕ) → z ≤ max x y → (z + 1073741823) / 1073741824 ≤ max ((x + 1073741823) / 1073741824) ((y + 1073741823) / 1073741824)
span_max x y z h = omega arith

span_add : (x y z : ℕ) → z ≤ x + y → (z + 1073741823) / 1073741824 ≤ (x + 1073741823) / 1073741824 + (y + 1073741823) / 1073741824
span_add x y z h = omega arith

abs_max : (a b : ℤ) → unsigned_abs (int_max a b) ≤ max (unsigned_abs a) (unsigned_abs b)
abs_max a b = omega (arith, ints, clamps)

abs_add : (a b : ℤ) → unsigned_abs (a +ℤ b) ≤ unsigned_abs a + unsigned_abs b
abs_add a b = omega (arith, ints)

choice_assoc : (a b c : Option ℤ) → larger (larger a b) c ≡ larger a (larger b c)
choice_assoc None b c = refl
choice_assoc (Some u) None c = refl
choice_assoc (Some u) (Some v) None = refl
choice_assoc (Some u) (Some v) (Some w) = ap Some (max_assoc u v w)

choice_comm : (a b : Option ℤ) → larger a b ≡ larger b a
choice_comm None None = refl
choice_comm None (Some v) = refl
choice_comm (Some u) None = refl
choice_comm (Some u) (Some v) = ap Some (max_comm u v)

choice_none : (a : Option ℤ) → larger a None ≡ a
choice_none None = refl
choice_none (Some v) = refl

chaining_assoc : (a b c : Option ℤ) → sum (sum a b) c ≡ sum a (sum b c)
chaining_assoc None b c = refl
chaining_assoc (Some u) None c = refl
chaining_assoc (Some u) (Some v) None = refl
chaining_assoc (Some u) (Some v) (Some w) = ap Some (+ℤ_assoc u v w)

start_left : (a : Option ℤ) → sum (Some (pos 0)) a ≡ a
start_left None = refl
start_left (Some v) = ap Some (+ℤ_idl v)

start_right : (a : Option ℤ) → sum a (Some (pos 0)) ≡ a
start_right None = refl
start_right (Some v) = ap Some (+ℤ_idr v)

none_right : (a : Option ℤ) → sum a None ≡ None
none_right None = refl
none_right (Some v) = refl

over_left : (a b c : Option ℤ) → sum a (larger b c) ≡ larger (sum a b) (sum a c)
over_left None b c = refl
over_left (Some u) None c = refl
over_left (Some u) (Some v) None = refl
over_left (Some u) (Some v) (Some w) = ap Some (add_max u v w)

over_right : (a b c : Option ℤ) → sum (larger a b) c ≡ larger (sum a c) (sum b c)
over_right None b c = refl
over_right (Some u) None None = refl
over_right (Some u) None (Some w) = refl
over_right (Some u) (Some v) None = refl
over_right (Some u) (Some v) (Some w) = ap Some (max_add u v w)

numbers_say : (v w : ℤ) → Decides (equal_numbers v w) (v ≡ w)
numbers_say (pos a) (pos b) = Decides-like (a == b) (ap pos) (λ e. cc) (Decides-eqb a b)
numbers_say (pos a) (negsuc b) = (λ e. cc, λ e. cc)
numbers_say (negsuc a) (pos b) = (λ e. cc, λ e. cc)
numbers_say (negsuc a) (negsuc b) = Decides-like (a == b) (ap negsuc) (λ e. cc) (Decides-eqb a b)

equal_says : (a b : Option ℤ) → Decides (equal_seconds a b) (a ≡ b)
equal_says None None = (λ e. refl, λ e. refl)
equal_says None (Some w) = (λ e. cc, λ e. cc)
equal_says (Some v) None = (λ e. cc, λ e. cc)
equal_says (Some v) (Some w) = Decides-like (equal_numbers v w) (ap Some) (λ e. cc) (numbers_say v w)

span_choice : (a b : Option ℤ) → span_of (larger a b) ≤ max (span_of a) (span_of b)
span_choice None b = omega arith
span_choice (Some u) None = omega arith
span_choice (Some u) (Some v) = span_max _ _ _ (abs_max u v)

span_chaining : (a b : Option ℤ) → span_of (sum a b) ≤ span_of a + span_of b
span_chaining None b = omega arith
span_chaining (Some u) None = omega arith
span_chaining (Some u) (Some v) = span_add _ _ _ (abs_add u v)

pub seconds_laws : Laws seconds_kind
seconds_laws = record {
  choice_assoc = choice_assoc;
  choice_comm = choice_comm;
  choice_none = choice_none;
  chaining_assoc = chaining_assoc;
  start_left = start_left;
  start_right = start_right;
  none_left = λ a. refl;
  none_right = none_right;
  over_left = over_left;
  over_right = over_right;
  equal_says = equal_says;
  span_none = refl;
  span_start = refl;
  span_choice = span_choice;
  span_chaining = span_chaining;
}

pub seconds_idempotent : Idempotent seconds_kind
seconds_idempotent None = refl
seconds_idempotent (Some v) = ap Some (max_same v)
