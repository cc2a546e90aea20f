-- What a mask's bits say of its days: the bits of a union or an intersection are those of the days, and a mask of seven
-- bits is known by its days.
use Rattle.std.proofs.Common.{◌≡◌, ℕ, ◌+◌, ◌*◌, ◌/◌, ◌%◌, ◌^◌, ◌<◌, min, max, not, ◌&&◌, ◌||◌, eqb, sym, ap, ◌∙◌, arith}
use mathlib.Core.Path.{fun_ext}
use lib.Bits.{bit_or, bit_and, or_step, and_step, or_shr, and_shr}
use Rattle.std.proofs.lemmas.Nat.{and_le_l}
use Rattle.std.proofs.lemmas.Bool.Decides.{nat_tests, same_from_decides, Decides-eqb, Decides-like}
use Rattle.weights.specs.DaysKind.{Weekday, monday, tuesday, wednesday, thursday, friday, saturday, sunday, bit_of, days_of, some_weekday, days_kind}
use Rattle.weights.specs.DaysLaws.{days_laws}

low_max : (u x y : ℕ) → x < 2 → y < 2 → (u * 2 + max x y) % 2 ≡ max x y
low_max u x y p q = omega arith

low_min : (u x y : ℕ) → x < 2 → y < 2 → (u * 2 + min x y) % 2 ≡ min x y
low_min u x y p q = omega arith

below_two : (n : ℕ) → n % 2 < 2
below_two n = omega arith

bit_of_or : (a b k : ℕ) → bit_or a b / 2 ^ k % 2 ≡ max (a / 2 ^ k % 2) (b / 2 ^ k % 2)
bit_of_or a b k = ap (λ n. n % 2) (or_shr a b k ∙ or_step (a / 2 ^ k) (b / 2 ^ k)) ∙ low_max _ _ _ (below_two _) (below_two _)

bit_of_and : (a b k : ℕ) → bit_and a b / 2 ^ k % 2 ≡ min (a / 2 ^ k % 2) (b / 2 ^ k % 2)
bit_of_and a b k = ap (λ n. n % 2) (and_shr a b k ∙ and_step (a / 2 ^ k) (b / 2 ^ k)) ∙ low_min _ _ _ (below_two _) (below_two _)

eqb_max : (x y : ℕ) → x < 2 → y < 2 → eqb (max x y) 1 ≡ (eqb x 1 || eqb y 1)
eqb_max x y p q = grind (arith, nat_tests)

eqb_min : (x y : ℕ) → x < 2 → y < 2 → eqb (min x y) 1 ≡ (eqb x 1 && eqb y 1)
eqb_min x y p q = grind (arith, nat_tests)

pub days_or : (a b : ℕ) → days_of (bit_or a b) ≡ days_kind.choice (days_of a) (days_of b)
days_or a b = fun_ext (λ d. ap (λ n. eqb n 1) (bit_of_or a b (bit_of d)) ∙ eqb_max _ _ (below_two _) (below_two _))

pub days_and : (a b : ℕ) → days_of (bit_and a b) ≡ days_kind.chaining (days_of a) (days_of b)
days_and a b = fun_ext (λ d. ap (λ n. eqb n 1) (bit_of_and a b (bit_of d)) ∙ eqb_min _ _ (below_two _) (below_two _))

bit_same : (x y : ℕ) → x < 2 → y < 2 → eqb x 1 ≡ eqb y 1 → x ≡ y
bit_same x y p q e = grind (arith, nat_tests)

day_same : (a b : ℕ) (d : Weekday) → days_of a ≡ days_of b → a / 2 ^ bit_of d % 2 ≡ b / 2 ^ bit_of d % 2
day_same a b d e = bit_same _ _ (below_two _) (below_two _) (ap (λ f. f d) e)

by_bits : (a b : ℕ) → a < 128 → b < 128 → a / 1 % 2 ≡ b / 1 % 2 → a / 2 % 2 ≡ b / 2 % 2 → a / 4 % 2 ≡ b / 4 % 2 → a / 8 % 2 ≡ b / 8 % 2 → a / 16 % 2 ≡ b / 16 % 2 → a / 32 % 2 ≡ b / 32 % 2 → a / 64 % 2 ≡ b / 64 % 2 → a ≡ b
by_bits a b p q e0 e1 e2 e3 e4 e5 e6 = omega arith

mask_same : (a b : ℕ) → a < 128 → b < 128 → days_of a ≡ days_of b → a ≡ b
mask_same a b p q e = by_bits a b p q (day_same a b monday e) (day_same a b tuesday e) (day_same a b wednesday e) (day_same a b thursday e) (day_same a b friday e) (day_same a b saturday e) (day_same a b sunday e)

-- two masks are equal exactly when their days are
pub mask_equal : (a b : ℕ) → a < 128 → b < 128 → eqb a b ≡ days_kind.equal (days_of a) (days_of b)
mask_equal a b p q = same_from_decides (eqb a b) (days_kind.equal (days_of a) (days_of b)) (Decides-like (eqb a b) (ap days_of) (mask_same a b p q) (Decides-eqb a b)) (days_laws.equal_says (days_of a) (days_of b))

-- a mask of seven bits is 0 exactly when no weekday has its bit
none_bit : (a : ℕ) → a < 128 → some_weekday (days_of a) ≡ not (eqb a 0)
none_bit a h = grind (arith, nat_tests)

pub mask_meets : (a b : ℕ) → a < 128 → not (eqb (bit_and a b) 0) ≡ some_weekday (λ d. days_of a d && days_of b d)
mask_meets a b h =
    let small : bit_and a b < 128 = omega (arith, and_le_l a b) in
    sym (none_bit (bit_and a b) small) ∙ ap some_weekday (days_and a b)
