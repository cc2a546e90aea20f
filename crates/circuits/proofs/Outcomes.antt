-- What `map`, `map_err` and `then_some` leave, by cases.
use Rattle.std.proofs.Common.{◌≡◌, Bool, true, false, ℤ, pos, ◌<ℤ◌, Option, Some, None, Result, Ok, Err, MatchOption, MatchResult, IfSome, sym, refl, subst, arith}
use lib.Signed.{lt_z}
use Rattle.std.specs.Bool.{then_some}
use Rattle.std.proofs.lemmas.Int.{ints}
use Rattle.std.specs.Option.{IsSomeAnd}
use Rattle.std.specs.Result.{IsOkAnd, IsErrAnd}

-- a fact of an option becomes one of what `map` makes of it
pub mapped : {X Y : Type 0} (o : Option X) (s : Option Y) (post : X → Y → Type 0) (F : Option X → Type 0) (S : Option Y → Type 0) → F o → MatchOption o (s ≡ None) (λ x. IsSomeAnd s (post x)) → (F None → S None) → ((x : X) (y : Y) → post x y → F (Some x) → S (Some y)) → S s
mapped None s post F S f cases none some = subst S (sym cases) (none f)
mapped (Some x) None post F S f cases none some = absurd cases
mapped (Some x) (Some y) post F S f cases none some = some x y cases f

-- a fact of a result becomes one of what `map` makes of it
pub mapped_ok : {T U E : Type 0} (r : Result T E) (s : Result U E) (post : T → U → Type 0) (F : Result T E → Type 0) (S : Result U E → Type 0) → F r → MatchResult r (λ x. IsOkAnd s (post x)) (λ e. s ≡ Err e) → ((x : T) (y : U) → post x y → F (Ok x) → S (Ok y)) → ((e : E) → F (Err e) → S (Err e)) → S s
mapped_ok (Ok x) (Ok y) post F S f cases ok err = ok x y cases f
mapped_ok (Ok x) (Err e) post F S f cases ok err = absurd cases
mapped_ok (Err e) s post F S f cases ok err = subst S (sym cases) (err e f)

-- and of what `map_err` makes of it
pub mapped_err : {T D E : Type 0} (r : Result T D) (s : Result T E) (post : D → E → Type 0) (F : Result T D → Type 0) (S : Result T E → Type 0) → F r → MatchResult r (λ x. s ≡ Ok x) (λ d. IsErrAnd s (post d)) → ((x : T) → F (Ok x) → S (Ok x)) → ((d : D) (e : E) → post d e → F (Err d) → S (Err e)) → S s
mapped_err (Ok x) s post F S f cases ok err = subst S (sym cases) (ok x f)
mapped_err (Err d) (Ok x) post F S f cases ok err = absurd cases
mapped_err (Err d) (Err e) post F S f cases ok err = err d e cases f

-- what `then_some` gives passes where the test holds
pub passes_if : {X : Type 0} (test : Bool) (x : X) (P : X → Type 0) → (test ≡ true → P x) → IfSome (then_some test x) P
passes_if true x P h = h refl
passes_if false x P h = tt

pub above_zero : (z : ℤ) → lt_z (pos 0) z ≡ true → pos 0 <ℤ z
above_zero z h = grind (arith, ints)
