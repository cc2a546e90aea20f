-- Where no cause refuses, each condition held.
use Rattle.std.proofs.Common.{◌≡◌, ℕ, Bool, true, false, None, Option, refl, arith}
use Rattle.faults.specs.Causes.{unless}

pub unless_none : {F : Type 0} (holds : Bool) (fault : F) (next : Option F) → unless holds fault next ≡ None → (holds ≡ true) × (next ≡ None)
unless_none true fault next e = (refl, e)
unless_none false fault next e = absurd (let z : ◌≡◌ {A = ℕ} 0 1 = cc in omega arith)
