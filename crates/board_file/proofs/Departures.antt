-- The departures in a body: how many, and that each is read from its own four bytes.
use Rattle.std.proofs.Common.{◌≡◌, ℕ, zero, suc, List, length, map, drop, refl, ap, arith}
use Rattle.std.proofs.lemmas.Grind.{common_steps}
use Rattle.std.specs.Simd.{first_chunks}
use Rattle.board_file.specs.Numbers.{four_at}
use Rattle.board_file.specs.Records.{departures_of}

pub length_departures : (n : ℕ) (body : List ℕ) → length (departures_of n body) ≡ n
length_departures zero body = refl
length_departures (suc n) body = ap suc (length_departures n (drop 4 body))

-- the departures are those of the body's parts of four bytes
pub departures_in_chunks : (n : ℕ) (body : List ℕ) → map (λ part. four_at part 0) (first_chunks 4 n body) ≡ departures_of n body
departures_in_chunks zero body = refl
departures_in_chunks (suc n) body = let rest = departures_in_chunks n (drop 4 body) in grind (arith, common_steps)
