-- The days on which a constraint is token-free: all of its mask's where it stands or is suspended without a token, else none.
use Rattle.std.proofs.Common.{◌≡◌, true, false, ◌&&◌, eqb, arith}
use Rattle.std.proofs.lemmas.Grind.{common_steps}
use mathlib.Core.Path.{fun_ext}
use Rattle.weights.specs.DaysKind.{days_of}
use Rattle.timetable.specs.declared.Constraint.{Constraint}
use Rattle.timetable.specs.Words.{is_live, free_days}

pub free_on_all : (c : Constraint) → true ≡ (is_live c && eqb c.tokens 0) → free_days c ≡ days_of c.days
free_on_all c e = fun_ext (λ d. grind (arith, common_steps))

pub free_on_none : (c : Constraint) → false ≡ (is_live c && eqb c.tokens 0) → free_days c ≡ (λ d. false)
free_on_none c e = fun_ext (λ d. grind (arith, common_steps))
