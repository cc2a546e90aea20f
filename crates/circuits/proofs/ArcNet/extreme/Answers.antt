use Rattle.std.proofs.Common.{◌≡◌, Ok, Option, None, MatchOption, rules}
use Rattle.std.specs.Option.{IsSomeAnd}
use Rattle.circuits.specs.declared.WeighedCircuit.{WeighedCircuit}
use Rattle.circuits.specs.Holding.{arcs_of}
use Rattle.circuits.specs.Ratios.{Improved}
use Rattle.circuits.specs.Turns.{ShownTurned}
use Rattle.circuits.proofs.Nets.{still_largest, still_for_nothing}
use Rattle.circuits.proofs.Outcomes.{mapped, mapped_ok, mapped_err}
use Rattle.circuits.proofs.ArcNet.extreme.Goals as goal

pub returns-clause-improved : goal.returns-clause-improved
returns-clause-improved c =
    let A = arcs_of c.args.self.now in
    let Found : Option WeighedCircuit → Type 0 = λ o. Improved A (Ok o) in
    let first : Improved A c.map.result = mapped_ok c.improve.result c.map.result _ (Improved A) (Improved A) c.improve.ensures c.map.ensures.cases
    (λ best shown post h.
    let turned : MatchOption best (shown ≡ None) (λ x. IsSomeAnd shown (ShownTurned x)) = search rules in
    mapped best shown ShownTurned Found Found h turned (λ none. none) (still_largest A)) (λ e h. h) in
    mapped_err c.map.result c.map_err.result _ (Improved A) (Improved A) first c.map_err.ensures.cases (λ o h. h)
    (λ x y post h. let turned : ShownTurned x y = search rules in still_for_nothing A x y turned h)
