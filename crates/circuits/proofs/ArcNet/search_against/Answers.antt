use Rattle.std.proofs.Common.{◌≡◌, ℕ, ◌<◌, List, ℤ, Result, MatchResult, length, sym, ap, ◌∙◌, subst, arith, rules}
use Rattle.std.specs.List.{All}
use Rattle.std.proofs.ByRecursion.{All-get_or}
use Rattle.std.proofs.lemmas.List.{take_all}
use Rattle.circuits.specs.declared.Arc.{Arc}
use Rattle.circuits.specs.declared.numbers.Circuit.{Circuit}
use Rattle.circuits.specs.declared.WeighedCircuit.{WeighedCircuit}
use Rattle.circuits.specs.Arcs.{CircuitOf, numbers_of}
use Rattle.circuits.specs.Holding.{arcs_of}
use Rattle.circuits.specs.Ratios.{OwnSums, BetterCircuit}
use Rattle.circuits.specs.Searches.{SettledRow, SettledAgainst}
use Rattle.circuits.specs.Walks.{GainingCircuit}
use Rattle.circuits.specs.Weighed.{arcs_in, weight_in}
use Rattle.circuits.proofs.Outcomes.{mapped_err}
use Rattle.circuits.proofs.Ratios.{circuit_known, make_better}
use Rattle.circuits.proofs.ArcNet.search_against.Goals as goal

pub map_err-requires : goal.map_err-requires
map_err-requires c = λ e is.
    let A = arcs_of c.args.self.now in
    let are : arcs_in c.as_slice.result.now ≡ A = ap arcs_in c.as_slice.ensures.value ∙ c.weighed_against-weighed.ensures.are ∙ take_all (length A) A (omega arith) in
    let found = rw is at c.settle.ensures in
    let circuit : CircuitOf A (numbers_of e) = subst (λ (xs : List Arc). CircuitOf xs (numbers_of e)) are found.circuit in
    let known : All (λ a. a < length A) (numbers_of e) = λ k d h. All-get_or _ (numbers_of e) k d h (circuit_known A (numbers_of e) circuit) in
    search rules

pub returns : goal.returns
returns c =
    let A = arcs_of c.args.self.now in
    let w = weight_in c.as_slice.result.now in
    let are : arcs_in c.as_slice.result.now ≡ A = ap arcs_in c.as_slice.ensures.value ∙ c.weighed_against-weighed.ensures.are ∙ take_all (length A) A (omega arith) in
    let weighs : (a : ℕ) → a < length A → _ = λ a h. ap (λ xs. weight_in xs a) c.as_slice.ensures.value ∙ c.weighed_against-weighed.ensures.weigh a h in
    mapped_err c.settle.result c.map_err.result _ (λ (r : Result (List ℤ) Circuit). MatchResult r (SettledRow A w) (λ e. GainingCircuit A w (numbers_of e))) (λ (r : Result (List ℤ) WeighedCircuit). MatchResult r (SettledAgainst A c.args.ratio.gain c.args.ratio.cost) (BetterCircuit A c.args.ratio.gain c.args.ratio.cost))
    (subst (λ (xs : List Arc). MatchResult c.settle.result (SettledRow xs w) (λ e. GainingCircuit xs w (numbers_of e))) are c.settle.ensures) c.map_err.ensures.cases
    (λ values s. record { weight = w; weighs = weighs; settled = s })
    (λ e x post found.
    let own : OwnSums A x = search rules in
    let same : x.circuit ≡ e = search rules in
    make_better A c.args.ratio.gain c.args.ratio.cost w weighs x own (subst (λ f. GainingCircuit A w (numbers_of f)) (sym same) found))
