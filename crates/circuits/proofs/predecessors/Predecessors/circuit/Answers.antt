use Rattle.std.proofs.Common.{◌≡◌, length, get_or, pos, ◌<ℤ◌, IfSome, w64, to_z, of_z, sym, ap, ◌∙◌, subst, rules}
use Rattle.circuits.specs.Arcs.{sum, numbers_of}
use Rattle.circuits.specs.Walks.{IsChain, GainingCircuit}
use Rattle.circuits.specs.Weighed.{arcs_in, weight_in}
use Rattle.circuits.proofs.Outcomes.{passes_if, above_zero}
use Rattle.circuits.proofs.Walks.{first_is_circuit}
use Rattle.circuits.proofs.WeighedLists.{net_fits}
use Rattle.circuits.proofs.predecessors.Predecessors.circuit.Goals as goal

pub returns : goal.returns
returns c =
    let net = c.args.self.now.net in
    let A = arcs_in net.arcs.now in
    let w = weight_in net.arcs.now in
    let f = c.first_circuit-circuit in
    let len : length c.as_slice.result.now ≡ net.events = ap length c.as_slice.ensures.value ∙ c.in_ok-path.ensures.0 in
    let chain : IsChain A c.as_slice.result.now = subst (IsChain A) (sym c.as_slice.ensures.value) c.in_ok-path.ensures.1 in
    let total : c.sum_along-weight.result ≡ sum w (numbers_of f.result) = c.sum_along-weight.ensures.sum w (λ a x h. search rules) in
    let same : to_z w64 (of_z w64 c.sum_along-weight.result) ≡ c.sum_along-weight.result = search rules in
    subst (λ o. IfSome o (λ run. GainingCircuit A w (numbers_of run))) (sym c.then_some.ensures)
    (passes_if _ f.result (λ run. GainingCircuit A w (numbers_of run)) (λ e. record { circuit = first_is_circuit A net.events _ _ len chain f.ensures; gains = subst (λ y. pos 0 <ℤ y) (same ∙ total) (above_zero _ e) }))

pub sum_along-weight-requires-clause-small : goal.sum_along-weight-requires-clause-small
sum_along-weight-requires-clause-small c = let fits = net_fits c.args.self.now.net in λ k d h x post. let same : x ≡ weight_in c.args.self.now.net.arcs.now (get_or (numbers_of c.first_circuit-circuit.result) k d) = search rules in rw same (fits _)
