use Rattle.std.proofs.Common.{sym, subst}
use Rattle.circuits.specs.Walks.{WalksBack}
use Rattle.circuits.specs.Weighed.{arcs_in, weight_in}
use Rattle.circuits.proofs.Walks.{first_gains}
use Rattle.circuits.proofs.weighed.WeighedNet.walked_circuit.Goals as goal

pub returns : goal.returns
returns c =
    let A = arcs_in c.args.self.now.arcs.now in
    let w = weight_in c.args.self.now.arcs.now in
    first_gains A w _ _ (subst (WalksBack A w 0) (sym c.as_slice.ensures.value) c.walk_back-path.ensures.walk) c.first_circuit.ensures
