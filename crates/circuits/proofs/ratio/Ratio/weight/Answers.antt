use Rattle.std.proofs.Common.{◌*ℤ◌, w64, to_z, of_z}
use Rattle.circuits.proofs.Ratios.{x_small, y_small, sub_fits, weight_back, weight_small}
use Rattle.circuits.proofs.ratio.Ratio.weight.Goals as goal

pub overflow_sub-result : goal.overflow_sub-result
overflow_sub-result c =
    let a = c.args.arc.now in
    let r = c.args.self in
    sub_fits (to_z w64 (of_z w64 a.gain) *ℤ to_z w64 (of_z w64 r.cost)) (to_z w64 (of_z w64 a.cost) *ℤ to_z w64 (of_z w64 r.gain)) (x_small a.gain a.cost r.gain r.cost c.requires.0 c.requires.2 r.gain_small r.cost_small) (y_small a.gain a.cost r.gain r.cost c.requires.0 c.requires.2 r.gain_small r.cost_small)

pub returns-clause-value : goal.returns-clause-value
returns-clause-value c = let a = c.args.arc.now in let r = c.args.self in weight_back a.gain a.cost r.gain r.cost c.requires.0 c.requires.2 r.gain_small r.cost_small

pub returns-clause-modest : goal.returns-clause-modest
returns-clause-modest c = let a = c.args.arc.now in let r = c.args.self in weight_small a.gain a.cost r.gain r.cost c.requires.0 c.requires.2 r.gain_small r.cost_small
