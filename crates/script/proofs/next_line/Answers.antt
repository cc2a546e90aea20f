use Rattle.std.proofs.Common.{◌+◌, take, ◌∷◌, sym, ap, ◌∙◌, arith}
use Rattle.std.proofs.lemmas.Bool.{eqb-false}
use Rattle.script.specs.Lines.{lines}
use Rattle.script.proofs.Cuts.{to_end}
use Rattle.script.proofs.FirstLines.{cut_line, cut_last_line}
use Rattle.script.proofs.WholeScripts.{script_law}
use Rattle.script.proofs.next_line.Goals as goal

pub returns-in-Some-clause-lines : goal.returns-in-Some-clause-lines
returns-in-Some-clause-lines c =
    let script = c.args.script.now in
    ap (λ behind. take c.in-Some.end script ∷ lines behind) (to_end (c.in-Some.end + 1) script) ∙ cut_line script c.in-Some.end (omega (arith, eqb-false _ _ (sym c.if-is_empty.ensures))) (sym c.in-Some.ensures)

pub returns-in-Some-clause-law : goal.returns-in-Some-clause-law
returns-in-Some-clause-law c = script_law c.args.script.now

pub returns-in-None-clause-lines : goal.returns-in-None-clause-lines
returns-in-None-clause-lines c = cut_last_line c.args.script.now (omega (arith, eqb-false _ _ (sym c.if-is_empty.ensures))) (sym c.in-None.ensures)

pub returns-in-None-clause-law : goal.returns-in-None-clause-law
returns-in-None-clause-law c = script_law c.args.script.now
