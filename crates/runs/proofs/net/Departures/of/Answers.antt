use Rattle.std.proofs.Common.{◌≡◌, ◌<◌, length, get_or, sym, subst, arith, rules}
use Rattle.std.proofs.ByRecursion.{All-get_or}
use Rattle.std.proofs.lemmas.List.{get_or-replicate}
use Rattle.runs.specs.Links.{no_link}
use Rattle.runs.specs.Rounds.{LastFrom}
use Rattle.runs.proofs.Departing.{none_yet, lasts_more, earliers_more}
use Rattle.runs.proofs.net.Departures.of.Goals as goal

pub loop-number-init : goal.loop-number-init
loop-number-init c = record {
  events = search rules;
  links = search rules;
  lasts = λ e h. subst (LastFrom c.args.links.now 0 e) (sym (get_or-replicate 32 e 0 0 h)) (none_yet c.args.links.now e);
  earliers = λ k h. absurd (omega arith);
}

pub loop-number-preserved : goal.loop-number-preserved
loop-number-preserved c =
    let ls = c.args.links.now in
    let k = c.loop-number.number in
    let from = c.from-from.result in
    let inside : from < 32 = subst (λ e. e < 32) (sym c.from-from.ensures) (All-get_or (λ l. l.from < 32) ls k no_link c.loop-number-test.true c.requires.within) in
    record {
      events = search rules;
      links = search rules;
      lasts = lasts_more ls c.loop-number.last k from c.loop-number.invariant.events inside (sym c.from-from.ensures) c.loop-number.invariant.lasts;
      earliers = earliers_more ls c.loop-number.earlier k (get_or c.loop-number.last from 0) (omega (arith, c.loop-number-test.true, c.requires.few, c.loop-number.invariant.links))
          (subst (λ e. LastFrom ls k e (get_or c.loop-number.last from 0)) c.from-from.ensures (c.loop-number.invariant.lasts from inside)) c.loop-number.invariant.earliers;
    }

pub returns : goal.returns
returns c =
    let n : c.loop-number.number ≡ length c.args.links.now = omega (arith, c.loop-number.auto.number-end, c.loop-number-test.false) in
    record {
      few = c.requires.few;
      lasts = λ e h. subst (λ z. LastFrom c.args.links.now z e (get_or c.loop-number.last e 0)) n (c.loop-number.invariant.lasts e h);
      earliers = λ l h. c.loop-number.invariant.earliers l (omega (arith, n, h));
    }
