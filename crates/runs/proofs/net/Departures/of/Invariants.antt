use Rattle.std.proofs.Common.{◌≡◌, ℕ, ◌<◌, length, get_or}
use Rattle.runs.specs.Links.{no_link}
use Rattle.runs.specs.Rounds.{LastFrom}
use Rattle.runs.proofs.net.Departures.of.Given as goal

abbrev pub invariant-loop-number : goal.invariant-loop-number
invariant-loop-number l = record {
  events : length l.last ≡ 32;
  links : length l.earlier ≡ 128;
  lasts : (e : ℕ) → e < 32 → LastFrom l.links l.number e (get_or l.last e 0);
  earliers : (k : ℕ) → k < l.number → LastFrom l.links k (get_or l.links k no_link).from (get_or l.earlier k 0);
}
