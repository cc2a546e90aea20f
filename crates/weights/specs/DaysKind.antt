-- Days: sets of weekdays as a kind of weight. Choice is the union, chaining what both have.
use Rattle.std.specs.Prelude.{ℕ, ◌/◌, ◌%◌, ◌^◌, Bool, true, false, cond, not, ◌&&◌, ◌||◌, ◌==◌}
use Rattle.weights.specs.Kinds.{Kind}

-- the seven days of a week
pub data Weekday : Type 0 where
  monday : Weekday
  tuesday : Weekday
  wednesday : Weekday
  thursday : Weekday
  friday : Weekday
  saturday : Weekday
  sunday : Weekday

-- the bit of a mask that stands for a weekday: 0 for Monday to 6 for Sunday
abbrev pub bit_of : Weekday → ℕ
bit_of monday = 0
bit_of tuesday = 1
bit_of wednesday = 2
bit_of thursday = 3
bit_of friday = 4
bit_of saturday = 5
bit_of sunday = 6

-- the weekdays whose bits a mask has
abbrev pub days_of : ℕ → Weekday → Bool
days_of mask d = mask / 2 ^ bit_of d % 2 == 1

-- whether a holds on every weekday
abbrev pub every_weekday : (Weekday → Bool) → Bool
every_weekday a = a monday && (a tuesday && (a wednesday && (a thursday && (a friday && (a saturday && a sunday)))))

-- whether a holds on some weekday
abbrev pub some_weekday : (Weekday → Bool) → Bool
some_weekday a = a monday || (a tuesday || (a wednesday || (a thursday || (a friday || (a saturday || a sunday)))))

-- sets of weekdays as a kind: union, intersection, the empty set, all seven, every span 0
abbrev pub days_kind : Kind
days_kind = record {
  carrier = Weekday → Bool;
  choice = λ a b d. a d || b d;
  chaining = λ a b d. a d && b d;
  none = λ d. false;
  start = λ d. true;
  equal = λ a b. every_weekday (λ d. cond (a d) (b d) (not (b d)));
  span = λ a. 0;
}
