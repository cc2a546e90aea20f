-- Days keeps the laws: each by cases on what a weekday has, and functions that agree on every weekday are equal.
use Rattle.std.specs.Prelude.{◌≡◌, Bool, true, false, cond, not, ◌&&◌, ◌||◌, ◌⊎◌, Decides, refl}
use Rattle.std.proofs.Common.{ap, inl, inr, ⊎_elim, arith}
use Rattle.std.proofs.Math.Path.{fun_ext}
use Rattle.std.proofs.lemmas.Bool.Decides.{Decides-and, Decides-like}
use Rattle.weights.specs.Kinds.{Laws, Idempotent}
use Rattle.weights.specs.DaysKind.{Weekday, monday, tuesday, wednesday, thursday, friday, saturday, sunday, every_weekday, some_weekday, days_kind}

or_assoc : (a b c : Bool) → ((a || b) || c) ≡ (a || (b || c))
or_assoc true b c = refl
or_assoc false b c = refl

or_comm : (a b : Bool) → (a || b) ≡ (b || a)
or_comm true true = refl
or_comm true false = refl
or_comm false true = refl
or_comm false false = refl

or_false : (a : Bool) → (a || false) ≡ a
or_false true = refl
or_false false = refl

or_same : (a : Bool) → (a || a) ≡ a
or_same true = refl
or_same false = refl

and_assoc : (a b c : Bool) → ((a && b) && c) ≡ (a && (b && c))
and_assoc true b c = refl
and_assoc false b c = refl

and_true : (a : Bool) → (a && true) ≡ a
and_true true = refl
and_true false = refl

and_false : (a : Bool) → (a && false) ≡ false
and_false true = refl
and_false false = refl

and_or : (a b c : Bool) → (a && (b || c)) ≡ ((a && b) || (a && c))
and_or true b c = refl
and_or false b c = refl

or_and : (a b c : Bool) → ((a || b) && c) ≡ ((a && c) || (b && c))
or_and true true true = refl
or_and true true false = refl
or_and true false true = refl
or_and true false false = refl
or_and false b c = refl

agree_says : (a b : Bool) → Decides (cond a b (not b)) (a ≡ b)
agree_says true true = (λ e. refl, λ e. refl)
agree_says true false = (λ e. cc, λ e. cc)
agree_says false true = (λ e. cc, λ e. cc)
agree_says false false = (λ e. refl, λ e. refl)

abbrev Seven : (Weekday → Type 0) → Type 0
Seven P = P monday × (P tuesday × (P wednesday × (P thursday × (P friday × (P saturday × P sunday)))))

each_weekday : (P : Weekday → Type 0) → Seven P → (d : Weekday) → P d
each_weekday P s monday = s.0
each_weekday P s tuesday = s.1.0
each_weekday P s wednesday = s.1.1.0
each_weekday P s thursday = s.1.1.1.0
each_weekday P s friday = s.1.1.1.1.0
each_weekday P s saturday = s.1.1.1.1.1.0
each_weekday P s sunday = s.1.1.1.1.1.1

seven : (P : Weekday → Type 0) → ((d : Weekday) → P d) → Seven P
seven P f = (f monday, (f tuesday, (f wednesday, (f thursday, (f friday, (f saturday, f sunday))))))

-- a test that decides a fact of each weekday decides it of all
every_says : (t : Weekday → Bool) (P : Weekday → Type 0) → ((d : Weekday) → Decides (t d) (P d)) → Decides (every_weekday t) ((d : Weekday) → P d)
every_says t P says =
    Decides-like (every_weekday t) (each_weekday P) (seven P)
    (Decides-and _ _ (says monday) (Decides-and _ _ (says tuesday) (Decides-and _ _ (says wednesday) (Decides-and _ _ (says thursday) (Decides-and _ _ (says friday) (Decides-and _ _ (says saturday) (says sunday)))))))

equal_says : (a b : Weekday → Bool) → Decides (days_kind.equal a b) (a ≡ b)
equal_says a b = Decides-like (days_kind.equal a b) fun_ext (λ e d. ap (λ f. f d) e) (every_says (λ d. cond (a d) (b d) (not (b d))) (λ d. a d ≡ b d) (λ d. agree_says (a d) (b d)))

pub days_laws : Laws days_kind
days_laws = record {
  choice_assoc = λ a b c. fun_ext (λ d. or_assoc (a d) (b d) (c d));
  choice_comm = λ a b. fun_ext (λ d. or_comm (a d) (b d));
  choice_none = λ a. fun_ext (λ d. or_false (a d));
  chaining_assoc = λ a b c. fun_ext (λ d. and_assoc (a d) (b d) (c d));
  start_left = λ a. refl;
  start_right = λ a. fun_ext (λ d. and_true (a d));
  none_left = λ a. refl;
  none_right = λ a. fun_ext (λ d. and_false (a d));
  over_left = λ a b c. fun_ext (λ d. and_or (a d) (b d) (c d));
  over_right = λ a b c. fun_ext (λ d. or_and (a d) (b d) (c d));
  equal_says = equal_says;
  span_none = refl;
  span_start = refl;
  span_choice = λ a b. omega arith;
  span_chaining = λ a b. omega arith;
}

pub days_idempotent : Idempotent days_kind
days_idempotent a = fun_ext (λ d. or_same (a d))

or_cases : (a b : Bool) → (a || b) ≡ true → (a ≡ true) ⊎ (b ≡ true)
or_cases true b e = inl refl
or_cases false b e = inr e

or_true : (b : Bool) → (b || true) ≡ true
or_true true = refl
or_true false = refl

-- a test that passes on some weekday passes on one that can be named
pub some_day : (t : Weekday → Bool) → some_weekday t ≡ true → (d : Weekday) × (t d ≡ true)
some_day t e =
    ⊎_elim (λ h. (monday, h)) (λ e1. ⊎_elim (λ h. (tuesday, h)) (λ e2. ⊎_elim (λ h. (wednesday, h)) (λ e3. ⊎_elim (λ h. (thursday, h)) (λ e4. ⊎_elim (λ h. (friday, h)) (λ e5. ⊎_elim (λ h. (saturday, h)) (λ h. (sunday, h)) (or_cases _ _ e5)) (or_cases _ _ e4)) (or_cases _ _ e3)) (or_cases _ _ e2)) (or_cases _ _ e1)) (or_cases _ _ e)

pub some_from_day : (t : Weekday → Bool) (d : Weekday) → t d ≡ true → some_weekday t ≡ true
some_from_day t monday h = simp h
some_from_day t tuesday h = simp (h, or_true)
some_from_day t wednesday h = simp (h, or_true)
some_from_day t thursday h = simp (h, or_true)
some_from_day t friday h = simp (h, or_true)
some_from_day t saturday h = simp (h, or_true)
some_from_day t sunday h = simp (h, or_true)
