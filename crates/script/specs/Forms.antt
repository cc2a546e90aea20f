-- The forms of a line: which call a line makes, with which values.
use Rattle.std.specs.Prelude.{ℕ, cond, List, [], ◌∷◌, Some, None, vec_items, codes, Option, nat_lt}
use Rattle.std.specs.Option.{option_map}
use Rattle.std.specs.Str.{bytes_eq}
use Rattle.timetable.specs.declared.Addition.{Addition}
use Rattle.calls.specs.declared.Call.{Call}
use Rattle.calls.specs.declared.Call.TheVariants as call
use Rattle.script.specs.Words.{only_word}
use Rattle.script.specs.Numbers.{bind, number_in, first_number, numbers_in, hex_bytes}

-- a call as plain values: each list of a call as the list of its items
pub data Form : Type 0 where
  opening : (mark events period : ℕ) → (departures : List ℕ) → Form
  loading : (bytes : List ℕ) → Form
  adding : Addition → Form
  retiming : (number time : ℕ) → Form
  withdrawing : (number : ℕ) → Form
  suspending : (number : ℕ) → Form
  restoring : (mark number : ℕ) → Form
  dismissing : (mark number : ℕ) → Form

-- the values of a call
abbrev pub form_of : Call → Form
form_of (call.Open mark events period departures) = opening mark events period (vec_items departures)
form_of (call.Load bytes) = loading (vec_items bytes)
form_of (call.Add addition) = adding addition
form_of (call.Retime number time) = retiming number time
form_of (call.Withdraw number) = withdrawing number
form_of (call.Suspend number) = suspending number
form_of (call.Restore mark number) = restoring mark number
form_of (call.Dismiss mark number) = dismissing mark number

-- the largest numbers of 8, 16 and 32 bits
abbrev pub largest_8 : ℕ
largest_8 = 255

abbrev pub largest_16 : ℕ
largest_16 = 65535

abbrev pub largest_32 : ℕ
largest_32 = 4294967295

-- the letter of a word: any one ASCII character
abbrev pub letter_in : List ℕ → Option ℕ
letter_in [] = None
letter_in (b ∷ []) = cond (nat_lt b 128) (Some b) None
letter_in (b ∷ c ∷ bytes) = None

-- one number of 16 bits, and no word behind it
abbrev pub one_number : List (List ℕ) → Option ℕ
one_number fields = bind (only_word fields) (number_in largest_16)

-- two numbers of 16 bits, and no word behind them
abbrev pub two_numbers : List (List ℕ) → Option (ℕ × ℕ)
two_numbers fields = bind (first_number largest_16 fields) (λ first. option_map (λ second. (first.0, second)) (one_number first.1))

-- MARK N PERIOD D0 D1 ..
abbrev pub opening_in : List (List ℕ) → Option Form
opening_in fields =
    bind (first_number largest_16 fields) (λ mark.
    bind (first_number largest_8 mark.1) (λ events.
    bind (first_number largest_32 events.1) (λ period.
    option_map (λ departures. opening mark.0 events.0 period.0 departures) (numbers_in largest_32 period.1))))

-- HEX, or nothing for an empty file
abbrev pub file_in : List (List ℕ) → Option (List ℕ)
file_in [] = Some []
file_in (word ∷ []) = hex_bytes word
file_in (word ∷ other ∷ others) = None

-- FROM TO TIME TOKENS DAYS LETTER
abbrev pub addition_in : List (List ℕ) → Option Addition
addition_in fields =
    bind (first_number largest_8 fields) (λ from.
    bind (first_number largest_8 from.1) (λ to.
    bind (first_number largest_16 to.1) (λ time.
    bind (first_number largest_8 time.1) (λ tokens.
    bind (first_number largest_8 tokens.1) (λ days.
    option_map (λ letter. record { from = from.0; to = to.0; time = time.0; tokens = tokens.0; days = days.0; letter = letter })
    (bind (only_word days.1) letter_in))))))

-- the fields of each form
abbrev pub loading_in : List (List ℕ) → Option Form
loading_in fields = option_map loading (file_in fields)

abbrev pub adding_in : List (List ℕ) → Option Form
adding_in fields = option_map adding (addition_in fields)

-- NUMBER TIME
abbrev pub retiming_in : List (List ℕ) → Option Form
retiming_in fields = option_map (λ n. retiming n.0 n.1) (two_numbers fields)

-- NUMBER
abbrev pub withdrawal_in : List (List ℕ) → Option Form
withdrawal_in fields = option_map withdrawing (one_number fields)

-- NUMBER
abbrev pub suspension_in : List (List ℕ) → Option Form
suspension_in fields = option_map suspending (one_number fields)

-- MARK NUMBER
abbrev pub restoration_in : List (List ℕ) → Option Form
restoration_in fields = option_map (λ n. restoring n.0 n.1) (two_numbers fields)

-- MARK NUMBER
abbrev pub dismissal_in : List (List ℕ) → Option Form
dismissal_in fields = option_map (λ n. dismissing n.0 n.1) (two_numbers fields)

-- the form of a keyword with its fields: one case for each keyword
abbrev pub form_in : List ℕ → List (List ℕ) → Option Form
form_in keyword fields =
    cond (bytes_eq keyword (codes "open")) (opening_in fields)
    (cond (bytes_eq keyword (codes "load")) (loading_in fields)
    (cond (bytes_eq keyword (codes "add")) (adding_in fields)
    (cond (bytes_eq keyword (codes "retime")) (retiming_in fields)
    (cond (bytes_eq keyword (codes "withdraw")) (withdrawal_in fields)
    (cond (bytes_eq keyword (codes "suspend")) (suspension_in fields)
    (cond (bytes_eq keyword (codes "restore")) (restoration_in fields)
    (cond (bytes_eq keyword (codes "dismiss")) (dismissal_in fields)
    None)))))))
