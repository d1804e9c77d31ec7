-- What a further digit makes of a number.
use Rattle.std.proofs.Common.{◌≡◌, ℕ, ◌+◌, ◌-◌, ◌*◌, ◌<◌, List, length, take, true, false, refl, nat_le, slice_index_or, arith}
use Rattle.std.specs.Char.{is_ascii_digit}
use Rattle.std.specs.List.{list_all}
use Rattle.std.specs.Str.Parse.{digits_value}
use Rattle.std.proofs.lemmas.Int.Digits.{digits_value_more}
use Rattle.std.proofs.lemmas.List.Folds.{list_all_at}
use Rattle.std.proofs.lemmas.Str.{digit_value_digit}
use Rattle.std.proofs.lemmas.Str.Parse.{digits_value-take-le}
use Rattle.std.specs.Int.{IsInRange}
use Rattle.http_texts.specs.Numbers.{value_up_to}
use Rattle.http_texts.specs.declared.numeral.Numeral.TheVariants.{Above}

-- each of some digits is one
pub digit_at : (digits : List ℕ) (i : ℕ) → i < length digits → list_all is_ascii_digit digits ≡ true → IsInRange 48 57 (slice_index_or digits i 0)
digit_at digits i within all = grind (arith, list_all_at is_ascii_digit digits i 0 within, all)

-- the number with one more digit
pub value_more : (digits : List ℕ) (i value : ℕ) → i < length digits → list_all is_ascii_digit digits ≡ true → value ≡ digits_value 10 (take i digits)
    → value * 10 + (slice_index_or digits i 0 - 48) ≡ digits_value 10 (take (i + 1) digits)
value_more digits i value within all is =
    let digit = digit_value_digit (slice_index_or digits i 0) (digit_at digits i within all) in
    let more = digits_value_more 10 digits i within in
    omega (arith, digit, more, is)

-- digits whose first ones already write too great a number
pub above : (most : ℕ) (digits : List ℕ) (i value : ℕ) → value ≡ digits_value 10 (take i digits) → most < value → Above ≡ value_up_to most digits
above most digits i value is great =
    let rises = digits_value-take-le 10 digits i (omega arith) in
    let refused : nat_le (digits_value 10 digits) most ≡ false = grind (arith, rises, is, great) in
    rw refused refl
