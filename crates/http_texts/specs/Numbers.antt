-- What a text says as a number.
use Rattle.std.specs.Prelude.{ℕ, List, nat_le, if◌then◌else◌}
use Rattle.std.specs.Str.Parse.{digits_value}
use Rattle.http_texts.specs.Texts.{is_numeral}
use Rattle.http_texts.specs.declared.numeral.Numeral.{Numeral}
use Rattle.http_texts.specs.declared.numeral.Numeral.TheVariants.{Value, Above, Other}

-- the number that digits write in base ten, if it is at most so much
abbrev pub value_up_to : ℕ → List ℕ → Numeral
value_up_to most digits = if nat_le (digits_value 10 digits) most then Value (digits_value 10 digits) else Above

-- the number that a numeral writes, if it is at most so much
abbrev pub numeral_of : ℕ → List ℕ → Numeral
numeral_of most text = if is_numeral text then value_up_to most text else Other
