-- What a query says.
use Rattle.std.specs.Prelude.{ℕ, List, drop, codes, nat_eq, Option, Some, None, if◌then◌else◌}
use Rattle.std.specs.List.{starts_with}
use Rattle.http_texts.specs.Numbers.{numeral_of}
use Rattle.http_texts.specs.declared.numeral.Numeral.{Numeral}
use Rattle.http_texts.specs.declared.numeral.Numeral.TheVariants.{Value, Above, Other}

-- the value, where there is one
abbrev pub value_of : Numeral → Option ℕ
value_of (Value n) = Some n
value_of Above = None
value_of Other = None

-- the number of at most 4,294,967,295 that a text writes
abbrev pub number_in : List ℕ → Option ℕ
number_in text = value_of (numeral_of 4294967295 text)

-- the number of a query that is `have=` and a number
abbrev pub have_in : List ℕ → Option ℕ
have_in query = if starts_with nat_eq query (codes "have=") then number_in (drop 5 query) else None
