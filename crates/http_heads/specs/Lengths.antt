-- How long the body of a request is by the fields of its head.
use Rattle.std.specs.Prelude.{ℕ, List, [], ◌∷◌, length, codes, nat_lt, ◌||◌, if◌then◌else◌}
use Rattle.http_texts.specs.Numbers.{numeral_of}
use Rattle.http_texts.specs.declared.numeral.Numeral.{Numeral}
use Rattle.http_texts.specs.declared.numeral.Numeral.TheVariants.{Value, Above, Other}
use Rattle.http_heads.specs.Fields.{values_of}
use Rattle.http_heads.specs.declared.fields.BodyLength.{BodyLength}
use Rattle.http_heads.specs.declared.fields.BodyLength.TheVariants.{Bytes, TooLarge, Bad}

-- a number of at most 262,144, a greater one, or no number
abbrev pub length_from : Numeral → BodyLength
length_from (Value count) = Bytes count
length_from Above = TooLarge
length_from Other = Bad

-- what the text of a Content-Length says
abbrev pub length_of : List ℕ → BodyLength
length_of text = length_from (numeral_of 262144 text)

-- without a Content-Length the body is empty, and two of them are a mistake
abbrev pub length_in : List (List ℕ) → BodyLength
length_in [] = Bytes 0
length_in (text ∷ []) = length_of text
length_in (text ∷ other ∷ more) = Bad

-- a head has at most 32 fields, and none of them is a Transfer-Encoding
unfoldable pub body_length_of : List (List ℕ × List ℕ) → BodyLength
body_length_of fields =
    if nat_lt 32 (length fields) || nat_lt 0 (length (values_of (codes "transfer-encoding") fields)) then Bad
    else length_in (values_of (codes "content-length") fields)
