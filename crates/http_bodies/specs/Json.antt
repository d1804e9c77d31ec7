-- What the bytes of a body are as JSON, and what is read out of such a value.
use Rattle.std.specs.Prelude.{ℕ, List, Bool, nat_le, if◌then◌else◌, Option, Some, None, option_and_then}
use Rattle.std.specs.Str.{is_utf8, bytes_eq}
use Rattle.serde_json.specs.Data.{Data, object, member, no_members}
use Rattle.serde_json.specs.Read.{read}
use Rattle.serde_json.specs.Find.{as_number, as_u64}

-- the value of a body: none where it is not UTF-8, no JSON, or nests deeper than 127
unfoldable pub json_of : List ℕ → Option Data
json_of body = if is_utf8 body then read body else None

-- n, where it is at most the limit
abbrev pub at_most : ℕ → ℕ → Option ℕ
at_most limit n = if nat_le n limit then Some n else None

-- a whole number from 0 to the limit, written with no fraction and no exponent
abbrev pub number_up_to : ℕ → Data → Option ℕ
number_up_to limit d = option_and_then (at_most limit) (option_and_then as_u64 (as_number d))

-- the value of an object's one member, where its key is this one
abbrev pub only_member : List ℕ → Data → Option Data
only_member key (object (member k d no_members)) = if bytes_eq key k then Some d else None
only_member key _ = None
