-- A mote's acknowledgement of a release.
use Rattle.std.specs.Prelude.{ℕ, List, codes, Option, option_and_then}
use Rattle.serde_json.specs.Data.{Data}
use Rattle.http_bodies.specs.Json.{json_of, number_up_to, only_member}

-- an object whose only key is `release`, with a release's number
abbrev pub acknowledgement_of : Data → Option ℕ
acknowledgement_of d = option_and_then (number_up_to 4294967295) (only_member (codes "release") d)

-- the release that a body acknowledges
abbrev pub acknowledgement_in : List ℕ → Option ℕ
acknowledgement_in body = option_and_then acknowledgement_of (json_of body)
