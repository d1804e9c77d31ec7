-- What the bytes of a body are, from what the reader of JSON says.
use Rattle.std.proofs.Common.{◌≡◌, ℕ, List, Bool, true, false, cond, Option, Some, None, refl}
use Rattle.std.specs.Str.{IsUtf8, is_utf8}
use Rattle.std.proofs.lemmas.Str.{IsUtf8-from_is_utf8, is_utf8-from_IsUtf8}
use Rattle.serde_json.specs.Data.{Data}
use Rattle.serde_json.specs.Read.{read}
use Rattle.http_bodies.specs.Json.{json_of}

pub json_good : (body : List ℕ) (d : Data) → IsUtf8 body → read body ≡ Some d → json_of body ≡ Some d
unfolding json_of
json_good body d text is = rw (is_utf8-from_IsUtf8 body text) is

pub json_bad : (body : List ℕ) → (IsUtf8 body → read body ≡ None) → json_of body ≡ None
unfolding json_of
json_bad body none = go (is_utf8 body) refl
  where
    go : (b : Bool) → is_utf8 body ≡ b → cond b (read body) None ≡ None
    go true e = none (IsUtf8-from_is_utf8 body e)
    go false e = refl
