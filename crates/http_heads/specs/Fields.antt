-- What the fields of a head are, and the key that they give a request.
use Rattle.std.specs.Prelude.{ℕ, List, [], ◌∷◌, map, codes, Bool, Option, Some, None, if◌then◌else◌, bytes_eq}
use Rattle.std.specs.List.{filter}
use Rattle.std.specs.Char.{to_ascii_lowercase}
use Rattle.httparse.specs.declared.spans.HeaderSpan.{HeaderSpan}
use Rattle.httparse.specs.Spans.{header_bytes}
use Rattle.http_texts.specs.Texts.{is_key}

-- the names and the values that headers cover in a buffer
abbrev pub fields_of : List ℕ → List HeaderSpan → List (List ℕ × List ℕ)
fields_of buffer headers = map (header_bytes buffer) headers

-- a field with this name, in letters of either case
abbrev pub is_named : List ℕ → (List ℕ × List ℕ) → Bool
is_named name field = bytes_eq (map to_ascii_lowercase field.0) (map to_ascii_lowercase name)

-- the values of the fields with this name, in their order
unfoldable pub values_of : List ℕ → List (List ℕ × List ℕ) → List (List ℕ)
values_of name fields = map (λ field. field.1) (filter (is_named name) fields)

-- a key stands once and is a text that may be one
abbrev pub key_in : List (List ℕ) → Option (List ℕ)
key_in [] = None
key_in (value ∷ []) = if is_key value then Some value else None
key_in (value ∷ other ∷ more) = None

-- the key that fields give a request
abbrev pub key_of : List (List ℕ × List ℕ) → Option (List ℕ)
key_of fields = key_in (values_of (codes "request-key") fields)
