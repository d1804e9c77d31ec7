-- Which texts are names, keys and numerals.
use Rattle.std.specs.Prelude.{ℕ, List, length, Bool, not, ◌&&◌, ◌||◌, ◌==◌, nat_le, nat_lt, slice_index_or}
use Rattle.std.specs.Char.{is_ascii_lowercase, is_ascii_digit, is_ascii_alphanumeric}
use Rattle.std.specs.List.{list_all}

-- `a` to `z`, `0` to `9` and `_`
abbrev pub is_name_byte : ℕ → Bool
is_name_byte b = is_ascii_lowercase b || is_ascii_digit b || b == 95

-- 1 to 32 such bytes
abbrev pub is_name : List ℕ → Bool
is_name text = nat_le 1 (length text) && nat_le (length text) 32 && list_all is_name_byte text

-- letters, digits, `_` and `-`
abbrev pub is_key_byte : ℕ → Bool
is_key_byte b = is_ascii_alphanumeric b || b == 95 || b == 45

-- 1 to 64 such bytes
abbrev pub is_key : List ℕ → Bool
is_key text = nat_le 1 (length text) && nat_le (length text) 64 && list_all is_key_byte text

-- `0`, or digits of which the first isn't `0`
abbrev pub is_numeral : List ℕ → Bool
is_numeral text =
    not (length text == 0) && not (nat_lt 1 (length text) && slice_index_or text 0 0 == 48) && list_all is_ascii_digit text
