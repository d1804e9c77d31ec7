-- Names of components and of motes.
use Rattle.std.specs.Prelude.{ℕ, List, length, Bool, not, ◌&&◌, ◌||◌, ◌==◌, nat_lt}
use Rattle.std.specs.Char.{is_ascii_lowercase, is_ascii_digit}
use Rattle.std.specs.List.{list_all}

-- `a` to `z`, `0` to `9` and `_`
abbrev pub is_name_byte : ℕ → Bool
is_name_byte b = is_ascii_lowercase b || is_ascii_digit b || b == 95

-- such bytes alone, not none and not more than 32
abbrev pub is_name : List ℕ → Bool
is_name text = not (length text == 0) && not (nat_lt 32 (length text)) && list_all is_name_byte text
