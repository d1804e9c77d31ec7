-- Little-endian numbers in bytes.
use Rattle.std.specs.Prelude.{ℕ, ◌+◌, ◌*◌, ◌/◌, ◌%◌, List, [], ◌∷◌, slice_index}

abbrev pub u16_bytes : ℕ → List ℕ
u16_bytes n = n % 256 ∷ n / 256 ∷ []

abbrev pub u16_at : List ℕ → ℕ → ℕ
u16_at b at = slice_index b at + 256 * slice_index b (at + 1)

abbrev pub u24_bytes : ℕ → List ℕ
u24_bytes n = n % 256 ∷ n / 256 % 256 ∷ n / 65536 ∷ []

abbrev pub u24_at : List ℕ → ℕ → ℕ
u24_at b at = u16_at b at + 65536 * slice_index b (at + 2)

abbrev pub u32_bytes : ℕ → List ℕ
u32_bytes n = n % 256 ∷ n / 256 % 256 ∷ n / 65536 % 256 ∷ n / 16777216 ∷ []

abbrev pub u32_at : List ℕ → ℕ → ℕ
u32_at b at = u16_at b at + 65536 * u16_at b (at + 2)
