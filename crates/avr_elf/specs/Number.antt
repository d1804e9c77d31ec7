-- Little-endian numbers in a list of bytes. A byte past the list's end counts as 0.
use Rattle.std.specs.Prelude.{ℕ, ◌+◌, ◌*◌, List, slice_index}

-- the number of two bytes
unfoldable pub u16_at : List ℕ → ℕ → ℕ
u16_at bytes at = slice_index bytes at + 0x100 * slice_index bytes (at + 1)

-- the number of four bytes
unfoldable pub u32_at : List ℕ → ℕ → ℕ
u32_at bytes at = slice_index bytes at + 0x100 * slice_index bytes (at + 1) + 0x10000 * slice_index bytes (at + 2) + 0x1000000 * slice_index bytes (at + 3)
