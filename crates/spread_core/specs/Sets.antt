-- Sets of small numbers, as the bits of a number.
use Rattle.std.specs.Prelude.{ℕ, zero, suc, ◌^◌, ◌==◌, Bool, Option, Some, None, if◌then◌else◌, bit_or}
use Rattle.std.specs.Option.{option_or}
use Rattle.std.specs.Int.{bit_at}

-- k is in the set: bit k is 1
abbrev pub has : ℕ → ℕ → Bool
has set k = bit_at set k == 1

-- the set, with k in it
abbrev pub with_bit : ℕ → ℕ → ℕ
with_bit set k = bit_or set (2 ^ k)

-- the set of the numbers below n that pass a test
abbrev pub set_of : (ℕ → Bool) → ℕ → ℕ
set_of f zero = 0
set_of f (suc n) = if f n then with_bit (set_of f n) n else set_of f n

-- the least number below n that passes a test
abbrev pub least : (ℕ → Bool) → ℕ → Option ℕ
least f zero = None
least f (suc n) = option_or (least f n) (if f n then Some n else None)
