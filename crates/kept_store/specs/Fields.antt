-- Fields before and behind a window of a part: helpers of the proofs, which nobody needs to believe.
use Rattle.std.specs.Prelude.{◌≡◌, ◌<◌, ◌+◌, ℕ, ◌&&◌, ◌||◌, not, nat_le, Bool, true, List, slice_get, Some, if◌then◌else◌}
use Rattle.component_package.specs.declared.part.Reloc.{Reloc}
use Rattle.component_package.specs.packages.Reading.{reloc_end}
use Rattle.kept_store.specs.declared.fields.Span.{Span}

-- a field ends before byte `from` of a part; data comes behind code
abbrev pub is_before : Bool → ℕ → Reloc → Bool
is_before in_init from r = if r.in_init then in_init && nat_le (reloc_end r) from else in_init || nat_le (reloc_end r) from

-- it begins at byte `end` of a part or behind it
abbrev pub is_past : Bool → ℕ → Reloc → Bool
is_past in_init end r = if r.in_init then not in_init || nat_le end r.offset else not in_init && nat_le end r.offset

-- the first n do
abbrev pub AreBefore : Bool → ℕ → ℕ → List Reloc → Type 0
AreBefore in_init from n rs = (j : ℕ) (r : Reloc) → j < n → slice_get rs j ≡ Some r → is_before in_init from r ≡ true

-- the half of a span in which the first one is that doesn't
abbrev pub narrowed : Span → ℕ → Bool → Span
narrowed span middle before = if before then record { low = middle + 1; high = span.high } else record { low = span.low; high = middle }
