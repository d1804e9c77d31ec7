-- Counts that stay at their end.
use Rattle.std.specs.Prelude.{ℕ, List, ◌+◌, ◌-◌, ◌^◌, min, slice_set, slice_index}

-- so many, or as many as a count can hold
abbrev pub saturated : ℕ → ℕ
saturated n = min n (2 ^ 32 - 1)

-- one more, or as many as a count can hold
abbrev pub one_more : ℕ → ℕ
one_more n = saturated (n + 1)

-- one read more of this page
abbrev pub reads_one : ℕ → List ℕ → List ℕ
reads_one page reads = slice_set reads page (one_more (slice_index reads page))

-- what was counted: the reads of each page of external flash, the first page first, and the programs
-- of external flash and of program flash
pub record Counts : Type 0 where
  pub ext_reads : List ℕ
  pub ext_programs : ℕ
  pub prog_programs : ℕ
