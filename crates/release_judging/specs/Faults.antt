-- The numbers that refusals carry.
use Rattle.std.specs.Prelude.{ℕ, ℤ, pos, List, [], ◌∷◌}
use Rattle.component_package.specs.link.Link.{Cause, FlashFull, RamFull, Symbols, Relocations, Duplicate, Undefined, Range}
use Rattle.component_package.specs.mote.Machine.{range_number}

-- each cause that a set has no image has its number
abbrev pub number_of_cause : Cause → ℕ
number_of_cause (FlashFull t) = 1
number_of_cause (RamFull t) = 2
number_of_cause (Symbols n) = 3
number_of_cause (Relocations n) = 4
number_of_cause (Duplicate s i j) = 5
number_of_cause (Undefined k r s) = 6
number_of_cause (Range k r c) = 7

-- of a cause: its numbers in their order
abbrev pub cause_values : Cause → List ℤ
cause_values (FlashFull t) = pos t ∷ []
cause_values (RamFull t) = pos t ∷ []
cause_values (Symbols n) = pos n ∷ []
cause_values (Relocations n) = pos n ∷ []
cause_values (Duplicate s i j) = pos s ∷ pos i ∷ pos j ∷ []
cause_values (Undefined k r s) = pos k ∷ pos r ∷ pos s ∷ []
cause_values (Range k r c) = pos k ∷ pos r ∷ pos (range_number c) ∷ []
