-- What holds of versions over kept tables, each proved on a function of src/law.rt.
use Rattle.std.specs.Prelude.{◌≡◌, ℕ, ◌+◌, ◌<◌, true, List, [], length}
use Rattle.avr_elf.specs.Object.{Object, object_of}
use Rattle.release_rows.specs.Tables.{Tables, symbol_count}
use Rattle.release_rows.specs.Kept.{AreKept}
use Rattle.release_judging.specs.declared.judged.Judged.TheVariants.{Refused}
use Rattle.release_versions.specs.Versions.{are_symbols, numbers_of, new_symbols, judged_version}

-- the numbers that an object's names have or would get are those of different symbols
abbrev pub KeptNumbersDiffer : Type 0
KeptNumbersDiffer = (t : Tables) (o : Object) → AreKept t → are_symbols (numbers_of t o) ≡ true

-- so 51 comes only where there are too few numbers for the new ones
abbrev pub RefusedForWant : Type 0
RefusedForWant = (t : Tables) (name file : List ℕ) → AreKept t → judged_version t name file ≡ Refused 51 [] → 65520 < symbol_count t + length (new_symbols t (object_of file))
