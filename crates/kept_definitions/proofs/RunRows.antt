-- Runs, and packages that are taken back from an image.
use Rattle.std.proofs.Common.{◌≡◌, ℕ, Bool, List, [], ◌∷◌, ◌++◌, true, false, None, pos, refl, replicate, take, map}
use Rattle.std.specs.Prelude.{slice_set}
use Rattle.std.specs.List.{range_with_len}
use Rattle.avr_reloc.specs.declared.kind.RelocType.{RelocType}
use Rattle.avr_reloc.specs.declared.kind.RelocType.TheVariants as kinds
use Rattle.component_package.specs.declared.part.Place.TheVariants as places
use Rattle.component_package.specs.declared.part.Reloc.{Reloc}
use Rattle.component_package.specs.packages.Component.{Component, spelling}
use Rattle.component_package.specs.packages.Reading.{package_fault}
use Rattle.component_package.specs.link.Layout.{room_of}
use Rattle.kept_definitions.specs.Runs.{run_of, run_in_table, run_in_package, relocs_in_run, room_of_run, bits_kept, cleared, taken_back}
use Rattle.kept_definitions.specs.Kept.{going_run}
use Rattle.kept_definitions.proofs.Samples.{other}

abbrev reloc : Bool → ℕ → RelocType → ℕ → Reloc
reloc in_init offset kind target = record { offset = offset; in_init = in_init; weak = false; kind = kind; target = target; addend = pos 0 }

-- a call and a relative jump in code, and a word in data
abbrev left : Component
left = record {
  component = 3;
  version = 2;
  code = 255 ∷ 255 ∷ 14 ∷ 148 ∷ 0 ∷ 0 ∷ 0 ∷ 192 ∷ [];
  init = 7 ∷ 0 ∷ 0 ∷ 9 ∷ [];
  bss = 2;
  exports = record { symbol = 20; place = places.Init; weak = true; value = 2 } ∷ [];
  relocs = reloc false 2 kinds.Call 16 ∷ reloc false 6 kinds.Rel13 0 ∷ reloc true 1 kinds.Abs16 1 ∷ [];
}

-- a byte in data
abbrev right : Component
right = record {
  component = 4;
  version = 1;
  code = 8 ∷ 149 ∷ [];
  init = 0 ∷ 5 ∷ [];
  bss = 0;
  exports = record { symbol = 16; place = places.Code; weak = false; value = 0 } ∷ [];
  relocs = reloc true 0 kinds.Eight 10 ∷ [];
}

-- both are packages
packages : (package_fault (spelling left) ≡ None) × (package_fault (spelling right) ≡ None)
packages = (refl, refl)

-- ---- runs

-- a run is the header, exports of six bytes and relocations of eight
run_bytes : run_of left ≡ 70 ∷ 67 ∷ 80 ∷ 49 ∷ 3 ∷ 0 ∷ 2 ∷ 0 ∷ 8 ∷ 0 ∷ 4 ∷ 0 ∷ 2 ∷ 0 ∷ 1 ∷ 0 ∷ 3 ∷ 0
    ∷ (replicate 14 0 ++ 20 ∷ 0 ∷ 129 ∷ 0 ∷ 2 ∷ 0 ∷ 2 ∷ 0 ∷ 0 ∷ 18 ∷ 16 ∷ 0 ∷ 0 ∷ 0 ∷ 6 ∷ 0 ∷ 0 ∷ 3 ∷ 0 ∷ 0 ∷ 0 ∷ 0 ∷ 1 ∷ 0 ∷ 1 ∷ 4 ∷ 1 ∷ 0 ∷ 0 ∷ 0 ∷ [])
run_bytes = refl

-- it is found in a table slot and in an inbox slot, whatever stands behind it, and says its room and its relocations
found : (run_in_table (run_of left ++ 1 ∷ 2 ∷ []) ≡ run_of left) × (run_in_package (spelling left ++ 1 ∷ 2 ∷ []) ≡ run_of left)
    × (relocs_in_run (run_of left) ≡ left.relocs) × (room_of_run (run_of left) ≡ room_of left)
found = (refl, refl, refl, refl)

-- that of a fresh entry is found in the inbox, and that of another one in the tables
by_mark : (going_run (run_of right ∷ []) (spelling left ∷ []) (record { entry = other 3; slot = 0; fresh = true }) ≡ run_of left)
    × (going_run (run_of right ∷ []) (spelling left ∷ []) (record { entry = other 3; slot = 0; fresh = false }) ≡ run_of right)
by_mark = (refl, refl)

-- ---- clearing

-- the bits that no value takes: all of a byte in no field; fields of code say nothing of data, nor those of data of code
bits : (map (bits_kept false left.relocs) (range_with_len 0 9) ≡ 255 ∷ 255 ∷ 14 ∷ 254 ∷ 0 ∷ 0 ∷ 0 ∷ 240 ∷ 255 ∷ [])
    × (map (bits_kept true left.relocs) (range_with_len 0 5) ≡ 255 ∷ 0 ∷ 0 ∷ 255 ∷ 255 ∷ [])
bits = (refl, refl)

-- each shape of field, with all bits set before
abbrev emptied : RelocType → List ℕ
emptied kind = cleared false (reloc false 0 kind 0 ∷ []) (replicate 4 255)

shapes : (emptied kinds.Abs32 ≡ replicate 4 0) × (emptied kinds.Rel7 ≡ 7 ∷ 252 ∷ 255 ∷ 255 ∷ []) × (emptied kinds.Rel13 ≡ 0 ∷ 240 ∷ 255 ∷ 255 ∷ [])
    × (emptied kinds.Abs16 ≡ 0 ∷ 0 ∷ 255 ∷ 255 ∷ []) × (emptied kinds.Lo8 ≡ 240 ∷ 240 ∷ 255 ∷ 255 ∷ []) × (emptied kinds.Call ≡ 14 ∷ 254 ∷ 0 ∷ 0 ∷ [])
    × (emptied kinds.Six ≡ 248 ∷ 211 ∷ 255 ∷ 255 ∷ []) × (emptied kinds.SixAdiw ≡ 48 ∷ 255 ∷ 255 ∷ 255 ∷ []) × (emptied kinds.Eight ≡ 0 ∷ 255 ∷ 255 ∷ 255 ∷ [])
shapes = (refl, refl, refl, refl, refl, refl, refl, refl, refl)

-- ---- taking back

-- code of both, then data of both, with values in all fields, and a fill
abbrev image : List ℕ
image = 255 ∷ 255 ∷ 255 ∷ 149 ∷ 18 ∷ 52 ∷ 171 ∷ 197 ∷ 8 ∷ 149 ∷ 7 ∷ 33 ∷ 34 ∷ 9 ∷ 77 ∷ 5 ∷ 255 ∷ 255 ∷ []

-- both packages come back, also where other values stood in the fields
back : (taken_back image (run_of left ∷ run_of right ∷ []) ≡ spelling left ∷ spelling right ∷ [])
    × (taken_back (left.code ++ right.code ++ left.init ++ right.init) (run_of left ∷ run_of right ∷ []) ≡ spelling left ∷ spelling right ∷ [])
back = (refl, refl)

-- what stands outside the values comes back as it is in the image
other_bits : map (take 34) (taken_back (slice_set image 1 254) (run_of left ∷ run_of right ∷ [])) ≡ (take 32 (spelling left) ++ 255 ∷ 254 ∷ []) ∷ take 34 (spelling right) ∷ []
other_bits = refl
