-- The run of a component, which a table slot keeps, and the package that a run and a patched image give back.
use Rattle.std.specs.Prelude.{ℕ, ◌+◌, ◌-◌, ◌*◌, Bool, true, false, not, ◌&&◌, nat_lt, nat_le, List, [], ◌∷◌, ◌++◌, length, take, drop, map, slice_index, slice_range, bit_and, if◌then◌else◌}
use Rattle.std.specs.List.{flat_map, enumerate_from}
use Rattle.avr_reloc.specs.Kind.{shape_of}
use Rattle.avr_reloc.specs.Field.{keep_of}
use Rattle.component_package.specs.declared.part.Header.{Header}
use Rattle.component_package.specs.declared.part.Reloc.{Reloc}
use Rattle.component_package.specs.packages.Component.{Component, header_bytes, export_bytes, reloc_bytes}
use Rattle.component_package.specs.packages.Reading.{header_of, exports_at, total_of, reloc_of, reloc_end, list_of}
use Rattle.component_package.specs.link.Layout.{Room, code_base, load_base}

-- ---- runs

-- a component's run: its package's bytes without code and data
abbrev pub run_of : Component → List ℕ
run_of c = header_bytes c ++ (flat_map export_bytes c.exports ++ flat_map reloc_bytes c.relocs)

-- how long a run is, by its header
abbrev pub run_length : Header → ℕ
run_length h = 32 + 6 * h.exports + 8 * h.relocs

-- the run that a table slot begins with, as long as its header says
abbrev pub run_in_table : List ℕ → List ℕ
run_in_table slot = take (run_length (header_of slot)) slot

-- the run of the package that an inbox slot begins with: its header, and what stands behind code and data
abbrev pub run_in_package : List ℕ → List ℕ
run_in_package slot = let h = header_of slot in take 32 slot ++ slice_range slot (exports_at h) (total_of h)

-- the relocations that a run says
abbrev pub relocs_in_run : List ℕ → List Reloc
relocs_in_run run = let h = header_of run in list_of (λ i. let at = 32 + 6 * h.exports + 8 * i in reloc_of (slice_range run at (at + 8))) h.relocs

-- how much room a run says that its component takes
abbrev pub room_of_run : List ℕ → Room
room_of_run run = let h = header_of run in record { code = h.code; init = h.init; bss = h.bss }

-- ---- clearing

-- the relocation stands in data, or in code
abbrev pub is_in_part : Bool → Reloc → Bool
is_in_part init r = if init then r.in_init else not r.in_init

-- byte `at` of that part lies in its field
abbrev pub has_field_at : Bool → ℕ → Reloc → Bool
has_field_at init at r = is_in_part init r && (nat_le r.offset at && nat_lt at (reloc_end r))

-- the bits of byte `at` that belong to no field's value
abbrev pub bits_kept : Bool → List Reloc → ℕ → ℕ
bits_kept init [] at = 255
bits_kept init (r ∷ rs) at = if has_field_at init at r then slice_index (keep_of (shape_of r.kind)) (at - r.offset) else bits_kept init rs at

-- a part's bytes with all value bits of its fields cleared
abbrev pub cleared : Bool → List Reloc → List ℕ → List ℕ
cleared init rs part = list_of (λ at. bit_and (slice_index part at) (bits_kept init rs at)) (length part)

-- ---- packages taken back

-- the bytes of component k's part in an image, from its base on, with all value bits cleared
abbrev pub part_from : List ℕ → ℕ → ℕ → Bool → List Reloc → List ℕ
part_from image base size init rs = cleared init rs (slice_range image base (base + size))

-- component k's package: its header, its code and data from the image, and the rest of its run
abbrev pub package_from : List ℕ → List Room → ℕ → List ℕ → List ℕ
package_from image rooms k run =
    let h = header_of run in
    let rs = relocs_in_run run in
    take 32 run ++ (part_from image (code_base rooms k) h.code false rs ++ (part_from image (load_base rooms k) h.init true rs ++ drop 32 run))

-- the packages of the components with these runs, in order, whose image this is
abbrev pub taken_back : List ℕ → List (List ℕ) → List (List ℕ)
taken_back image runs = map (λ x. package_from image (map room_of_run runs) x.0 x.1) (enumerate_from 0 runs)
