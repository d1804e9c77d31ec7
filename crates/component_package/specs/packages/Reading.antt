-- What the bytes of a package say, and the first thing that is wrong with them.
use Rattle.std.specs.Prelude.{ℕ, zero, suc, ◌+◌, ◌-◌, ◌*◌, ◌%◌, Bool, true, not, ◌&&◌, ◌||◌, ◌==◌, nat_lt, nat_le, List, ◌++◌, length, replicate, slice_index, slice_range, Option, Some, None, Result, Ok, Err, if◌then◌else◌, map, unwrap_or}
use Rattle.std.specs.List.{list_all, range_with_len}
use Rattle.std.specs.Option.{option_or}
use Rattle.std.specs.Result.{result_err}
use Rattle.std.specs.Int.{w16, cast_signed}
use Rattle.avr_reloc.specs.declared.kind.RelocType.{RelocType}
use Rattle.avr_reloc.specs.declared.kind.RelocType.TheVariants.{Abs32}
use Rattle.avr_reloc.specs.Kind.{kind_of, shape_of, width_of, is_instruction, mask_of}
use Rattle.avr_reloc.specs.Field.{masked}
use Rattle.component_package.specs.declared.part.Place.{Place}
use Rattle.component_package.specs.declared.part.Place.TheVariants as places
use Rattle.component_package.specs.declared.part.Export.{Export}
use Rattle.component_package.specs.declared.part.Reloc.{Reloc}
use Rattle.component_package.specs.declared.part.Header.{Header}
use Rattle.component_package.specs.declared.fault.PackageFault.{PackageFault}
use Rattle.component_package.specs.declared.fault.PackageFault.TheVariants.{Short, Magic, Reserved, Parity, Length, ExportOrder, ExportPlace, RelocOrder, RelocPlace, RelocKind, Target, FieldNotZero}
use Rattle.component_package.specs.declared.limits.TheConstants.{PACKAGE_BYTES}
use Rattle.component_package.specs.packages.Component.{Component}
use Rattle.component_package.specs.packages.Numbers.{u16_at}

-- the number of a fault, as the line `bad package` and a server's refusal say it
abbrev pub number_of_fault : PackageFault → ℕ
number_of_fault Short = 1
number_of_fault Magic = 2
number_of_fault Reserved = 3
number_of_fault Parity = 4
number_of_fault Length = 5
number_of_fault (ExportOrder i) = 6
number_of_fault (ExportPlace i) = 7
number_of_fault (RelocOrder i) = 8
number_of_fault (RelocPlace i) = 9
number_of_fault (RelocKind i) = 10
number_of_fault (Target i) = 11
number_of_fault (FieldNotZero i) = 12

-- the first of the faults at 0, 1 and so on below n
abbrev pub first_fault : {F : Type 0} → (ℕ → Option F) → ℕ → Option F
first_fault f zero = None
first_fault f (suc n) = option_or (first_fault f n) (f n)

-- ---- the header

-- the fields of a header
abbrev pub header_of : List ℕ → Header
header_of b = record {
  component = u16_at b 4;
  version = u16_at b 6;
  code = u16_at b 8;
  init = u16_at b 10;
  bss = u16_at b 12;
  exports = u16_at b 14;
  relocs = u16_at b 16;
}

-- where the exports begin, the relocations, and where the package ends
abbrev pub exports_at : Header → ℕ
exports_at h = 32 + h.code + h.init

abbrev pub relocs_at : Header → ℕ
relocs_at h = exports_at h + 6 * h.exports

abbrev pub total_of : Header → ℕ
total_of h = relocs_at h + 8 * h.relocs

abbrev pub is_even : ℕ → Bool
is_even n = n % 2 == 0

abbrev pub has_magic : List ℕ → Bool
has_magic b = slice_index b 0 == 0x46 && slice_index b 1 == 0x43 && slice_index b 2 == 0x50 && slice_index b 3 == 0x31

-- the 14 bytes behind the fields are zeros
abbrev pub is_blank : List ℕ → Bool
is_blank b = list_all (λ x. x == 0) (slice_range b 18 32)

abbrev pub has_even_lengths : Header → Bool
has_even_lengths h = is_even h.code && is_even h.init && is_even h.bss

-- a package of this many bytes is as long as its header says, and fits a slot
abbrev pub has_its_length : Header → ℕ → Bool
has_its_length h n = n == total_of h && nat_le n PACKAGE_BYTES

-- what is wrong with the header of a package of n bytes that begins with these
abbrev pub header_fault : List ℕ → ℕ → Option PackageFault
header_fault b n =
    if nat_lt n 32 then Some Short
    else if not (has_magic b) then Some Magic
    else if not (is_blank b) then Some Reserved
    else if not (has_even_lengths (header_of b)) then Some Parity
    else if not (has_its_length (header_of b) n) then Some Length
    else None

-- ---- exports

abbrev pub place_of : ℕ → Option Place
place_of n =
    if n == 0 then Some places.Code
    else if n == 1 then Some places.Init
    else if n == 2 then Some places.Bss
    else if n == 3 then Some places.Absolute
    else None

-- how long a part is; an absolute value is any number
abbrev pub length_of : Header → Place → ℕ
length_of h places.Code = h.code
length_of h places.Init = h.init
length_of h places.Bss = h.bss
length_of h places.Absolute = 65535

-- a symbol comes after the former export's
abbrev pub is_above : Option ℕ → ℕ → Bool
is_above None symbol = true
is_above (Some s) symbol = nat_lt s symbol

abbrev pub export_in : Header → ℕ → List ℕ → Option Place → Result Export PackageFault
export_in h i raw None = Err (ExportPlace i)
export_in h i raw (Some place) =
    if slice_index raw 3 == 0 && nat_le (u16_at raw 4) (length_of h place)
    then Ok (record { symbol = u16_at raw 0; place = place; weak = nat_le 128 (slice_index raw 2); value = u16_at raw 4 })
    else Err (ExportPlace i)

-- the export i that six bytes spell, after an export of the symbol before
abbrev pub check_export_of : Header → Option ℕ → ℕ → List ℕ → Result Export PackageFault
check_export_of h before i raw =
    if nat_le 16 (u16_at raw 0) && is_above before (u16_at raw 0) then export_in h i raw (place_of (slice_index raw 2 % 128)) else Err (ExportOrder i)

-- the bytes of export i
abbrev pub raw_export : List ℕ → ℕ → List ℕ
raw_export b i = let at = exports_at (header_of b) + 6 * i in slice_range b at (at + 6)

abbrev pub symbol_before : List ℕ → ℕ → Option ℕ
symbol_before b zero = None
symbol_before b (suc i) = Some (u16_at (raw_export b i) 0)

abbrev pub export_fault : List ℕ → ℕ → Option PackageFault
export_fault b i = result_err (check_export_of (header_of b) (symbol_before b i) i (raw_export b i))

abbrev pub exports_fault : List ℕ → Option PackageFault
exports_fault b = first_fault (export_fault b) (header_of b).exports

-- ---- relocations

-- the bytes that a relocation changes
abbrev pub reloc_width : Reloc → ℕ
reloc_width r = width_of (shape_of r.kind)

-- where the field of a relocation ends in its part
abbrev pub reloc_end : Reloc → ℕ
reloc_end r = r.offset + reloc_width r

-- how long the part is that a relocation stands in
abbrev pub part_length : Header → Reloc → ℕ
part_length h r = if r.in_init then h.init else h.code

-- the byte names code or data, and may be marked as weak
abbrev pub has_place_byte : List ℕ → Bool
has_place_byte raw = nat_lt (slice_index raw 2 % 128) 2

abbrev pub is_inside : Header → Reloc → Bool
is_inside h r = nat_le (reloc_end r) (part_length h r)

-- a field of an instruction stands at an even offset
abbrev pub is_aligned : Reloc → Bool
is_aligned r = not (is_instruction (shape_of r.kind)) || is_even r.offset

abbrev pub has_place : Header → List ℕ → Reloc → Bool
has_place h raw r = has_place_byte raw && is_inside h r && is_aligned r

-- the field does not begin before the former one's end
abbrev pub begins_after : Reloc → Reloc → Bool
begins_after former r = nat_le (reloc_end former) r.offset

-- code comes before data, and in one part no field begins before the former one's end
abbrev pub is_behind : Option Reloc → Reloc → Bool
is_behind None r = true
is_behind (Some former) r = if former.in_init then r.in_init && begins_after former r else r.in_init || begins_after former r

-- the own bases and the linker's symbols are 0 to 10, symbols are 16 and above, and only these may be weak
abbrev pub has_target : Reloc → Bool
has_target r = nat_le 16 r.target || (nat_le r.target 10 && not r.weak)

-- the value bits of a field are zeros
abbrev pub is_clear : RelocType → List ℕ → Bool
is_clear kind field = list_all (λ x. x == 0) (masked field (mask_of (shape_of kind)))

abbrev pub reloc_with : List ℕ → RelocType → Reloc
reloc_with raw kind = record {
  offset = u16_at raw 0;
  in_init = slice_index raw 2 % 128 == 1;
  weak = nat_le 128 (slice_index raw 2);
  kind = kind;
  target = u16_at raw 4;
  addend = cast_signed w16 (u16_at raw 6);
}

abbrev pub reloc_in : Header → Option Reloc → ℕ → List ℕ → List ℕ → Option RelocType → Result Reloc PackageFault
reloc_in h before i raw field None = Err (RelocKind i)
reloc_in h before i raw field (Some kind) =
    let r = reloc_with raw kind in
    if not (has_place h raw r) then Err (RelocPlace i)
    else if not (is_behind before r) then Err (RelocOrder i)
    else if not (has_target r) then Err (Target i)
    else if not (is_clear kind field) then Err (FieldNotZero i)
    else Ok r

-- the relocation i that eight bytes spell, after the relocation before, with its field's bytes
abbrev pub check_reloc_of : Header → Option Reloc → ℕ → List ℕ → List ℕ → Result Reloc PackageFault
check_reloc_of h before i raw field = reloc_in h before i raw field (kind_of (slice_index raw 3))

-- what eight bytes say where nothing is wrong with them
abbrev pub reloc_of : List ℕ → Reloc
reloc_of raw = reloc_with raw (unwrap_or (kind_of (slice_index raw 3)) Abs32)

-- the bytes of relocation i
abbrev pub raw_reloc : List ℕ → ℕ → List ℕ
raw_reloc b i = let at = relocs_at (header_of b) + 8 * i in slice_range b at (at + 8)

abbrev pub reloc_before : List ℕ → ℕ → Option Reloc
reloc_before b zero = None
reloc_before b (suc i) = Some (reloc_of (raw_reloc b i))

-- where the field of a relocation stands in the package
abbrev pub field_at : Header → Reloc → ℕ
field_at h r = 32 + (if r.in_init then h.code else 0) + r.offset

-- the bytes of its field, and zeros up to four
abbrev pub raw_field : List ℕ → Reloc → List ℕ
raw_field b r = let at = field_at (header_of b) r in slice_range b at (at + reloc_width r) ++ replicate (4 - reloc_width r) 0

abbrev pub reloc_fault : List ℕ → ℕ → Option PackageFault
reloc_fault b i = let raw = raw_reloc b i in result_err (check_reloc_of (header_of b) (reloc_before b i) i raw (raw_field b (reloc_of raw)))

abbrev pub relocs_fault : List ℕ → Option PackageFault
relocs_fault b = first_fault (reloc_fault b) (header_of b).relocs

abbrev pub span_in : Header → List ℕ → Option RelocType → Option (ℕ × ℕ)
span_in h raw None = None
span_in h raw (Some kind) = let r = reloc_with raw kind in if has_place_byte raw && is_inside h r then Some (field_at h r, reloc_width r) else None

-- where in the package the field of a relocation stands, and how wide it is, where it lies in its part
abbrev pub field_span_of : Header → List ℕ → Option (ℕ × ℕ)
field_span_of h raw = span_in h raw (kind_of (slice_index raw 3))

-- ---- the package

-- the first fault of a package: of its header, then of its exports, then of its relocations
abbrev pub package_fault : List ℕ → Option PackageFault
package_fault b = option_or (header_fault b (length b)) (option_or (exports_fault b) (relocs_fault b))

-- what six bytes say where nothing is wrong with them
abbrev pub export_of : List ℕ → Export
export_of raw = record {
  symbol = u16_at raw 0;
  place = unwrap_or (place_of (slice_index raw 2 % 128)) places.Code;
  weak = nat_le 128 (slice_index raw 2);
  value = u16_at raw 4;
}

-- the first n of what f numbers
abbrev pub list_of : {X : Type 0} → (ℕ → X) → ℕ → List X
list_of f n = map f (range_with_len 0 n)

-- the component that bytes say where nothing is wrong with them
abbrev pub component_of : List ℕ → Component
component_of b =
    let h = header_of b in
    record {
      component = h.component;
      version = h.version;
      code = slice_range b 32 (32 + h.code);
      init = slice_range b (32 + h.code) (exports_at h);
      bss = h.bss;
      exports = list_of (λ i. export_of (raw_export b i)) h.exports;
      relocs = list_of (λ i. reloc_of (raw_reloc b i)) h.relocs;
    }

-- the header of a component's package
abbrev pub header_of_component : Component → Header
header_of_component c = record {
  component = c.component;
  version = c.version;
  code = length c.code;
  init = length c.init;
  bss = c.bss;
  exports = length c.exports;
  relocs = length c.relocs;
}
