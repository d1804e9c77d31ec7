-- The grammar of packages: which components there are, and that bytes spell one.
use Rattle.std.specs.Prelude.{◌≡◌, ◌⊎◌, ℕ, ◌+◌, ◌%◌, ◌<◌, ◌≤◌, ◌^◌, IsTrue, List, [], ◌∷◌, length, slice_range, FitsSigned, if◌then◌else◌}
use Rattle.std.specs.List.{AllByRecursion}
use Rattle.std.specs.Int.{w16}
use Rattle.avr_reloc.specs.Kind.{shape_of, is_instruction}
use Rattle.avr_reloc.specs.Field.{AreBytes, HasZeroValue}
use Rattle.component_package.specs.declared.part.Export.{Export}
use Rattle.component_package.specs.declared.part.Reloc.{Reloc}
use Rattle.component_package.specs.declared.limits.TheConstants.{PACKAGE_BYTES}
use Rattle.component_package.specs.packages.Component.{Component, spelling}
use Rattle.component_package.specs.packages.Reading.{length_of, header_of_component, reloc_width, reloc_end}

-- an export of a symbol has a value within its part, up to the part's end
pub record IsExport (c : Component) (e : Export) : Type 0 where
  pub symbol : e.symbol < 2 ^ 16
  pub value : e.value ≤ length_of (header_of_component c) e.place

-- symbols rise strictly, from `low` on
abbrev pub ExportsRise : ℕ → List Export → Type 0
ExportsRise low [] = Unit {0}
ExportsRise low (e ∷ es) = (low ≤ e.symbol) × ExportsRise (e.symbol + 1) es

-- the part that a relocation stands in
abbrev pub part_of_reloc : Component → Reloc → List ℕ
part_of_reloc c r = if r.in_init then c.init else c.code

-- a relocation's field lies in its part, an instruction's at an even offset, with value bits that are zeros; its target is one of the
-- component's own bases or the linker's symbols, which are 0 to 10, or a symbol, and only a symbol is referred to weakly
pub record IsReloc (c : Component) (r : Reloc) : Type 0 where
  pub inside : reloc_end r ≤ length (part_of_reloc c r)
  pub aligned : IsTrue (is_instruction (shape_of r.kind)) → r.offset % 2 ≡ 0
  pub target : (r.target ≤ 10) ⊎ (16 ≤ r.target)
  pub weak : IsTrue r.weak → 16 ≤ r.target
  pub small : r.target < 2 ^ 16
  pub addend : FitsSigned w16 r.addend
  pub clear : HasZeroValue (shape_of r.kind) (slice_range (part_of_reloc c r) r.offset (reloc_end r))

-- where a field begins in code followed by data
abbrev pub position_in : Component → Reloc → ℕ
position_in c r = (if r.in_init then length c.code else 0) + r.offset

-- relocations rise by part and offset, and no field begins before the former one's end; none begins before `low`
abbrev pub RelocsRise : Component → ℕ → List Reloc → Type 0
RelocsRise c low [] = Unit {0}
RelocsRise c low (r ∷ rs) = (low ≤ position_in c r) × RelocsRise c (position_in c r + reloc_width r) rs

-- a component that a package can hold
pub record IsComponent (c : Component) : Type 0 where
  pub component : c.component < 2 ^ 16
  pub version : c.version < 2 ^ 16
  pub code : AreBytes c.code
  pub init : AreBytes c.init
  pub even_code : length c.code % 2 ≡ 0
  pub even_init : length c.init % 2 ≡ 0
  pub even_bss : c.bss % 2 ≡ 0
  pub bss : c.bss < 2 ^ 16
  pub short : length (spelling c) ≤ PACKAGE_BYTES
  pub exports : AllByRecursion (IsExport c) c.exports
  pub export_order : ExportsRise 16 c.exports
  pub relocs : AllByRecursion (IsReloc c) c.relocs
  pub reloc_order : RelocsRise c 0 c.relocs

-- these bytes are the package of this component
pub record Spells (b : List ℕ) (c : Component) : Type 0 where
  pub component : IsComponent c
  pub bytes : b ≡ spelling c
