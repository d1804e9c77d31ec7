-- The relocations that a package keeps.
use Rattle.std.specs.Prelude.{ℕ, pos, ◌+ℤ◌, ◌+◌, List, [], length, Option, Some, None, if◌then◌else◌}
use Rattle.std.specs.List.{flat_map, range_with_len}
use Rattle.std.specs.Option.{option_to_list, option_map}
use Rattle.avr_reloc.specs.declared.kind.RelocType.{RelocType}
use Rattle.avr_reloc.specs.Kind.{kind_of, shape_of, width_of}
use Rattle.avr_elf.specs.Object.{Object, relas_at}
use Rattle.component_package.specs.declared.part.Place.TheVariants as places
use Rattle.object_packer.specs.declared.layout.Home.{Home}
use Rattle.object_packer.specs.declared.kept.Kept.{Kept}
use Rattle.object_packer.specs.Sections.{rela_at}
use Rattle.object_packer.specs.Parts.{is_place, part_length, home_of}
use Rattle.object_packer.specs.References.{reference_of}
use Rattle.object_packer.specs.Order.{sorted_by}

-- entry i of section k, whose home is known, as a relocation of a type
abbrev pub kept_of : Object → ℕ → Home → ℕ → RelocType → Kept
kept_of o k home i kind =
    let x = rela_at o k i in
    let r = reference_of o x.symbol in
    let in_init = is_place places.Init (Some home.place) in
    let offset = home.start + x.offset in
    record {
      section = k;
      entry = i;
      in_init = in_init;
      offset = offset;
      position = (if in_init then part_length o places.Code else 0) + offset;
      kind = kind;
      symbol = x.symbol;
      target = r.target;
      weak = r.weak;
      addend = pos r.value +ℤ x.addend;
    }

-- entry i of section k, unless it is of a type that changes nothing
abbrev pub kept_at : Object → ℕ → Home → ℕ → Option Kept
kept_at o k home i = option_map (kept_of o k home i) (kind_of (rela_at o k i).kind)

abbrev pub kept_with : Object → ℕ → Option Home → List Kept
kept_with o k None = []
kept_with o k (Some home) = flat_map (λ i. option_to_list (kept_at o k home i)) (range_with_len 0 (length (relas_at o k)))

-- the relocations of section k that are kept
abbrev pub kept_in : Object → ℕ → List Kept
kept_in o k = kept_with o k (home_of o k)

-- those of all sections, by section and entry
abbrev pub kept : Object → List Kept
kept o = flat_map (kept_in o) (range_with_len 0 (length o.sections))

-- those of all sections, by part and offset
abbrev pub ordered : Object → List Kept
ordered o = sorted_by (λ x. x.position) (kept o)

abbrev pub kept_width : Kept → ℕ
kept_width x = width_of (shape_of x.kind)
