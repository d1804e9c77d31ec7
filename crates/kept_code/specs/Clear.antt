-- Bytes of a part with the value bits of fields cleared.
use Rattle.std.specs.Prelude.{◌≡◌, ℕ, ◌+◌, Bool, List, length, slice_index, bit_and}
use Rattle.component_package.specs.declared.part.Reloc.{Reloc}
use Rattle.component_package.specs.packages.Component.{Component}
use Rattle.component_package.specs.packages.Grammar.{IsComponent}
use Rattle.component_package.specs.packages.Reading.{list_of}
use Rattle.kept_definitions.specs.Runs.{bits_kept}

-- bytes that begin at byte `from` of a part
abbrev pub cleared_from : ℕ → Bool → List Reloc → List ℕ → List ℕ
cleared_from from init rs bytes = list_of (λ i. bit_and (slice_index bytes i) (bits_kept init rs (from + i))) (length bytes)

-- these are the relocations of a component
pub record AreOfComponent (rs : List Reloc) : Type 0 where
  pub component : Component
  pub is : IsComponent component
  pub relocs : component.relocs ≡ rs
