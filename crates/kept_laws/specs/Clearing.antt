-- Fields that are cleared one after another, as a reader of records does.
use Rattle.std.specs.Prelude.{◌≡◌, ℕ, ◌<◌, Bool, List, [], ◌∷◌, ◌++◌, bit_and}
use Rattle.component_package.specs.declared.part.Reloc.{Reloc}
use Rattle.component_package.specs.packages.Component.{Component}
use Rattle.component_package.specs.packages.Grammar.{IsComponent}
use Rattle.kept_definitions.specs.Runs.{bits_kept}

-- A byte whose fields up to here are cleared, with one more cleared, is cleared of all of them: the relocations of a component may be taken in
-- order, each field on its own.
abbrev pub ClearingGoesOn : Type 0
ClearingGoesOn = (c : Component) (front back : List Reloc) (r : Reloc) (init : Bool) (at b : ℕ) → IsComponent c → c.relocs ≡ front ++ r ∷ back → b < 256
    → bit_and (bit_and b (bits_kept init front at)) (bits_kept init (r ∷ []) at) ≡ bit_and b (bits_kept init (front ++ r ∷ []) at)
