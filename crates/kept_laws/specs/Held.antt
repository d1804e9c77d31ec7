-- How the calls on a set read its components.
use Rattle.std.specs.Prelude.{◌≡◌, ℕ, true, false, List, [], length, slice_get, slice_index_or, Some}
use Rattle.std.specs.List.{concat}
use Rattle.component_package.specs.packages.Component.{Component, spelling}
use Rattle.component_package.specs.link.Layout.{code_base, load_base}
use Rattle.component_package.specs.link.Link.{rooms_of}
use Rattle.component_package.specs.link.Pages.{IsPages}
use Rattle.kept_definitions.specs.Runs.{run_of, part_from}
use Rattle.kept_definitions.specs.Stored.{Placed, StoredRelease}
use Rattle.kept_definitions.specs.Kept.{HoldPackages, kept_packages}
use Rattle.kept_definitions.specs.Sides.{kept_set}
use Rattle.kept_laws.specs.Laws.{IsPackageOf, Begins}

-- The entry's component can be read: a fresh one in its inbox slot, another one by its run and from these places of program flash.
pub record IsReadable (prog tables inbox : List (List ℕ)) (p : Placed) (code_at init_at : ℕ) (c : Component) : Type 0 where
  pub entry : IsPackageOf p.entry c
  pub came : p.fresh ≡ true → Begins (slice_index_or inbox p.slot []) (spelling c)
  pub run : p.fresh ≡ false → Begins (slice_index_or tables p.slot []) (run_of c)
  pub code : p.fresh ≡ false → part_from (concat prog) code_at (length c.code) false c.relocs ≡ c.code
  pub init : p.fresh ≡ false → part_from (concat prog) init_at (length c.init) true c.relocs ≡ c.init

-- an entry that isn't marked fresh, whatever it was
abbrev pub installed : Placed → Placed
installed p = record p { fresh = false }

-- The components of an installed set can be read at the bases of their code and data.
abbrev pub InstalledIsReadable : Type 0
InstalledIsReadable = (prog tables inbox : List (List ℕ)) (m : StoredRelease) (k : ℕ) (p : Placed) (c : Component)
    → HoldPackages m.placed (kept_packages tables prog m) → IsPages (kept_set tables prog m) prog → slice_get m.placed k ≡ Some p
    → slice_get (kept_set tables prog m) k ≡ Some c
    → IsReadable prog tables inbox (installed p) (code_base (rooms_of (kept_set tables prog m)) k) (load_base (rooms_of (kept_set tables prog m)) k) c
