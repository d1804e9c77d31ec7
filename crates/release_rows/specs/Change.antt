-- What a change makes of tables, and which changes may be made.
use Rattle.std.specs.Prelude.{◌≡◌, ℕ, ◌≤◌, bytes_eq, List, [], ◌∷◌, ◌++◌, length, map, Option, Some, None, if◌then◌else◌}
use Rattle.component_package.specs.packages.Reading.{package_fault, component_of}
use Rattle.component_package.specs.packages.Grammar.{Spells}
use Rattle.component_package.specs.packages.Manifest.{AreDistinct}
use Rattle.release_rows.specs.declared.part.Numbered.{Numbered}
use Rattle.release_rows.specs.declared.row.ComponentRow.{ComponentRow}
use Rattle.release_rows.specs.declared.row.AckRow.{AckRow}
use Rattle.release_rows.specs.declared.change.Effect.{Effect}
use Rattle.release_rows.specs.declared.change.Effect.TheVariants.{Version, Release, Ack}
use Rattle.release_rows.specs.declared.change.Change.{Change}
use Rattle.release_rows.specs.Tables.{Tables, component_number}

-- ---- what a change makes

-- the components with one more, unless its name has a number
abbrev pub with_component : List ComponentRow → Option ℕ → List ℕ → ℕ → List ComponentRow
with_component rows (Some k) name number = rows
with_component rows None name number = rows ++ record { number = number; name = name } ∷ []

-- what motes said, with this mote's word in the place of its former one, or at the end
abbrev pub with_ack : List AckRow → List ℕ → ℕ → List AckRow
with_ack [] mote number = record { mote = mote; number = number } ∷ []
with_ack (r ∷ rs) mote number = if bytes_eq mote r.mote then record { mote = mote; number = number } ∷ rs else r ∷ with_ack rs mote number

-- the tables with an effect
abbrev pub with_effect : Tables → Effect → Tables
with_effect t (Version name component version symbols bytes) =
    record t {
      symbols = t.symbols ++ symbols;
      components = with_component t.components (component_number t name) name component;
      versions = t.versions ++ record { component = component; version = version; bytes = bytes } ∷ [];
    }
with_effect t (Release mote number parts) = record t { releases = t.releases ++ record { mote = mote; number = number; parts = parts } ∷ [] }
with_effect t (Ack mote release) = record t { acks = with_ack t.acks mote release }

-- the next tables: the effect, and the key's row at the end of the keys
abbrev pub changed : Tables → Change → Tables
changed t c = record (with_effect t c.effect) { keys = t.keys ++ c.key ∷ [] }

-- ---- which changes may be made

-- a package without a fault, of this component in this version
pub record IsPackageOf (component version : ℕ) (b : List ℕ) : Type 0 where
  pub sound : package_fault b ≡ None
  pub spelled : Spells b (component_of b)
  pub component_is : (component_of b).component ≡ component
  pub version_is : (component_of b).version ≡ version

-- 1 to 16 different components
pub record IsPartList (parts : List Numbered) : Type 0 where
  pub some : 1 ≤ length parts
  pub few : length parts ≤ 16
  pub distinct : AreDistinct (map (λ p. p.component) parts)

-- an effect that every table can take: a version's package is one of it, and a release's parts are parts
abbrev pub IsSound : Effect → Type 0
IsSound (Version name component version symbols bytes) = IsPackageOf component version bytes
IsSound (Release mote number parts) = IsPartList parts
IsSound (Ack mote release) = Unit {0}
