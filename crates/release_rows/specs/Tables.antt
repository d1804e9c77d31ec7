-- The tables that a release server keeps, and what is found in them. Each table is a list of rows; of rows that a question fits, the first answers.
use Rattle.std.specs.Prelude.{ℕ, ◌==◌, ◌&&◌, Bool, bytes_eq, List, [], length, Option, unwrap_or}
use Rattle.std.specs.List.{find, filter}
use Rattle.std.specs.Option.{option_map}
use Rattle.release_rows.specs.declared.part.Numbered.{Numbered}
use Rattle.release_rows.specs.declared.row.SymbolRow.{SymbolRow}
use Rattle.release_rows.specs.declared.row.ComponentRow.{ComponentRow}
use Rattle.release_rows.specs.declared.row.VersionRow.{VersionRow}
use Rattle.release_rows.specs.declared.row.ReleaseRow.{ReleaseRow}
use Rattle.release_rows.specs.declared.row.AckRow.{AckRow}
use Rattle.release_rows.specs.declared.row.KeyRow.{KeyRow}

-- symbols, components, versions with their packages, releases with their parts, what motes said they run, and keys
pub record Tables : Type 0 where
  pub symbols : List SymbolRow
  pub components : List ComponentRow
  pub versions : List VersionRow
  pub releases : List ReleaseRow
  pub acks : List AckRow
  pub keys : List KeyRow

-- no row at all
abbrev pub empty_tables : Tables
empty_tables = record { symbols = []; components = []; versions = []; releases = []; acks = []; keys = [] }

-- the row of a key
abbrev pub key_row : Tables → List ℕ → Option KeyRow
key_row t key = find (λ r. bytes_eq key r.key) t.keys

-- the number of a symbol's name, and how many symbols there are
abbrev pub symbol_number : Tables → List ℕ → Option ℕ
symbol_number t name = option_map (λ r. r.number) (find (λ r. bytes_eq name r.name) t.symbols)

abbrev pub symbol_count : Tables → ℕ
symbol_count t = length t.symbols

-- the number of a component's name, the name of a number, and how many components there are
abbrev pub component_number : Tables → List ℕ → Option ℕ
component_number t name = option_map (λ r. r.number) (find (λ r. bytes_eq name r.name) t.components)

abbrev pub component_name : Tables → ℕ → Option (List ℕ)
component_name t number = option_map (λ r. r.name) (find (λ r. r.number == number) t.components)

abbrev pub component_count : Tables → ℕ
component_count t = length t.components

-- the versions of a component, how many there are, and the package of one
abbrev pub versions_of : Tables → ℕ → List VersionRow
versions_of t component = filter (λ r. r.component == component) t.versions

abbrev pub version_count : Tables → ℕ → ℕ
version_count t component = length (versions_of t component)

abbrev pub is_version : ℕ → ℕ → VersionRow → Bool
is_version component version r = r.component == component && r.version == version

abbrev pub stored_package : Tables → ℕ → ℕ → Option (List ℕ)
stored_package t component version = option_map (λ r. r.bytes) (find (is_version component version) t.versions)

-- the releases for a mote, how many there are, and the parts of one
abbrev pub releases_of : Tables → List ℕ → List ReleaseRow
releases_of t mote = filter (λ r. bytes_eq mote r.mote) t.releases

abbrev pub release_count : Tables → List ℕ → ℕ
release_count t mote = length (releases_of t mote)

abbrev pub is_release : List ℕ → ℕ → ReleaseRow → Bool
is_release mote number r = bytes_eq mote r.mote && r.number == number

abbrev pub stored_release : Tables → List ℕ → ℕ → Option (List Numbered)
stored_release t mote number = option_map (λ r. r.parts) (find (is_release mote number) t.releases)

-- the release that a mote said it runs, 0 where it said none
abbrev pub acknowledged : Tables → List ℕ → ℕ
acknowledged t mote = unwrap_or (option_map (λ r. r.number) (find (λ r. bytes_eq mote r.mote) t.acks)) 0
