-- Which tables are kept in order.
use Rattle.std.specs.Prelude.{◌≡◌, ◌⊎◌, ℕ, ◌≤◌, ◌==◌, ◌^◌, ◌-◌, IsTrue, false, bytes_eq, is_some, List, [], ◌∷◌, length, map, Option, Some, None}
use Rattle.std.specs.List.{All, list_any, range_with_len}
use Rattle.std.specs.Option.{option_map, option_and_then}
use Rattle.component_package.specs.packages.Component.{Component}
use Rattle.component_package.specs.packages.Reading.{component_of}
use Rattle.component_package.specs.link.Link.{link_cause}
use Rattle.release_rows.specs.declared.part.Numbered.{Numbered}
use Rattle.release_rows.specs.declared.row.VersionRow.{VersionRow}
use Rattle.release_rows.specs.Tables.{Tables, symbol_count, component_name, component_count, versions_of, version_count, stored_package, releases_of, release_count, stored_release}
use Rattle.release_rows.specs.Change.{IsPackageOf, IsPartList}

-- no two of these texts are the same
abbrev pub AreDifferent : List (List ℕ) → Type 0
AreDifferent [] = Unit {0}
AreDifferent (x ∷ xs) = (list_any (bytes_eq x) xs ≡ false) × AreDifferent xs

-- these numbers are first, first + 1, and on, without a gap
abbrev pub AreNumberedFrom : ℕ → List ℕ → Type 0
AreNumberedFrom first numbers = numbers ≡ range_with_len first (length numbers)

-- a symbol's number is there
abbrev pub IsSymbol : Tables → ℕ → Type 0
IsSymbol t s = IsTrue (list_any (λ r. r.number == s) t.symbols)

-- a component names only symbols that are there
pub record NamesSymbols (t : Tables) (c : Component) : Type 0 where
  pub exports : All (λ e. IsSymbol t e.symbol) c.exports
  pub targets : All (λ r. (r.target ≤ 10) ⊎ IsSymbol t r.target) c.relocs

-- a version is one of a component that is there, and its package is one of it and names only symbols that are there
pub record IsKeptVersion (t : Tables) (r : VersionRow) : Type 0 where
  pub component : IsTrue (is_some (component_name t r.component))
  pub bytes : IsPackageOf r.component r.version r.bytes
  pub names : NamesSymbols t (component_of r.bytes)

-- all these, where there is none that isn't there
abbrev pub all_of : {X : Type 0} → List (Option X) → Option (List X)
all_of [] = Some []
all_of (x ∷ xs) = option_and_then (λ a. option_map (λ as_. a ∷ as_) (all_of xs)) x

-- the packages of these parts, where all are there
abbrev pub packages_of : Tables → List Numbered → Option (List (List ℕ))
packages_of t parts = all_of (map (λ p. stored_package t p.component p.version) parts)

-- 1 to 16 different components that are there, and nothing refuses their set
pub record IsKeptRelease (t : Tables) (parts : List Numbered) : Type 0 where
  pub parts_are : IsPartList parts
  pub set : List (List ℕ)
  pub there : packages_of t parts ≡ Some set
  pub linked : link_cause (map component_of set) ≡ None

-- Numbers have no gap, and there are as many as fit; names and keys differ; versions and releases are whole; each mote said once at most
-- what it runs, which is a release that is there.
pub record AreKept (t : Tables) : Type 0 where
  pub symbols : AreNumberedFrom 16 (map (λ r. r.number) t.symbols)
  pub few_symbols : symbol_count t ≤ 65520
  pub symbol_names : AreDifferent (map (λ r. r.name) t.symbols)
  pub components : AreNumberedFrom 1 (map (λ r. r.number) t.components)
  pub few_components : component_count t ≤ 65535
  pub component_names : AreDifferent (map (λ r. r.name) t.components)
  pub versions : (component : ℕ) → AreNumberedFrom 1 (map (λ r. r.version) (versions_of t component))
  pub few_versions : (component : ℕ) → version_count t component ≤ 65535
  pub packages : All (IsKeptVersion t) t.versions
  pub releases : (mote : List ℕ) → AreNumberedFrom 1 (map (λ r. r.number) (releases_of t mote))
  pub few_releases : (mote : List ℕ) → release_count t mote ≤ 2 ^ 32 - 1
  pub sets : All (λ r. IsKeptRelease t r.parts) t.releases
  pub acks : All (λ a. IsTrue (is_some (stored_release t a.mote a.number))) t.acks
  pub acked_motes : AreDifferent (map (λ a. a.mote) t.acks)
  pub keys : AreDifferent (map (λ r. r.key) t.keys)
