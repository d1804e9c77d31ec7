-- What is in order stays in order where tables grow.
use Rattle.std.proofs.Common.{◌≡◌, ◌⊎◌, ℕ, ◌≤◌, true, Some, None, List, [], ◌∷◌, ◌++◌, map, is_some, inl, inr, bytes_eq}
use Rattle.std.specs.List.{All}
use Rattle.std.proofs.lemmas.List.Elements.{All-weaker}
use Rattle.component_package.specs.declared.part.Export.{Export}
use Rattle.component_package.specs.declared.part.Reloc.{Reloc}
use Rattle.component_package.specs.packages.Component.{Component}
use Rattle.component_package.specs.packages.Reading.{component_of}
use Rattle.release_rows.specs.declared.part.Numbered.{Numbered}
use Rattle.release_rows.specs.declared.row.VersionRow.{VersionRow}
use Rattle.release_rows.specs.declared.row.ReleaseRow.{ReleaseRow}
use Rattle.release_rows.specs.declared.row.AckRow.{AckRow}
use Rattle.release_rows.specs.declared.row.KeyRow.{KeyRow}
use Rattle.release_rows.specs.Tables.{Tables, key_row, component_name, stored_package, stored_release}
use Rattle.release_rows.specs.Kept.{AreDifferent, IsSymbol, NamesSymbols, IsKeptVersion, packages_of, IsKeptRelease, AreKept}
use Rattle.release_laws.proofs.Lists.{none_found, different_more, all_still}

-- u has each component, symbol, package and release of t
pub record Grows (t u : Tables) : Type 0 where
  pub components : (c : ℕ) → is_some (component_name t c) ≡ true → is_some (component_name u c) ≡ true
  pub symbols : (s : ℕ) → IsSymbol t s → IsSymbol u s
  pub packages : (c v : ℕ) (b : List ℕ) → stored_package t c v ≡ Some b → stored_package u c v ≡ Some b
  pub releases : (mote : List ℕ) (n : ℕ) → is_some (stored_release t mote n) ≡ true → is_some (stored_release u mote n) ≡ true

pub names_still : (t u : Tables) → Grows t u → (c : Component) → NamesSymbols t c → NamesSymbols u c
names_still t u g c n = record {
  exports = All-weaker (λ (e : Export). IsSymbol t e.symbol) (λ (e : Export). IsSymbol u e.symbol) (λ (e : Export) is. g.symbols e.symbol is) c.exports n.exports;
  targets =
      All-weaker (λ (r : Reloc). (r.target ≤ 10) ⊎ IsSymbol t r.target) (λ (r : Reloc). (r.target ≤ 10) ⊎ IsSymbol u r.target)
      (λ (r : Reloc) is. elim is [ inl le ↦ inl le | inr s ↦ inr (g.symbols r.target s) ]) c.relocs n.targets;
}

version_still : (t u : Tables) → Grows t u → (r : VersionRow) → IsKeptVersion t r → IsKeptVersion u r
version_still t u g r is = record { component = g.components r.component is.component; bytes = is.bytes; names = names_still t u g (component_of r.bytes) is.names }

pub versions_still : (t u : Tables) → Grows t u → (rs : List VersionRow) → All (IsKeptVersion t) rs → All (IsKeptVersion u) rs
versions_still t u g rs all = All-weaker (IsKeptVersion t) (IsKeptVersion u) (version_still t u g) rs all

pub packages_still : (t u : Tables) → Grows t u → (parts : List Numbered) (set : List (List ℕ)) → packages_of t parts ≡ Some set → packages_of u parts ≡ Some set
packages_still t u g parts set there =
    all_still (λ (p : Numbered). stored_package t p.component p.version) (λ (p : Numbered). stored_package u p.component p.version) (λ (p : Numbered) b is. g.packages p.component p.version b is) parts set there

pub release_still : (t u : Tables) → Grows t u → (parts : List Numbered) → IsKeptRelease t parts → IsKeptRelease u parts
release_still t u g parts is = record { parts_are = is.parts_are; set = is.set; there = packages_still t u g parts is.set is.there; linked = is.linked }

pub releases_still : (t u : Tables) → Grows t u → (rs : List ReleaseRow) → All (λ r. IsKeptRelease t r.parts) rs → All (λ r. IsKeptRelease u r.parts) rs
releases_still t u g rs all = All-weaker (λ (r : ReleaseRow). IsKeptRelease t r.parts) (λ (r : ReleaseRow). IsKeptRelease u r.parts) (λ (r : ReleaseRow) is. release_still t u g r.parts is) rs all

pub acks_still : (t u : Tables) → Grows t u → (rs : List AckRow) → All (λ a. is_some (stored_release t a.mote a.number) ≡ true) rs → All (λ a. is_some (stored_release u a.mote a.number) ≡ true) rs
acks_still t u g rs all =
    All-weaker (λ (a : AckRow). is_some (stored_release t a.mote a.number) ≡ true) (λ (a : AckRow). is_some (stored_release u a.mote a.number) ≡ true) (λ (a : AckRow) is. g.releases a.mote a.number is) rs all

-- a key more
pub keys_more : (t : Tables) → AreKept t → (key : KeyRow) → key_row t key.key ≡ None → AreDifferent (map (λ r. r.key) (t.keys ++ key ∷ []))
keys_more t k key new = different_more (λ (r : KeyRow). r.key) t.keys key k.keys (none_found (λ (r : KeyRow). bytes_eq key.key r.key) t.keys new)
