-- Law: what is stored stays.
use Rattle.std.specs.Prelude.{◌≡◌, ℕ, ◌≤◌, List, Some}
use Rattle.release_rows.specs.declared.part.Numbered.{Numbered}
use Rattle.release_rows.specs.declared.row.KeyRow.{KeyRow}
use Rattle.release_rows.specs.Tables.{Tables, key_row, symbol_number, component_number, component_name, stored_package, stored_release, acknowledged}
use Rattle.release_laws.specs.Posted.{Posted}
use Rattle.release_laws.specs.Keys.{tables_after}

-- each number, name, package, release and key that t has, u has too, and no mote's word went back
pub record Stays (t u : Tables) : Type 0 where
  pub symbols : (name : List ℕ) (k : ℕ) → symbol_number t name ≡ Some k → symbol_number u name ≡ Some k
  pub components : (name : List ℕ) (k : ℕ) → component_number t name ≡ Some k → component_number u name ≡ Some k
  pub names : (k : ℕ) (name : List ℕ) → component_name t k ≡ Some name → component_name u k ≡ Some name
  pub packages : (component version : ℕ) (b : List ℕ) → stored_package t component version ≡ Some b → stored_package u component version ≡ Some b
  pub releases : (mote : List ℕ) (number : ℕ) (parts : List Numbered) → stored_release t mote number ≡ Some parts → stored_release u mote number ≡ Some parts
  pub keys : (key : List ℕ) (row : KeyRow) → key_row t key ≡ Some row → key_row u key ≡ Some row
  pub words : (mote : List ℕ) → acknowledged t mote ≤ acknowledged u mote

-- so it is behind the answers to any commands
abbrev pub RowsStay : Type 0
RowsStay = (t : Tables) (ps : List Posted) → Stays t (tables_after t ps)
