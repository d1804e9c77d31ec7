-- What the rows of an answer hold.
use Rattle.std.specs.Prelude.{◌≡◌, ℕ, ◌+◌, pos, List, [], ◌∷◌}
use Rattle.sqlite_value.specs.declared.value.Value.TheVariants.{Int, Text, Blob}
use Rattle.sqlite_value.specs.Order.{Row, column}
use Rattle.release_rows.specs.declared.part.Numbered.{Numbered}
use Rattle.release_rows.specs.declared.row.KeyRow.{KeyRow}

-- a key's digest and its body
pub record IsKeyIn (key : List ℕ) (row : Row) (k : KeyRow) : Type 0 where
  pub name : k.key ≡ key
  pub digest : column row 0 ≡ Blob k.digest
  pub body : column row 1 ≡ Text k.body

-- a part's place in its release, its component and its version
pub record IsPartIn (row : Row) (place : ℕ) (p : Numbered) : Type 0 where
  pub place_is : column row 0 ≡ Int (pos place)
  pub component : column row 1 ≡ Int (pos p.component)
  pub version : column row 2 ≡ Int (pos p.version)

-- the parts of a release from a place on, one a row, in their order
abbrev pub ArePartsFrom : ℕ → List Row → List Numbered → Type 0
ArePartsFrom place [] [] = Unit {0}
ArePartsFrom place (r ∷ rs) (p ∷ ps) = IsPartIn r place p × ArePartsFrom (place + 1) rs ps
ArePartsFrom place _ _ = ⊥
