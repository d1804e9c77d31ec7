-- What tells the two layouts apart.
use Rattle.std.specs.Prelude.{ℕ, List}
use Rattle.component_package.specs.packages.Manifest as first_layout
use Rattle.kept_definitions.specs.Stored.{StoredRelease, Stores}

-- A side of the first layout stores no release of the second: so a board of the first is unformatted in the second, and the other way round.
abbrev pub LayoutsDiffer : Type 0
LayoutsDiffer = (side : List ℕ) (m : first_layout.StoredRelease) (n : StoredRelease) → first_layout.Stores side m → Stores side n → ⊥
