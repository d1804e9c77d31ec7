-- Stored releases of layout 2 and their bytes.
use Rattle.std.specs.Prelude.{◌≡◌, ℕ, List}
use Rattle.kept_definitions.specs.Stored.{StoredRelease, Stores, stored_in}

-- One stored release has one form in bytes, and one list of bytes is one stored release's at most, which is the one that they say.
pub record StoredReleaseIsOne : Type 0 where
  pub bytes : (b d : List ℕ) (m : StoredRelease) → Stores b m → Stores d m → b ≡ d
  pub release : (b : List ℕ) (m n : StoredRelease) → Stores b m → Stores b n → m ≡ n
  pub said : (b : List ℕ) (m : StoredRelease) → Stores b m → stored_in b ≡ m
