-- Pages that bytes fill in part.
use Rattle.std.specs.Prelude.{ℕ, List, ◌++◌, take, replicate}

-- a page that begins with these bytes and is 0xFF from there
unfoldable pub filled_page : List ℕ → List ℕ
filled_page bytes = take 256 (bytes ++ replicate 256 255)
