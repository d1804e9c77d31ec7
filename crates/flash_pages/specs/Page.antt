-- Pages that code makes: 0xFF is what an erased page holds.
use Rattle.std.specs.Prelude.{ℕ, List, ◌++◌, take, replicate}

-- a page of 0xFF
abbrev pub blank_page : List ℕ
blank_page = replicate 256 255

-- a page that begins with these bytes and is 0xFF from there
unfoldable pub filled_page : List ℕ → List ℕ
filled_page bytes = take 256 (bytes ++ replicate 256 255)
