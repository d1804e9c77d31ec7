-- What fills a buffer.
use Rattle.std.specs.Prelude.{◌≡◌, ◌<◌, ℕ, List, length, take, Bool, true, false}
use Rattle.http_edges.specs.Edge.{SourceView, in_front}
use Rattle.http_heads.specs.Read.{IsAtEnd}

-- The buffer has first bytes of those that were there, which are some that came before and then what the source had left; or it has all of
-- them, and they are too few.
abbrev pub Filled : List ℕ → List ℕ → SourceView → SourceView → Bool → Type 0
Filled start into old new true = in_front start old.left ≡ in_front into new.left
Filled start into old new false =
    (count : ℕ) × (count < length into) × (in_front start old.left ≡ in_front (take count into) new.left) × IsAtEnd new
