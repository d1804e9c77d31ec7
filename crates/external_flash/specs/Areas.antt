-- Bytes of the external flash over the ends of pages, and pages that are to be programmed.
use Rattle.std.specs.Prelude.{◌≢◌, ℕ, List, drop}
use Rattle.std.specs.List.{concat}
use Rattle.flash_pages.specs.State.{State, Place, page_at}

-- the bytes of the external flash from this page on, page after page
abbrev pub bytes_from : ℕ → State → List ℕ
bytes_from first s = concat (drop first s.ext)

-- the page holds other bytes than these
abbrev pub Differs : Place → List ℕ → State → Type 0
Differs place bytes s = page_at s place ≢ bytes
