-- What is sent of a piece.
use Rattle.std.specs.Prelude.{◌≡◌, ℕ, List, ◌++◌}
use Rattle.flash_pages.specs.State.{State}

-- the bytes of the piece were sent but for those still owed, and no page was changed
pub record SendsBut (owed piece : List ℕ) (s x : State) : Type 0 where
  pub prog : x.prog ≡ s.prog
  pub ext : x.ext ≡ s.ext
  pub sent : s.sent ++ piece ≡ x.sent ++ owed
