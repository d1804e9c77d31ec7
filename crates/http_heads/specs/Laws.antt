-- What holds of whole, refused and cut heads.
use Rattle.std.specs.Prelude.{ℕ, List}
use Rattle.httparse.specs.Grammar.{EndsInTarget}
use Rattle.http_heads.specs.Heads.{HasHead, HasNoHead, IsCutHead}

-- an input has one kind, but for one that ends inside the target
pub record HeadsDiffer : Type 0 where
  pub refused_or_whole : (input : List ℕ) → HasNoHead input → HasHead input → ⊥
  pub cut_or_whole : (input : List ℕ) → IsCutHead input → HasHead input → ⊥
  pub refused_or_cut : (input : List ℕ) → HasNoHead input → IsCutHead input → EndsInTarget input
