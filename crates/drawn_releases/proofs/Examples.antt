-- The worked draws, by computing.
use Rattle.std.proofs.Common.{refl}
use Rattle.drawn_releases.specs.Rows.{FirstDraws}

pub first_draws : FirstDraws
first_draws = record { draws = refl; count = refl; begins = refl; behind = refl; order = refl; versions = refl; stop = refl; fill = refl }
