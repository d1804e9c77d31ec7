use Rattle.std.proofs.Common.{map}
use Rattle.release_judging.proofs.Distinct.{distinct_means}
use Rattle.release_judging.proofs.release.are_parts.Goals as goal

pub returns : goal.returns
returns c = record { some = c.requires.some; few = c.requires.few; distinct = distinct_means (map (λ p. p.component) c.args._parts.now) c.requires.distinct }
