use Rattle.std.proofs.Common.{ap, ◌∙◌, ℕ, Option}
use Rattle.std.specs.Prelude.{unwrap_or}
use Rattle.release_keeper.proofs.releases.ReleaseRows.count.Goals as goal

pub returns-in-Some : goal.returns-in-Some
returns-in-Some c =
    rw (← c.self.view_is) (ap (λ (o : Option ℕ). unwrap_or o 0) c.in-Some.ensures.value ∙ c.self.invariant.counted c.args.mote.now)

pub returns-in-None : goal.returns-in-None
returns-in-None c =
    rw (← c.self.view_is) (ap (λ (o : Option ℕ). unwrap_or o 0) c.in-None.ensures.value ∙ c.self.invariant.counted c.args.mote.now)
