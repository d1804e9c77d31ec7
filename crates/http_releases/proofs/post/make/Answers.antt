use Rattle.std.proofs.Common.{◌∙◌, ap}
use Rattle.std.specs.Option.{option_map}
use Rattle.release_rows.specs.Change.{changed}
use Rattle.http_releases.proofs.Chains.{applied}
use Rattle.http_releases.proofs.post.make.Goals as goal

pub returns-in-Ok-clause-answer : goal.returns-in-Ok-clause-answer
returns-in-Ok-clause-answer g c = λ t told.
    (c.in-Ok.ensures.made ∙ ap (option_map (λ u. changed u c.args.change)) told, c.in_text.ensures (changed t c.args.change))

pub returns-in-Err-clause-acts : goal.returns-in-Err-clause-acts
returns-in-Err-clause-acts g c = applied c.args.change c.in-Err.fault _ _ c.in-Err.ensures
