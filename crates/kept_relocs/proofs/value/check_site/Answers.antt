use Rattle.std.proofs.Common.{subst, Option, ℕ}
use Rattle.component_package.specs.link.Link.{range_cause}
use Rattle.kept_relocs.specs.List.{CauseIs}
use Rattle.kept_relocs.proofs.value.check_site.Goals as goal

pub returns-clause-answer : goal.returns-clause-answer
returns-clause-answer g c = λ fine s told keeps set table plan tells.
    subst (λ (o : Option ℕ). CauseIs c.check_value.result (range_cause set c.args.site.now o)) (c.in-Ok.ensures.answer s told keeps set table plan tells) (c.check_value.ensures.answer set plan)
