use Rattle.std.proofs.Common.{[], Bool, get_or, ◌∙◌, sym as flip, ap}
use Rattle.kept_core.specs.Commands.{image_pages}
use Rattle.kept_core.proofs.Images.{staged_page}
use Rattle.kept_core.proofs.reports.read_page.Goals as goal

pub returns-in_ok-ext_read-clause-page : goal.returns-in_ok-ext_read-clause-page
returns-in_ok-ext_read-clause-page g c = λ s told.
    c.in_ok-ext_read.ensures.page s told ∙ flip (staged_page s c.args.page c.requires) ∙ ap (λ (b : Bool). get_or (image_pages b s) c.args.page []) (flip c.if-staged.true)
