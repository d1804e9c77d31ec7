use Rattle.std.proofs.Common.{◌∙◌, ap}
use Rattle.drawn_releases.specs.Generator.{Drawn}
use Rattle.rehearsal.proofs.Told.{boot_told}
use Rattle.rehearsal.proofs.run.whole_step.Goals as goal

pub returns : goal.returns
returns c number is = (is, boot_told number c.args.next _ _ (c.packages.ensures ∙ ap (λ (d : Drawn). d.packages) is) c.in_ok-line.ensures)
