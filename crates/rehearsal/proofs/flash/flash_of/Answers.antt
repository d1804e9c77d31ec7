use Rattle.std.proofs.Common.{◌∙◌, ap, subst, List, map}
use Rattle.component_package.specs.packages.Component.{Component}
use Rattle.component_package.specs.packages.Reading.{component_of}
use Rattle.component_package.specs.link.Link.{IsImage}
use Rattle.rehearsal.proofs.Pages.{said}
use Rattle.rehearsal.proofs.flash.flash_of.Goals as goal

pub returns-in-Ok : goal.returns-in-Ok
returns-in-Ok c = record {
  image = c.in-Ok.image.items;
  is = subst (λ (set : List Component). IsImage set c.in-Ok.image.items) (ap (map component_of) (c.deref-2.ensures.value ∙ c.in_ok-set.ensures) ∙ said c.args.packages.now) c.in-Ok.ensures.image;
  whole_is = c.in_ok-padded-in-Ok.ensures;
}
