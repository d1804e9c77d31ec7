use Rattle.std.proofs.Common.{List, sym, subst, ◌∙◌}
use Rattle.component_package.specs.packages.Component.{Component}
use Rattle.component_package.specs.link.Sets.{IsSet}
use Rattle.full_linker.proofs.linking.link.Goals as goal

pub image_of-requires : goal.image_of-requires
image_of-requires c = subst (λ (cs : List Component). IsSet cs) (sym (c.deref.ensures.value ∙ c.in_ok-views.ensures.views)) c.requires.components
