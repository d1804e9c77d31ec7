use Rattle.std.proofs.Common.{List, ℕ, map, sym, ap, ◌∙◌, subst, arith}
use Rattle.component_package.specs.packages.Component.{Component}
use Rattle.component_package.specs.packages.Manifest.{AreDistinct}
use Rattle.full_linker.proofs.Views.{is_set}
use Rattle.full_linker.proofs.set.may_be_linked.Goals as goal

pub returns : goal.returns
returns c =
    let set = c.args.set.now in
    let read = c.in_ok-views.ensures in
    let numbers = c.deref-2.ensures.value ∙ c.in_ok-numbers.ensures ∙ ap (map (λ (c : Component). c.component)) c.deref.ensures.value in
    let said = ap (map (λ (c : Component). c.component)) read.views in
    let distinct = c.are_distinct.ensures in (
      λ yes. record {
        packages = c.are_packages.ensures.0 c.if-not-are_packages.false;
        components = is_set set _ read.views read.components (omega (arith, c.if-set-gt16.false)) (subst (λ (ns : List ℕ). AreDistinct ns) numbers (distinct.0 yes));
      },
      λ are. distinct.1 (subst (λ (ns : List ℕ). AreDistinct ns) (sym (numbers ∙ said)) are.components.different),
    )
