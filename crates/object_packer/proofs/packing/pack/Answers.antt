use Rattle.std.proofs.Common.{◌≡◌, ℕ, List, ap, ◌∙◌}
use Rattle.avr_elf.specs.Object.{Object}
use Rattle.component_package.specs.packages.Component.{Component}
use Rattle.object_packer.specs.Names.{names, number_in}
use Rattle.object_packer.specs.Packed.{packed}
use Rattle.object_packer.proofs.Whole.{component_holds}
use Rattle.object_packer.proofs.packing.pack.Goals as goal

of_object : (o p : Object) (ns : List (List ℕ)) (numbers : List ℕ) (component version : ℕ) (c : Component) → p ≡ o → ns ≡ names p → c ≡ packed p component version (number_in ns numbers)
    → c ≡ packed o component version (number_in (names o) numbers)
of_object o p ns numbers component version c e n is =
    is ∙ ap (λ (ns : List (List ℕ)). packed p component version (number_in ns numbers)) n ∙ ap (λ (o : Object). packed o component version (number_in (names o) numbers)) e

pub returns-in_ok-package-in-Ok-clause-packed : goal.returns-in_ok-package-in-Ok-clause-packed
returns-in_ok-package-in-Ok-clause-packed c =
    of_object c.args.o.now c.in-Ok.plan.layout c.in-Ok.plan.names c.args.numbers.now c.args.component c.args.version c.in_ok-package-in-Ok.field-0
    c.in-Ok.ensures.object c.in-Ok.ensures.plan.names c.in_ok-package-in-Ok.ensures.package

pub returns-in_ok-package-in-Ok-clause-component : goal.returns-in_ok-package-in-Ok-clause-component
returns-in_ok-package-in-Ok-clause-component c =
    component_holds c.args.o.now c.section_count-count.ensures.well_formed c.requires.accepted c.args.numbers.now c.requires.count c.requires.different c.requires.symbols c.are_numbers.ensures
    c.args.component c.args.version c.ranges.component.fits c.ranges.version.fits c.in_ok-package-in-Ok.field-0 c.in_ok-package-in-Ok.ensures.code c.in_ok-package-in-Ok.ensures.init
    (of_object c.args.o.now c.in-Ok.plan.layout c.in-Ok.plan.names c.args.numbers.now c.args.component c.args.version c.in_ok-package-in-Ok.field-0 c.in-Ok.ensures.object c.in-Ok.ensures.plan.names
    c.in_ok-package-in-Ok.ensures.package)
