use Rattle.std.proofs.Common.{List, ℕ, sym, ap, ◌∙◌}
use Rattle.std.specs.Option.{option_map}
use Rattle.std.proofs.lemmas.Result.{err_from_is_err_and}
use Rattle.component_package.specs.packages.Reading.{header_fault}
use Rattle.component_store.specs.declared.set.StoreFault.TheVariants.{Package}
use Rattle.component_store.proofs.package.stored_header.Goals as goal

pub returns-in_err-header-clause-answer : goal.returns-in_err-header-clause-answer
returns-in_err-header-clause-answer g c =
    let p = err_from_is_err_and c.from_residual-in_err-header.result c.from_residual-in_err-header.ensures.1 in
    rw (p.1, p.2) (λ e s told keeps.
    let read = c.in_ok-read.ensures.answer s told keeps in
    ap (λ (raw : List ℕ). option_map Package (header_fault raw c.args.size)) (sym read) ∙ ap (option_map Package) (sym c.in_err-header.ensures.fault))
