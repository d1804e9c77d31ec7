use Rattle.std.proofs.Common.{◌≡◌, ℕ, Some, None, refl, sym, ap, ◌∙◌, arith}
use Rattle.std.specs.Option.{option_map}
use Rattle.component_package.specs.packages.Reading.{header_of}
use Rattle.component_package.specs.mote.Store.{BadPackage}
use Rattle.component_store.specs.Sets.{number_of_stored_fault}
use Rattle.component_store.proofs.OpenLemmas.{numbered}
use Rattle.kept_manifests.specs.Slots.{place_of}
use Rattle.kept_store.proofs.RestLemmas.{slot_low, entry_good}
use Rattle.kept_store.proofs.OpenLemmas.{package_is, bad_is}
use Rattle.kept_store.proofs.open.fresh_part.Goals as goal

pub check_package-requires-clause-slot : goal.check_package-requires-clause-slot
check_package-requires-clause-slot g c = let low = slot_low c.args.m.now c.args.k c.requires.manifest c.requires.entry in omega arith

pub check_package-requires-clause-least : goal.check_package-requires-clause-least
check_package-requires-clause-least g c = (entry_good c.args.m.now c.args.k c.requires.manifest c.requires.entry).least

pub check_package-requires-clause-most : goal.check_package-requires-clause-most
check_package-requires-clause-most g c = (entry_good c.args.m.now c.args.k c.requires.manifest c.requires.entry).most

pub returns-in-Ok-clause-answer : goal.returns-in-Ok-clause-answer
returns-in-Ok-clause-answer g c = λ e s told.
    let low = slot_low c.args.m.now c.args.k c.requires.manifest c.requires.entry in
    bad_is s c.args.m.now c.args.k None c.requires.entry low c.requires.fresh (c.in-Ok.ensures.answer refl s told)

pub returns-in-Ok-clause-header : goal.returns-in-Ok-clause-header
returns-in-Ok-clause-header g c = λ s told.
    let low = slot_low c.args.m.now c.args.k c.requires.manifest c.requires.entry in
    c.in-Ok.ensures.header s told ∙ ap header_of (sym (package_is s (place_of c.args.m.now c.args.k) low))

pub returns-in-Some-clause-answer : goal.returns-in-Some-clause-answer
returns-in-Some-clause-answer g c = λ e s told.
    let k : ℕ = c.args.k in
    let low = slot_low c.args.m.now k c.requires.manifest c.requires.entry in
    let number : number_of_stored_fault c.in-Err.fault ≡ Some c.in-Some.number = sym c.number.ensures ∙ c.in-Some.is in
    let answer = c.in-Err.ensures.answer (numbered c.in-Err.fault c.in-Some.number number) s told in
    bad_is s c.args.m.now k (Some c.in-Err.fault) c.requires.entry low c.requires.fresh answer ∙ ap (option_map (BadPackage k)) number
