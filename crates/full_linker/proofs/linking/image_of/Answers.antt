use Rattle.std.proofs.Common.{◌≡◌, None, sym, ◌∙◌, List, subst, length}
use Rattle.std.specs.List.{All, AllPairs}
use Rattle.std.proofs.lemmas.List.Elements.{All-from_recursion}
use Rattle.std.proofs.lemmas.Result.{err_from_is_err_and}
use Rattle.avr_reloc.specs.declared.fixup.Fixup.{Fixup}
use Rattle.avr_reloc.specs.Fixups.{CanBePut, AreApart, ArePut}
use Rattle.component_package.specs.link.Link.{fixups_of, plain_of, duplicate_cause}
use Rattle.full_linker.proofs.Causes.{says_room, says_symbols, says_relocations, says_duplicate, says_sites, says_nothing}
use Rattle.link_laws.proofs.Apart.{fields_of_set_apart}
use Rattle.link_laws.proofs.Own.{fields_can_be_put}
use Rattle.full_linker.proofs.linking.image_of.Goals as goal

pub returns-in_err-plan-clause-fault : goal.returns-in_err-plan-clause-fault
returns-in_err-plan-clause-fault c =
    let p = err_from_is_err_and c.from_residual.result c.from_residual.ensures.1 in
    rw (p.1, p.2) (says_room c.args.set.now c.in_err-plan.field-0.0 c.in_err-plan.ensures.fault)

pub returns-in_err-slots-clause-fault : goal.returns-in_err-slots-clause-fault
returns-in_err-slots-clause-fault c =
    let p = err_from_is_err_and c.from_residual-in_err-slots.result c.from_residual-in_err-slots.ensures.1 in
    rw (p.1, p.2) (says_symbols c.args.set.now c.in_err-slots.field-0.0 c.in_ok-plan.ensures.room c.in_err-slots.ensures.fault)

pub returns-in_err-sites-clause-fault : goal.returns-in_err-sites-clause-fault
returns-in_err-sites-clause-fault c =
    let p = err_from_is_err_and c.from_residual-in_err-sites.result c.from_residual-in_err-sites.ensures.1 in
    rw (p.1, p.2) (says_relocations c.args.set.now c.in_err-sites.field-0.0 c.in_ok-plan.ensures.room c.in_ok-slots.ensures.few c.in_err-sites.ensures.fault)

pub returns-in-Some-clause-fault : goal.returns-in-Some-clause-fault
returns-in-Some-clause-fault c =
    let set = c.args.set.now in
    says_duplicate set c.in-Some.fault c.in_ok-plan.ensures.room c.in_ok-slots.ensures.few c.in_ok-sites.ensures.few (c.in-Some.ensures set c.requires.components c.in_ok-slots.ensures.slots)

pub returns-in_err-fixups-clause-fault : goal.returns-in_err-fixups-clause-fault
returns-in_err-fixups-clause-fault c =
    let set = c.args.set.now in
    let none : duplicate_cause set ≡ None = c.in_default.ensures set c.requires.components c.in_ok-slots.ensures.slots in
    let p = err_from_is_err_and c.from_residual-in_err-fixups.result c.from_residual-in_err-fixups.ensures.1 in
    rw (p.1, p.2) (says_sites set c.in_err-fixups.field-0.0 c.in_ok-plan.ensures.room c.in_ok-slots.ensures.few c.in_ok-sites.ensures.few none c.in_err-fixups.ensures.fault)

pub patched-requires-clause-can : goal.patched-requires-clause-can
patched-requires-clause-can c =
    let set = c.args.set.now in
    let fields = c.deref-2.ensures.value ∙ c.in_ok-fixups.ensures.fixups in
    subst (λ (xs : List Fixup). All (CanBePut (length (plain_of set))) xs) (sym fields)
    (All-from_recursion (CanBePut (length (plain_of set))) (fixups_of set) (fields_can_be_put set c.requires.components c.in_ok-fixups.ensures.possible))

pub patched-requires-clause-apart : goal.patched-requires-clause-apart
patched-requires-clause-apart c =
    let fields = c.deref-2.ensures.value ∙ c.in_ok-fixups.ensures.fixups in
    subst (λ (xs : List Fixup). AllPairs AreApart xs) (sym fields) (fields_of_set_apart c.args.set.now c.requires.components)

pub returns-clause-image : goal.returns-clause-image
returns-clause-image c =
    let set = c.args.set.now in
    let fields = c.deref-2.ensures.value ∙ c.in_ok-fixups.ensures.fixups in
    let none : duplicate_cause set ≡ None = c.in_default.ensures set c.requires.components c.in_ok-slots.ensures.slots in
    record {
      possible = says_nothing set c.in_ok-plan.ensures.room c.in_ok-slots.ensures.few c.in_ok-sites.ensures.few none c.in_ok-fixups.ensures.possible;
      bytes = c.in_ok-patched.ensures.bytes;
      put = subst (λ (xs : List Fixup). ArePut xs (plain_of set) c.in_ok-patched.field-0.items) fields c.in_ok-patched.ensures.put;
    }
