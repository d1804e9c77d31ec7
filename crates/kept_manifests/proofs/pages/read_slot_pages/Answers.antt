use Rattle.std.proofs.Common.{◌≡◌, ◌≤◌, None, [], get_or, sym, ap, ◌∙◌, arith}
use Rattle.std.specs.Prelude.{is_some}
use Rattle.std.specs.List.{concat}
use Rattle.std.proofs.lemmas.Bool.{false≢true}
use Rattle.component_package.specs.packages.Reading.{first_fault}
use Rattle.kept_definitions.specs.Stored.{StoredRelease, Stores, stored_bytes}
use Rattle.kept_manifests.specs.Slots.{stored_of}
use Rattle.kept_manifests.specs.Steps.{place_fault}
use Rattle.component_package.proofs.StoredLemmas.{first_page_byte}
use Rattle.kept_manifests.proofs.StoredLemmas.{is_read, stored_again, stored_few, stored_stands}
use Rattle.kept_manifests.proofs.pages.read_slot_pages.Goals as goal

pub returns-then-count-gt16-clause-none : goal.returns-then-count-gt16-clause-none
returns-then-count-gt16-clause-none c = λ m stores.
    let fourth = first_page_byte c.args.pages.now 4 c.are_pages.ensures.sizes (omega (arith, c.are_pages.ensures.count)) (omega arith) in
    let few = stored_few (concat c.args.pages.now) m stores in
    omega (arith, fourth, few, c.if-count-gt16.true)

pub returns-in_err-m-clause-none : goal.returns-in_err-m-clause-none
returns-in_err-m-clause-none c =
    let b = concat c.args.pages.now in
    let none = λ (m : StoredRelease) (stores : Stores b m).
    let fourth = first_page_byte c.args.pages.now 4 c.are_pages.ensures.sizes (omega (arith, c.are_pages.ensures.count)) (omega arith) in
    let stands : first_fault (place_fault b) (get_or (get_or c.args.pages.now 0 []) 4 0) ≡ None = ap (first_fault (place_fault b)) (sym fourth) ∙ stored_stands b m stores in
    false≢true (sym (c.in_err-m.ensures.fault ∙ ap is_some stands)) in
    rw (c.from_residual.ensures) none

pub has_pages-requires : goal.has_pages-requires
has_pages-requires c =
    let e = c.in_ok-m.ensures in
    let few : get_or (get_or c.args.pages.now 0 []) 4 0 ≤ 16 = omega arith in
    let read = is_read c.args.pages.now c.in_ok-m.m c.are_pages.ensures.count c.are_pages.ensures.sizes c.are_pages.ensures.bytes few c.in_ok-m.ensures.fault c.in_ok-m.ensures.count c.in_ok-m.ensures.number c.in_ok-m.ensures.placed in
    record { manifest = read.is; sizes = c.are_pages.ensures.sizes }

pub returns-then-has_pages-clause-some : goal.returns-then-has_pages-clause-some
returns-then-has_pages-clause-some c =
    let few : get_or (get_or c.args.pages.now 0 []) 4 0 ≤ 16 = omega arith in
    let read = is_read c.args.pages.now c.in_ok-m.m c.are_pages.ensures.count c.are_pages.ensures.sizes c.are_pages.ensures.bytes few c.in_ok-m.ensures.fault c.in_ok-m.ensures.count c.in_ok-m.ensures.number c.in_ok-m.ensures.placed in
    record { stored = read.is.stored; bytes = c.has_pages.ensures.0 c.if-has_pages.true }

pub returns-then-has_pages-clause-manifest : goal.returns-then-has_pages-clause-manifest
returns-then-has_pages-clause-manifest c =
    let few : get_or (get_or c.args.pages.now 0 []) 4 0 ≤ 16 = omega arith in
    let read = is_read c.args.pages.now c.in_ok-m.m c.are_pages.ensures.count c.are_pages.ensures.sizes c.are_pages.ensures.bytes few c.in_ok-m.ensures.fault c.in_ok-m.ensures.count c.in_ok-m.ensures.number c.in_ok-m.ensures.placed in
    read.is

pub returns-else-has_pages-clause-none : goal.returns-else-has_pages-clause-none
returns-else-has_pages-clause-none c = λ m stores.
    let b = concat c.args.pages.now in
    let few : get_or (get_or c.args.pages.now 0 []) 4 0 ≤ 16 = omega arith in
    let read = is_read c.args.pages.now c.in_ok-m.m c.are_pages.ensures.count c.are_pages.ensures.sizes c.are_pages.ensures.bytes few c.in_ok-m.ensures.fault c.in_ok-m.ensures.count c.in_ok-m.ensures.number c.in_ok-m.ensures.placed in
    let same : b ≡ stored_bytes (stored_of c.in_ok-m.m) = stores.bytes ∙ ap stored_bytes (sym (read.same ∙ stored_again b m stores)) in
    false≢true (sym c.if-has_pages.false ∙ c.has_pages.ensures.1 same)
