use Rattle.std.proofs.Common.{◌≡◌, ℕ, ◌+◌, ◌*◌, List, sym, ◌∙◌, subst, arith}
use Rattle.flash_pages.proofs.Runs.{reads_reads}
use Rattle.component_package.specs.link.Link.{plain_of}
use Rattle.link_laws.proofs.Own.{plain_bytes}
use Rattle.kept_relocs.proofs.Linkable.{linkable}
use Rattle.kept_stage.specs.Windows.{ArePassed}
use Rattle.kept_stage.proofs.Parts.{shows_padded}
use Rattle.kept_stage.proofs.Window.{page_of_whole}
use Rattle.kept_stage.proofs.Sets.{plain_fits, whole_long, page_at_of}
use Rattle.kept_stage.proofs.staging.make_page.Goals as goal

pub returns-in_default-patch_page-clause-reads : goal.returns-in_default-patch_page-clause-reads
returns-in_default-patch_page-clause-reads g c = reads_reads _ _ _ c.plain_page.ensures.reads c.patch_page.ensures.reads

pub returns-clause-reads : goal.returns-clause-reads
returns-clause-reads g c = reads_reads _ _ _ c.plain_page.ensures.reads c.patch_page.ensures.reads

pub returns-clause-passed : goal.returns-clause-passed
returns-clause-passed g c = λ s told keeps xs l was.
    let e : 256 * c.args.page + 256 ≡ 256 * (c.args.page + 1) = omega arith in
    subst (λ (b : ℕ). ArePassed xs b c.in-Ok-patch_page.next) e (c.in-Ok-patch_page.ensures.passed s (c.plain_page.ensures.reads.state ∙ told) keeps xs l was)

pub returns-clause-page : goal.returns-clause-page
returns-clause-page g c = λ s told keeps starts pages are.
    let set = c.args.set.now in
    let S = are.components in
    let plain : List ℕ = plain_of S in
    let whole : List ℕ = are.patched.whole in
    let base : ℕ = 256 * c.args.page in
    let few = plain_fits set c.args.plan.now c.requires.set c.rooms.ensures c.requires.plan s S are.held in
    let bytes = plain_bytes S (linkable s set S c.requires.set are.held).components in
    let shows = shows_padded plain c.plain_page.new.into base (omega (arith, c.requires.page)) (c.in-Ok.ensures.shows s told S are.held) in
    let each = c.in-Ok-patch_page.ensures.page s (c.plain_page.ensures.reads.state ∙ told) keeps are.list plain whole are.lists (starts are.list are.lists) are.fits bytes are.patched.bytes
    are.patched.put shows in
    page_of_whole whole c.patch_page.new.into c.args.page c.patch_page.array_long (whole_long plain whole few are.patched.put.size) c.requires.page each
    ∙ sym (page_at_of s set pages c.args.page c.requires.page are)
