use Rattle.std.proofs.Common.{◌≡◌, ℕ, ◌+◌, ◌*◌, ◌<◌, ◌≤◌, List, length, refl, sym, ap, ◌∙◌, subst, arith}
use Rattle.flash_pages.proofs.Runs.{reads_reads}
use Rattle.component_package.specs.link.Link.{plain_of}
use Rattle.link_laws.proofs.Own.{plain_bytes}
use Rattle.symbol_merge.specs.Stored.{set_in}
use Rattle.reloc_table.proofs.Linkable.{linkable}
use Rattle.image_stage.specs.Windows.{ArePassed}
use Rattle.image_stage.proofs.Parts.{shows_padded}
use Rattle.image_stage.proofs.Window.{page_of_whole}
use Rattle.image_stage.proofs.Sets.{plain_fits, whole_long, page_at_of}
use Rattle.image_stage.proofs.staging.make_page.Goals as goal

pub returns-in_default-patch_page-clause-reads : goal.returns-in_default-patch_page-clause-reads
returns-in_default-patch_page-clause-reads g c = reads_reads _ _ _ c.plain_page.ensures.reads c.patch_page.ensures.reads

pub returns-clause-reads : goal.returns-clause-reads
returns-clause-reads g c = reads_reads _ _ _ c.plain_page.ensures.reads c.patch_page.ensures.reads

pub returns-clause-passed : goal.returns-clause-passed
returns-clause-passed g c = λ s told keeps xs l was.
    let e : 256 * c.args.page + 256 ≡ 256 * (c.args.page + 1) = omega arith in
    subst (λ (b : ℕ). ArePassed xs b c.in-Ok-patch_page.next) e (c.in-Ok-patch_page.ensures.passed s (c.plain_page.ensures.reads.state ∙ told) keeps xs l was)

pub returns-clause-page : goal.returns-clause-page
returns-clause-page g c = λ s told keeps starts pages are.
    let set = c.args.set.now in
    let S = set_in s set in
    let plain : List ℕ = plain_of S in
    let whole : List ℕ = are.patched.whole in
    let base : ℕ = 256 * c.args.page in
    let sizes = (g.B.Board.view c.args.board.now).sizes s told in
    let few = plain_fits set c.args.plan.now c.requires.set c.rooms.ensures c.requires.plan s are.held in
    let bytes = plain_bytes S (linkable s set sizes c.requires.set c.rooms.ensures are.held).components in
    let shows = shows_padded plain c.plain_page.new.into base (omega (arith, c.requires.page)) (c.in-Ok.ensures.shows s told are.held) in
    let each = c.in-Ok-patch_page.ensures.page s (c.plain_page.ensures.reads.state ∙ told) keeps are.list plain whole are.lists (starts are.list are.lists) are.fits bytes are.patched.bytes are.patched.put shows in
    page_of_whole whole c.patch_page.new.into c.args.page c.patch_page.array_long (whole_long plain whole few are.patched.put.size) c.requires.page each ∙ sym (page_at_of s set pages c.args.page c.requires.page are)
