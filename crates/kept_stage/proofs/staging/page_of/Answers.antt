use Rattle.std.proofs.Common.{◌*◌, ◌∙◌}
use Rattle.flash_pages.proofs.Runs.{reads_reads}
use Rattle.kept_stage.proofs.Window.{passed_first}
use Rattle.kept_stage.proofs.staging.page_of.Goals as goal

pub returns-in_default-make_page-clause-reads : goal.returns-in_default-make_page-clause-reads
returns-in_default-make_page-clause-reads g c = reads_reads _ _ _ c.first_at.ensures.reads c.make_page.ensures.reads

pub returns-clause-reads : goal.returns-clause-reads
returns-clause-reads g c = reads_reads _ _ _ c.first_at.ensures.reads c.make_page.ensures.reads

pub returns-clause-page : goal.returns-clause-page
returns-clause-page g c = λ s told pages are.
    c.in-Ok-make_page.ensures.page s (c.first_at.ensures.reads.state ∙ told) (c.new-list.ensures s)
    (λ xs l. passed_first xs (256 * c.args.page) c.in-Ok.first (c.in-Ok.ensures.first s told xs l)) pages are
