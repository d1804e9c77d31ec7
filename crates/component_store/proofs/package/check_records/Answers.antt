use Rattle.flash_pages.proofs.Runs.{reads_reads}
use Rattle.component_store.proofs.package.check_records.Goals as goal

pub returns-clause-reads : goal.returns-clause-reads
returns-clause-reads g c = reads_reads _ _ _ c.check_exports.ensures.reads c.check_relocs.ensures.reads

pub returns-in_err-check_relocs-clause-reads : goal.returns-in_err-check_relocs-clause-reads
returns-in_err-check_relocs-clause-reads g c = reads_reads _ _ _ c.check_exports.ensures.reads c.check_relocs.ensures.reads
