use Rattle.flash_pages.proofs.Runs.{reads_reads}
use Rattle.kept_journal.proofs.standing.read_flags.Goals as goal

pub returns-in_err-relocs-clause-reads : goal.returns-in_err-relocs-clause-reads
returns-in_err-relocs-clause-reads g c = reads_reads _ _ _ c.gate_is_open.ensures.reads c.gate_is_open-2.ensures.reads

pub returns-in_err-image-clause-reads : goal.returns-in_err-image-clause-reads
returns-in_err-image-clause-reads g c = reads_reads _ _ _ (reads_reads _ _ _ c.gate_is_open.ensures.reads c.gate_is_open-2.ensures.reads) c.gate_is_open-3.ensures.reads

pub returns-clause-reads : goal.returns-clause-reads
returns-clause-reads g c = reads_reads _ _ _ (reads_reads _ _ _ c.gate_is_open.ensures.reads c.gate_is_open-2.ensures.reads) c.gate_is_open-3.ensures.reads
