use Rattle.flash_pages.proofs.Runs.{reads_reads}
use Rattle.kept_journal.proofs.standing.read_incoming.Goals as goal

pub returns-in_err-incoming-clause-reads : goal.returns-in_err-incoming-clause-reads
returns-in_err-incoming-clause-reads g c = reads_reads _ _ _ c.gate_is_open.ensures.reads c.read_release.ensures.reads

pub returns-clause-reads : goal.returns-clause-reads
returns-clause-reads g c = reads_reads _ _ _ c.gate_is_open.ensures.reads c.read_release.ensures.reads
