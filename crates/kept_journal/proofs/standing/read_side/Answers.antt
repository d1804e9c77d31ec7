use Rattle.flash_pages.proofs.Runs.{reads_reads}
use Rattle.kept_journal.proofs.standing.read_side.Goals as goal

pub returns-in_err-go_a-clause-reads : goal.returns-in_err-go_a-clause-reads
returns-in_err-go_a-clause-reads g c = reads_reads _ _ _ c.gate_is_open.ensures.reads c.gate_is_open-2.ensures.reads

pub returns-in_err-go_b-clause-reads : goal.returns-in_err-go_b-clause-reads
returns-in_err-go_b-clause-reads g c = reads_reads _ _ _ (reads_reads _ _ _ c.gate_is_open.ensures.reads c.gate_is_open-2.ensures.reads) c.gate_is_open-3.ensures.reads

pub returns-in_err-sel-clause-reads : goal.returns-in_err-sel-clause-reads
returns-in_err-sel-clause-reads g c = reads_reads _ _ _ (reads_reads _ _ _ (reads_reads _ _ _ c.gate_is_open.ensures.reads c.gate_is_open-2.ensures.reads) c.gate_is_open-3.ensures.reads) c.gate_is_open-4.ensures.reads

pub returns-clause-reads : goal.returns-clause-reads
returns-clause-reads g c = reads_reads _ _ _ (reads_reads _ _ _ (reads_reads _ _ _ c.gate_is_open.ensures.reads c.gate_is_open-2.ensures.reads) c.gate_is_open-3.ensures.reads) c.gate_is_open-4.ensures.reads
