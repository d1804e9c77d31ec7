use Rattle.flash_pages.proofs.Runs.{reads_reads}
use Rattle.kept_journal.proofs.standing.is_on_b.Goals as goal

pub returns-in_err-gate_is_open-2-clause-reads : goal.returns-in_err-gate_is_open-2-clause-reads
returns-in_err-gate_is_open-2-clause-reads g c = reads_reads _ _ _ c.gate_is_open.ensures.reads c.gate_is_open-2.ensures.reads

pub returns-then-branch-2-clause-reads : goal.returns-then-branch-2-clause-reads
returns-then-branch-2-clause-reads g c = reads_reads _ _ _ c.gate_is_open.ensures.reads c.gate_is_open-2.ensures.reads

pub returns-in_err-on_b-clause-reads : goal.returns-in_err-on_b-clause-reads
returns-in_err-on_b-clause-reads g c = reads_reads _ _ _ (reads_reads _ _ _ c.gate_is_open.ensures.reads c.gate_is_open-2.ensures.reads) c.gate_is_open-3.ensures.reads

pub returns-clause-reads : goal.returns-clause-reads
returns-clause-reads g c = reads_reads _ _ _ (reads_reads _ _ _ c.gate_is_open.ensures.reads c.gate_is_open-2.ensures.reads) c.gate_is_open-3.ensures.reads
