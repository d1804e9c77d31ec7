use Rattle.std.proofs.Common.{◌+◌, sym, ◌∙◌}
use Rattle.flash_pages.specs.State.{Ext}
use Rattle.flash_pages.proofs.Runs.{reads_alone}
use Rattle.external_flash.specs.Areas.{Differs}
use Rattle.kept_store.specs.Tables.{table_first, IsAnother}
use Rattle.kept_store.proofs.TableRuns.{read_then}
use Rattle.kept_store.proofs.tables.keep_page.Goals as goal

pub returns-in_err-bytes-clause-programs : goal.returns-in_err-bytes-clause-programs
returns-in_err-bytes-clause-programs g c = reads_alone _ _ _ _ c.table_page.ensures.reads

pub returns-in_err-program_if_different-clause-programs : goal.returns-in_err-program_if_different-clause-programs
returns-in_err-program_if_different-clause-programs g c =
    read_then (Differs (Ext (table_first c.args.slot + c.args.page)) c.in_ok-bytes.bytes) (IsAnother c.args.slot c.args.h.now c.args.page) _ _ _ _ c.table_page.ensures.reads
    (λ s told differs header same. differs (same ∙ sym (c.in_ok-bytes.ensures.bytes s told header))) c.program_if_different.ensures.programs

pub returns-clause-programs : goal.returns-clause-programs
returns-clause-programs g c =
    read_then (Differs (Ext (table_first c.args.slot + c.args.page)) c.in_ok-bytes.bytes) (IsAnother c.args.slot c.args.h.now c.args.page) _ _ _ _ c.table_page.ensures.reads
    (λ s told differs header same. differs (same ∙ sym (c.in_ok-bytes.ensures.bytes s told header))) c.program_if_different.ensures.programs
