use Rattle.kept_store.proofs.TableRuns.{leaves_same}
use Rattle.kept_store.proofs.tables.keep_tables.Goals as goal

pub returns-in_err-keep_run-clause-each : goal.returns-in_err-keep_run-clause-each
returns-in_err-keep_run-clause-each g c = λ s told. leaves_same _ _ s _ _ c.slot_of.ensures.slot (c.keep_run.ensures.each s told)

pub returns-clause-each : goal.returns-clause-each
returns-clause-each g c = λ s told. leaves_same _ _ s _ _ c.slot_of.ensures.slot (c.keep_run.ensures.each s told)
