use Rattle.release_keeper.specs.Tables.{memory_tables}
use Rattle.release_keeper.proofs.Begun.{on_err_then, begun_behind}
use Rattle.release_keeper.proofs.tables.MemoryTables.begin.Goals as goal

pub returns-in_ok-copy_bytes-in-Version-clause-err : goal.returns-in_ok-copy_bytes-in-Version-clause-err
returns-in_ok-copy_bytes-in-Version-clause-err c =
    on_err_then c.add_version.result (begun_behind (memory_tables c.args.self.now) (memory_tables c.add_version.new.self) c.push.new.self c.in_ok-copy_key.field-0 c.in_ok-push.ensures.ok) c.add_version.ensures.err

pub returns-in-Release-clause-err : goal.returns-in-Release-clause-err
returns-in-Release-clause-err c =
    on_err_then c.add_release.result (begun_behind (memory_tables c.args.self.now) (memory_tables c.add_release.new.self) c.push.new.self c.in_ok-copy_key.field-0 c.in_ok-push.ensures.ok) c.add_release.ensures.err

pub returns-in-Ack-clause-err : goal.returns-in-Ack-clause-err
returns-in-Ack-clause-err c =
    on_err_then c.acknowledge.result (begun_behind (memory_tables c.args.self.now) (memory_tables c.acknowledge.new.self) c.push.new.self c.in_ok-copy_key.field-0 c.in_ok-push.ensures.ok) c.acknowledge.ensures.err
