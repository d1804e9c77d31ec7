use Rattle.std.proofs.Common.{refl}
use Rattle.release_keeper.specs.Tables.{memory_tables}
use Rattle.release_keeper.proofs.Begun.{on_err, taken_same, taken_more, taken_component, begun}
use Rattle.release_keeper.proofs.tables.MemoryTables.add_version.Goals as goal

pub returns-in_err-add_symbols-clause-err : goal.returns-in_err-add_symbols-clause-err
returns-in_err-add_symbols-clause-err c =
    on_err c.from_residual.result (begun (memory_tables c.args.self.now) c.add_symbols.new.rows c.args.self.now.components c.args.self.now.versions c.in_err-add_symbols.ensures.err (taken_same _ _ refl) refl)

pub returns-in_err-add_component-clause-err : goal.returns-in_err-add_component-clause-err
returns-in_err-add_component-clause-err c =
    on_err c.from_residual-in_err-add_component.result (begun (memory_tables c.args.self.now) c.add_symbols.new.rows c.add_component.new.rows c.args.self.now.versions
    (taken_more _ _ _ c.in_ok-add_symbols.ensures.ok) (taken_same _ _ c.in_err-add_component.ensures.err) refl)

pub returns-in_err-push-clause-err : goal.returns-in_err-push-clause-err
returns-in_err-push-clause-err c =
    on_err c.from_residual-in_err-push.result (begun (memory_tables c.args.self.now) c.add_symbols.new.rows c.add_component.new.rows c.push.new.self
    (taken_more _ _ _ c.in_ok-add_symbols.ensures.ok) (taken_component _ _ _ _ _ c.in_ok-add_component.ensures.ok) c.in_err-push.ensures.err)
