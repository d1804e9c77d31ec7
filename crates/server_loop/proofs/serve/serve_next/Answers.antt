use Rattle.server_loop.proofs.Chains.{serves_next}
use Rattle.server_loop.proofs.serve.serve_next.Goals as goal

pub returns-clause-served : goal.returns-clause-served
returns-clause-served g c =
    serves_next c.serve_connection.result (g.L.In.Source.view c.in-Ok.conn.input) (g.L.In.Source.view c.serve_connection.new.source) (g.L.Out.Sink.view c.in-Ok.conn.output)
    (g.L.Out.Sink.view c.serve_connection.new.sink) (g.L.Listener.view c.args.listener.now) (g.L.Listener.view c.accept.new.self) (g.L.Listener.view c.finish.new.self)
    (g.Q.Rows.view c.args.keeper.now) (g.Q.Rows.view c.serve_connection.new.keeper) c.in-Ok.ensures.ok c.serve_connection.ensures.outcome c.serve_connection.ensures.read_fault
    c.serve_connection.ensures.write_fault c.serve_connection.ensures.keeper_later c.finish.ensures
