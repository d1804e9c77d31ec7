use Rattle.http_releases.proofs.serve.serve_connection.Goals as goal

pub returns-in_default-clause-outcome : goal.returns-in_default-clause-outcome
returns-in_default-clause-outcome g c = λ input left t told. c.finish_without_memory.ensures.outcome input t (g.Q.Rows.view c.args.keeper.now) told
