use Rattle.http_releases.specs.Due.{of_no_memory}
use Rattle.http_releases.proofs.Dues.{written}
use Rattle.http_releases.proofs.serve.finish_without_memory.Goals as goal

pub returns-clause-outcome : goal.returns-clause-outcome
returns-clause-outcome g c = λ input t keeper told.
    written c.finish.result c.no_memory-reply.result input t (g.K.Sink.view c.args.sink.now) (g.K.Sink.view c.finish.new.sink) keeper keeper c.finish.ensures.writes
    (t, record { due = of_no_memory (c.no_memory-reply.ensures t); tables = told })
