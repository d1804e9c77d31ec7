use Rattle.std.proofs.Common.{Option, refl, subst}
use Rattle.http_releases.specs.Replies.{IsPrepared}
use Rattle.http_releases.specs.declared.reply.Reply.{Reply}
use Rattle.http_releases.proofs.Dues.{written}
use Rattle.http_releases.proofs.serve.serve.Goals as goal

pub returns-in_default-prepare-clause-outcome : goal.returns-in_default-prepare-clause-outcome
returns-in_default-prepare-clause-outcome g c = λ input left t told. (
  record { sink = refl; keeper = c.prepare.ensures.idle c.in_default-prepare.is },
  subst (λ (o : Option Reply). IsPrepared o input t (g.Q.Rows.view c.args.keeper.now) (g.Q.Rows.view c.prepare.new.keeper)) c.in_default-prepare.is
      (c.prepare.ensures.prepared input (c.in-Ok.ensures.kind input left) t told),
)

pub returns-clause-outcome : goal.returns-clause-outcome
returns-clause-outcome g c = λ input left t told.
    written c.finish.result c.in-Some.reply input t (g.K.Sink.view c.args.sink.now) (g.K.Sink.view c.finish.new.sink) (g.Q.Rows.view c.args.keeper.now) (g.Q.Rows.view c.prepare.new.keeper) c.finish.ensures.writes
    (subst (λ (o : Option Reply). IsPrepared o input t (g.Q.Rows.view c.args.keeper.now) (g.Q.Rows.view c.prepare.new.keeper)) c.in-Some.is
    (c.prepare.ensures.prepared input (c.in-Ok.ensures.kind input left) t told))
