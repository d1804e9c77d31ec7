use Rattle.http_replies.proofs.Parts.{first_part, second_part}
use Rattle.http_replies.proofs.write.write_both.Goals as goal

pub returns-in_default-clause-part : goal.returns-in_default-clause-part
returns-in_default-clause-part g c = first_part c.args.first.now c.args.second.now _ _ c.in_default.ensures.part

pub returns-in_default-write_all-clause-part : goal.returns-in_default-write_all-clause-part
returns-in_default-write_all-clause-part g c =
    second_part c.args.first.now c.args.second.now (g.K.Sink.view c.args.sink.now) (g.K.Sink.view c.write_all.new.sink) (g.K.Sink.view c.write_all-2.new.sink)
    c.in-Ok.ensures.ok c.in_default-write_all.ensures.part
