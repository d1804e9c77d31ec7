use Rattle.std.proofs.Common.{◌≡◌, Option, Some, sym, ◌∙◌, subst}
use Rattle.release_rows.specs.declared.row.KeyRow.{KeyRow}
use Rattle.http_releases.specs.Responses.{unread}
use Rattle.http_releases.specs.Replies.{with_tables}
use Rattle.http_releases.proofs.post.answer_unread.Goals as goal

pub returns-in-Ok-None-clause-answer : goal.returns-in-Ok-None-clause-answer
returns-in-Ok-None-clause-answer g c = λ t told.
    subst (λ (o : Option KeyRow). ((g.Q.Rows.view c.key_row.new.self).tables ≡ Some (unread o c.args.digest.now t).tables)
    × (with_tables c.bad_request.result (unread o c.args.digest.now t).tables ≡ unread o c.args.digest.now t))
    (sym c.in-Ok-None.field-0-is ∙ c.in-Ok-None.ensures.row t told)
    (c.in-Ok-None.ensures.reads.tables ∙ told, c.bad_request.ensures t)
