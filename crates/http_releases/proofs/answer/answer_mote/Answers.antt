use Rattle.release_rules.specs.Motes.{mote_text}
use Rattle.http_releases.specs.Replies.{with_tables}
use Rattle.http_releases.proofs.Founds.{text_missing, text_found}
use Rattle.http_releases.proofs.answer.answer_mote.Goals as goal

pub returns-in_default-clause-answer : goal.returns-in_default-clause-answer
returns-in_default-clause-answer g c = λ t told.
    text_missing c.in_ok-text.field-0 (mote_text t c.args.mote.now) (with_tables c.in_ok-missing.field-0 t) t c.in_default.is (c.in_ok-text.ensures.text t told) (c.in_ok-missing.ensures t)

pub returns-clause-answer : goal.returns-clause-answer
returns-clause-answer g c = λ t told.
    text_found c.in_ok-text.field-0 (mote_text t c.args.mote.now) c.in-Some.text (with_tables c.in_text.result t) t c.in-Some.is (c.in_ok-text.ensures.text t told) (c.in_text.ensures t)
