use Rattle.release_updates.specs.Updates.{update_bytes}
use Rattle.http_releases.specs.Replies.{with_tables}
use Rattle.http_releases.proofs.Founds.{bytes_missing, bytes_found}
use Rattle.http_releases.proofs.answer.answer_update.Goals as goal

pub returns-in_default-clause-answer : goal.returns-in_default-clause-answer
returns-in_default-clause-answer g c = λ t told.
    bytes_missing c.in_ok-frames.field-0 (update_bytes t c.args.mote.now c.args.have) (with_tables c.in_ok-missing.field-0 t) t c.in_default.is (c.in_ok-frames.ensures.frames t told) (c.in_ok-missing.ensures t)

pub returns-clause-answer : goal.returns-clause-answer
returns-clause-answer g c = λ t told.
    bytes_found c.in_ok-frames.field-0 (update_bytes t c.args.mote.now c.args.have) c.in-Some.frames (with_tables c.in_octets.result t) t c.in-Some.is (c.in_ok-frames.ensures.frames t told) (c.in_octets.ensures t)
