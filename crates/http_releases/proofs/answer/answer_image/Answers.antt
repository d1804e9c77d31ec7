use Rattle.release_judging.specs.Images.{packages_of_release}
use Rattle.http_releases.specs.Replies.{with_tables}
use Rattle.http_releases.proofs.Founds.{image_found, image_missing, image_refused}
use Rattle.http_releases.proofs.answer.answer_image.Goals as goal

pub returns-in-Image-clause-answer : goal.returns-in-Image-clause-answer
returns-in-Image-clause-answer g c = λ t told.
    image_found (packages_of_release t c.args.mote.now c.args.number) c.in_ok-answer.answer c.in-Image.image (with_tables c.in_octets.result t) t c.in-Image.is (c.in_ok-answer.ensures.image t told) (c.in_octets.ensures t)

pub returns-in_ok-missing-in-NoRow-clause-answer : goal.returns-in_ok-missing-in-NoRow-clause-answer
returns-in_ok-missing-in-NoRow-clause-answer g c = λ t told.
    image_missing (packages_of_release t c.args.mote.now c.args.number) c.in_ok-answer.answer (with_tables c.in_ok-missing-in-NoRow.field-0 t) t c.in-NoRow.is (c.in_ok-answer.ensures.image t told) (c.in_ok-missing-in-NoRow.ensures t)

pub returns-in_ok-cause_reply-in-Cause-clause-answer : goal.returns-in_ok-cause_reply-in-Cause-clause-answer
returns-in_ok-cause_reply-in-Cause-clause-answer g c = λ t told.
    image_refused (packages_of_release t c.args.mote.now c.args.number) c.in_ok-answer.answer c.in-Cause.fault (with_tables c.in_ok-cause_reply-in-Cause.field-0 t) t c.in-Cause.is (c.in_ok-answer.ensures.image t told) c.in_ok-answer.ensures.cause
    (λ cause named. c.in_ok-cause_reply-in-Cause.ensures cause named t)
