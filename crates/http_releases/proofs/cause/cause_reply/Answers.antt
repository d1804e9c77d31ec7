use Rattle.std.proofs.Common.{◌+◌, [], sym, ◌∙◌, ap, Some}
use Rattle.release_rows.specs.Tables.{empty_tables}
use Rattle.release_judging.specs.Faults.{number_of_cause, cause_values}
use Rattle.release_judging.specs.declared.judged.Judged.TheVariants.{Refused}
use Rattle.http_releases.proofs.Shown.{same_refusal, says_cause}
use Rattle.http_releases.proofs.cause.cause_reply.Goals as goal

pub returns : goal.returns
returns c = λ cause named.
    same_refusal c.in_ok-refused.field-0 c.in-Refused.number (300 + number_of_cause cause) c.as_slice.result.now (cause_values cause) c.in_ok-number.field-0 c.in_ok-refused.ensures
    (c.in-Refused.is ∙ ap (Refused c.in-Refused.number) (sym c.as_slice.ensures))
    (c.in_ok-number.ensures.judged empty_tables [] [] (Some cause) (says_cause c.args.fault cause named))
