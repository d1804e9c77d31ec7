use Rattle.server_words.proofs.Offered.{number_given, no_fault, is_answered}
use Rattle.server_words.proofs.server_matches.Goals as goal

pub returns-in-Ok-try_get_matches_from-clause-answer : goal.returns-in-Ok-try_get_matches_from-clause-answer
returns-in-Ok-try_get_matches_from-clause-answer g c =
    no_fault c.in-Ok.command _ c.in-Ok.ensures.app c.in-Ok-try_get_matches_from.ensures.kinds

pub returns-in-Ok-try_get_matches_from-clause-number : goal.returns-in-Ok-try_get_matches_from-clause-number
returns-in-Ok-try_get_matches_from-clause-number g c =
    number_given c.in-Ok.command c.in-Ok-try_get_matches_from.matches c.in-Ok.ensures.offers c.in-Ok-try_get_matches_from.ensures.parsed

pub returns-in-Err-clause-answer : goal.returns-in-Err-clause-answer
returns-in-Err-clause-answer g c =
    is_answered c.in-Ok.command _ c.in-Err.error c.fault_from.result c.in-Ok.ensures.app c.in-Err.ensures.kinds c.fault_from.ensures
