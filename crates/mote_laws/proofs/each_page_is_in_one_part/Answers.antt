use Rattle.mote_laws.proofs.Programs.{each_page_is_in_one_part}
use Rattle.mote_laws.proofs.each_page_is_in_one_part.Goals as goal

pub returns : goal.returns
returns c = each_page_is_in_one_part
