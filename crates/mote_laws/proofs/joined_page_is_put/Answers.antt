use Rattle.mote_laws.proofs.Programs.{joined_page_is_put}
use Rattle.mote_laws.proofs.joined_page_is_put.Goals as goal

pub returns : goal.returns
returns c = joined_page_is_put
