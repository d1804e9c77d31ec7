use Rattle.link_laws.proofs.Own.{pages_exist, pages_one}
use Rattle.link_laws.proofs.fitting_list_has_pages.Goals as goal

pub returns : goal.returns
returns c = record { exist = pages_exist; one = pages_one }
