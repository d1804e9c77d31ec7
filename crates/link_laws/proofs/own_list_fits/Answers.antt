use Rattle.link_laws.proofs.Own.{own_list, own_list_fits}
use Rattle.link_laws.proofs.own_list_fits.Goals as goal

pub returns : goal.returns
returns c = record { lists = own_list; fits = own_list_fits }
