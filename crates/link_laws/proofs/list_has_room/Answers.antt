use Rattle.link_laws.proofs.Own.{list_has_room}
use Rattle.link_laws.proofs.list_has_room.Goals as goal

pub returns : goal.returns
returns c = list_has_room
