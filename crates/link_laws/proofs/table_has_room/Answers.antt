use Rattle.link_laws.proofs.Room.{table_has_room}
use Rattle.link_laws.proofs.table_has_room.Goals as goal

pub returns : goal.returns
returns c = table_has_room
