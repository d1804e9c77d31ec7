-- The rows of the mote machine, by computing.
use Rattle.std.proofs.Common.{refl}
use Rattle.component_package.specs.mote.Page.{filled_page}
use Rattle.definition_rows.specs.MachineRows.{MachineRows}

pub machine_rows : MachineRows
unfolding filled_page
machine_rows = record {
  other_entries = refl;
  other_number = refl;
  same_manifest = refl;
  same_piece = refl;
  other_piece = refl;
  standing = refl;
  stale = refl;
  held = refl;
  none = refl;
}
