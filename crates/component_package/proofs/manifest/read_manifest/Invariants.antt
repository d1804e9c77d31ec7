use Rattle.std.proofs.Common.{◌≡◌, None, length, take}
use Rattle.component_package.specs.packages.Reading.{first_fault, list_of}
use Rattle.component_package.specs.packages.Manifest.{manifest_entry, entry_fault}
use Rattle.component_package.proofs.manifest.read_manifest.Given as goal

abbrev pub invariant-loop-i : goal.invariant-loop-i
invariant-loop-i l = record {
  room : length l.entries ≡ 16;
  read : take l.i l.entries ≡ list_of (manifest_entry l.bytes) l.i;
  none : first_fault (entry_fault l.bytes) l.i ≡ None;
}
