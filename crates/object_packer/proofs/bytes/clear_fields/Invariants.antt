use Rattle.std.proofs.Common.{◌≡◌, length, take}
use Rattle.std.specs.List.{filter}
use Rattle.object_packer.specs.Packed.{cleared, stands_in}
use Rattle.object_packer.proofs.bytes.clear_fields.Given as goal

abbrev pub invariant-loop-x : goal.invariant-loop-x
invariant-loop-x l = record {
  size : length l.bytes ≡ length l.initial.bytes;
  cleared : l.bytes ≡ cleared (filter (stands_in l.in_init) (take l.x-index l.relocs)) l.initial.bytes;
}
