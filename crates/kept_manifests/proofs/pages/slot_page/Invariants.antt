use Rattle.std.proofs.Common.{◌≡◌, ◌*◌, length, take, drop}
use Rattle.kept_definitions.specs.Stored.{stored_bytes}
use Rattle.kept_manifests.specs.Slots.{stored_of}
use Rattle.kept_manifests.proofs.pages.slot_page.Given as goal

abbrev pub invariant-loop-j : goal.invariant-loop-j
invariant-loop-j l = record {
  size : length l.bytes ≡ 256;
  bytes : take (64 * l.j) l.bytes ≡ take (64 * l.j) (drop (256 * l.page) (stored_bytes (stored_of l.m)));
}
