use Rattle.std.proofs.Common.{◌≡◌, ◌*◌, length, take, drop}
use Rattle.component_package.specs.packages.Manifest.{stored_of, stored_bytes}
use Rattle.component_package.proofs.manifest.slot_page.Given as goal

abbrev pub invariant-loop-j : goal.invariant-loop-j
invariant-loop-j l = record {
  size : length l.bytes ≡ 256;
  bytes : take (64 * l.j) l.bytes ≡ take (64 * l.j) (drop (256 * l.page) (stored_bytes (stored_of l.m)));
}
