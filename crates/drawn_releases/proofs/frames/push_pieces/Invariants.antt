use Rattle.std.proofs.Common.{◌≡◌, ◌+◌, ◌-◌, ◌*◌, ◌≤◌, ◌++◌, length, drop}
use Rattle.component_package.specs.mote.Frames.{stream_of}
use Rattle.update_laws.specs.Update.{pages_of, pieces_of}
use Rattle.drawn_releases.proofs.frames.push_pieces.Given as goal

abbrev pub invariant-loop-at : goal.invariant-loop-at
invariant-loop-at l = record {
  paged : l.at ≡ 256 * l.page;
  within : l.at ≤ length l.bytes + 255;
  bytes : l.into.items ++ stream_of (pieces_of l.k l.page (pages_of (drop l.at l.bytes)) (drop l.at l.bytes)) ≡ l.initial.into.items ++ stream_of (pieces_of l.k 0 (pages_of l.bytes) l.bytes);
}

abbrev pub decreases-loop-at : goal.decreases-loop-at
decreases-loop-at l = length l.bytes - l.at
