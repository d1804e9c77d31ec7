use Rattle.std.proofs.Common.{◌≡◌, ◌≤◌, ◌*◌, length, take}
use Rattle.component_package.specs.mote.Frames.{stream_of}
use Rattle.update_laws.specs.Update.{pieces_from}
use Rattle.release_updates.specs.Updates.{with_packages, parts_alone}
use Rattle.release_updates.proofs.pieces.parts_length.Given as goal

abbrev pub invariant-loop-i : goal.invariant-loop-i
invariant-loop-i l =
    (l.total ≡ length (stream_of (pieces_from (parts_alone l.olds) 0 (take l.i (with_packages l.parts l.packages)))))
    × (l.total ≤ l.i * 10179)
