use Rattle.std.proofs.Common.{◌≡◌, ◌++◌, take}
use Rattle.component_package.specs.mote.Frames.{stream_of}
use Rattle.update_laws.specs.Update.{pieces_from}
use Rattle.release_updates.specs.Updates.{with_packages, parts_alone}
use Rattle.release_updates.proofs.pieces.push_parts.Given as goal

abbrev pub invariant-loop-i : goal.invariant-loop-i
invariant-loop-i l = l.out.items ≡ l.fn.out.items ++ stream_of (pieces_from (parts_alone l.olds) 0 (take l.i (with_packages l.parts l.packages)))
