use Rattle.std.proofs.Common.{◌≡◌, ◌++◌}
use Rattle.component_package.specs.mote.Frames.{stream_of}
use Rattle.update_laws.specs.Update.{pieces_of}
use Rattle.release_updates.proofs.pieces.push_pieces.Given as goal

abbrev pub invariant-loop-page : goal.invariant-loop-page
invariant-loop-page l = l.out.items ≡ l.fn.out.items ++ stream_of (pieces_of l.ordinal 0 l.page l.bytes)
