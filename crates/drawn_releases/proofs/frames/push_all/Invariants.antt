use Rattle.std.proofs.Common.{◌≡◌, ◌++◌, drop}
use Rattle.component_package.specs.mote.Frames.{stream_of}
use Rattle.update_laws.specs.Update.{pieces_from}
use Rattle.drawn_releases.proofs.frames.push_all.Given as goal

abbrev pub invariant-loop-delivered : goal.invariant-loop-delivered
invariant-loop-delivered l = record {
  counted : l.k ≡ l.delivered-index;
  bytes : l.into.items ++ stream_of (pieces_from l.olds l.k (drop l.delivered-index l.news)) ≡ l.initial.into.items ++ stream_of (pieces_from l.olds 0 l.news);
}
