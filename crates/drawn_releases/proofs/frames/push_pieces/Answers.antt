use Rattle.std.proofs.Common.{arith, ◌∙◌, ap, ℕ, ◌++◌}
use Rattle.std.specs.Prelude.{slice_range}
use Rattle.component_package.specs.mote.Frames.{frame_bytes}
use Rattle.update_laws.specs.Update.{piece_frame}
use Rattle.drawn_releases.proofs.Pushed.{pieces_on}
use Rattle.drawn_releases.proofs.frames.push_pieces.Goals as goal

pub loop-at-preserved : goal.loop-at-preserved
loop-at-preserved c = record {
  paged = omega (arith, c.loop-at.invariant.paged);
  within = omega (arith, c.loop-at-test.true);
  bytes = pieces_on c.args.k c.loop-at.page c.loop-at.at c.args.bytes.now c.loop-at.into.items _ _ c.loop-at-test.true
      (c.in_ok-push_piece.ensures ∙ ap (λ (n : ℕ). c.loop-at.into.items ++ frame_bytes (piece_frame c.args.k c.loop-at.page (slice_range c.args.bytes.now c.loop-at.at n))) c.min-end.ensures)
      c.loop-at.invariant.bytes;
}
