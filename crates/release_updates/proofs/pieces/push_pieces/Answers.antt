use Rattle.std.proofs.Common.{◌≡◌, ◌≤◌, ◌*◌, ◌++◌, ℕ, length, List, take, drop, ap, ◌∙◌, arith}
use Rattle.std.proofs.lemmas.List.{length-take}
use Rattle.component_package.specs.mote.Frames.{frame_bytes}
use Rattle.update_laws.specs.Update.{piece_frame}
use Rattle.release_updates.proofs.Sent.{page_sent}
use Rattle.release_updates.proofs.pieces.push_pieces.Goals as goal

pub push_piece-requires : goal.push_piece-requires
push_piece-requires c =
    let rest : List ℕ = drop (256 * c.loop-page.page) c.args.bytes.now in
    omega (arith, ap (λ (b : List ℕ). length b) c.page_of.ensures, length-take 256 rest)

pub loop-page-preserved : goal.loop-page-preserved
loop-page-preserved c =
    page_sent c.args.out.now.items c.loop-page.out.items c.push_piece.new.out.items c.args.ordinal c.loop-page.page c.args.bytes.now c.loop-page.invariant
    (c.in_ok-push_piece.ensures ∙ ap (λ (b : List ℕ). c.loop-page.out.items ++ frame_bytes (piece_frame c.args.ordinal c.loop-page.page b)) c.page_of.ensures)
