use Rattle.std.proofs.Common.{arith, ◌≡◌, ◌+◌, ◌*◌, slice_index_or}
use Rattle.std.proofs.lemmas.Grind.{common_steps}
use Rattle.kept_core.proofs.Streams.{cut_head, cut_payload, whole_frame}
use Rattle.flash_pages.proofs.Runs.{receives_then}
use Rattle.kept_core.proofs.session.Session.next_frame.Goals as goal

pub returns-then-count-lt3-clause-left : goal.returns-then-count-lt3-clause-left
returns-then-count-lt3-clause-left g c l told =
    let left = c.in-Ok-receive_all.ensures.left l told in
    let cut = cut_head c.receive_all-2.new.into _ _ c.in-Ok-receive_all.count c.if-count-eq0-2.false c.if-count-lt3.true (grind (arith, common_steps)) left.2.0 (left.2.1 (grind (arith, common_steps))) in
    (cut.0, left.0, left.1, cut.1)

pub returns-in_default-receive_all-2-clause-left : goal.returns-in_default-receive_all-2-clause-left
returns-in_default-receive_all-2-clause-left g c l told =
    let head = c.in-Ok-receive_all.ensures.left l told in
    let lost = c.in_default-receive_all-2.ensures.left head.0 head.1 in
    let size : c.from_le_bytes-length.result ≡ slice_index_or c.receive_all-2.new.into 1 0 + slice_index_or c.receive_all-2.new.into 2 0 * 256 = c.from_le_bytes-length.ensures in
    let cut = cut_payload c.receive_all-2.new.into lost.2.0 _ _ _ c.in-Ok-receive_all.count _ (grind (arith, common_steps)) c.if-count-lt3.false c.in-Ok-receive_all.ensures.bound size c.if-length-gt-PAYLOAD_BYTES.false head.2.0 (grind (arith, common_steps, lost.2.1)) lost.2.2 in
    (cut.0, lost.0, lost.1, cut.1)

pub returns-in_default-receive_all-2-clause-line : goal.returns-in_default-receive_all-2-clause-line
returns-in_default-receive_all-2-clause-line g c = receives_then _ _ _ c.receive_all-2.ensures.line c.receive_all-2.ensures.state c.receive_all-3.ensures.line

pub returns-then-came-wanted-clause-line : goal.returns-then-came-wanted-clause-line
returns-then-came-wanted-clause-line g c = receives_then _ _ _ c.receive_all-2.ensures.line c.receive_all-2.ensures.state c.receive_all-3.ensures.line

pub returns-clause-line : goal.returns-clause-line
returns-clause-line g c = receives_then _ _ _ c.receive_all-2.ensures.line c.receive_all-2.ensures.state c.receive_all-3.ensures.line

pub returns-clause-left : goal.returns-clause-left
returns-clause-left g c l told =
    let head = c.in-Ok-receive_all.ensures.left l told in
    let payload = c.in-Ok-receive_all-2.ensures.left head.0 head.1 in
    let size : c.from_le_bytes-length.result ≡ slice_index_or c.receive_all-2.new.into 1 0 + slice_index_or c.receive_all-2.new.into 2 0 * 256 = c.from_le_bytes-length.ensures in
    let frame = whole_frame c.receive_all-2.new.into c.receive_all-3.new.into _ _ _ _ c.in-Ok-receive_all.count _ c.in-Ok-receive_all-2.came (grind (arith, common_steps)) c.if-count-lt3.false c.in-Ok-receive_all.ensures.bound (omega (arith, c.if-count-lt3.element_fits.fits)) (omega (arith, c.if-count-lt3.element_fits2.fits)) (grind (arith, common_steps)) size c.if-length-gt-PAYLOAD_BYTES.false (grind (arith, common_steps)) c.are_bytes.ensures head.2.0 payload.2.0 in
    (frame.0, payload.0, payload.1, frame.1)
