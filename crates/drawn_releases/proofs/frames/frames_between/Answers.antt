use Rattle.component_package.specs.mote.Frames.{frame_bytes}
use Rattle.std.proofs.Common.{◌∙◌, ap, List, ℕ, ◌++◌}
use Rattle.update_laws.specs.Update.{release_of_packages, bare_frame, manifest_frame, pieces_from}
use Rattle.drawn_releases.proofs.Pushed.{all_pushed}
use Rattle.drawn_releases.proofs.frames.frames_between.Goals as goal

pub returns : goal.returns
returns c = all_pushed (manifest_frame (release_of_packages c.args.number c.args.news.now)) (bare_frame 3) (bare_frame 4) (bare_frame 8) (pieces_from c.args.olds.now 0 c.args.news.now) _ _ _ _ _
    (c.in_ok-push_manifest.ensures ∙ ap (λ (x : List ℕ). x ++ frame_bytes (manifest_frame (release_of_packages c.args.number c.args.news.now))) c.new-bytes.ensures.items) c.in_ok-push_all.ensures c.in_ok-push_frame.ensures c.in_ok-push_frame-2.ensures c.in_ok-push_frame-3.ensures
