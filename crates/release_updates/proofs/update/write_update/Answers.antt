use Rattle.std.proofs.Common.{◌++◌, ℕ, List, ap, ◌∙◌}
use Rattle.component_package.specs.mote.Frames.{frame_bytes}
use Rattle.component_package.specs.packages.Manifest.{Release, release_of}
use Rattle.update_laws.specs.Update.{manifest_frame}
use Rattle.release_updates.specs.Updates.{with_packages, parts_alone}
use Rattle.release_updates.proofs.Sent.{sent_is}
use Rattle.release_updates.proofs.update.write_update.Goals as goal

pub returns : goal.returns
returns c =
    let release : Release = release_of c.manifest_of.result in
    c.of.ensures
    ∙ sent_is c.args._have c.args.last (parts_alone c.args.olds.now) (with_packages c.args.parts.now c.args.packages.now) release
    c.push_manifest.new.out.items c.push_parts.new.out.items c.push_last.new.out.items c.requires.lower c.manifest_of.ensures.release
    (c.in_ok-push_manifest.ensures ∙ ap (λ (x : List ℕ). x ++ frame_bytes (manifest_frame release)) (c.reserve.ensures.items ∙ c.new-out.ensures.items))
    c.in_ok-push_parts.ensures c.in_ok-push_last.ensures
