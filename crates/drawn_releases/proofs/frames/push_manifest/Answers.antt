use Rattle.std.proofs.Common.{arith, ◌∙◌, ap, length}
use Rattle.drawn_releases.proofs.Pushed.{manifest_short}
use Rattle.drawn_releases.proofs.frames.push_manifest.Goals as goal

pub push_frame-requires : goal.push_frame-requires
push_frame-requires c = omega (arith, ap length (c.deref.ensures.value ∙ c.in_ok-manifest.ensures), manifest_short c.args.number c.args.news.now c.requires.few)
