use Rattle.std.proofs.Common.{sym}
use Rattle.kept_core.proofs.Manifests.{other_length}
use Rattle.kept_core.proofs.frames.manifest.is_same_entries.Goals as goal

pub returns-then-a-b : goal.returns-then-a-b
returns-then-a-b c = sym (other_length c.args.a.now c.args.b.now c.if-a-b.true)
