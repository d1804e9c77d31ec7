use Rattle.std.proofs.Common.{◌≡◌, ℕ, sym, ap, ◌∙◌, take, arith}
use Rattle.kept_core.proofs.Manifests.{stored_entries}
use Rattle.kept_core.proofs.frames.manifest.stored_entries.Goals as goal

pub returns : goal.returns
returns c =
    let m = c.args.m.now in
    let few = c.requires.count in
    let count : c.min-count.result ≡ m.manifest.count = omega arith in
    ap (λ (n : ℕ). take n m.manifest.entries) count ∙ sym (stored_entries m c.requires.count c.room.ensures.entries)
