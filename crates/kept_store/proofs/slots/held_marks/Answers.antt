use Rattle.std.proofs.Common.{◌≡◌, ◌≤◌, ◌<◌, ℕ, List, length, take, subst, arith, rules}
use Rattle.component_package.specs.declared.manifest.Entry.{Entry}
use Rattle.kept_definitions.specs.Stored.{StoredRelease}
use Rattle.kept_definitions.specs.Kept.{held_slots}
use Rattle.kept_manifests.specs.Slots.{stored_of}
use Rattle.kept_store.specs.Slots.{AreMarked}
use Rattle.kept_store.proofs.SlotLemmas.{held_next}
use Rattle.kept_store.proofs.slots.held_marks.Goals as goal

pub loop-i-preserved : goal.loop-i-preserved
loop-i-preserved c =
    let m : StoredRelease = stored_of c.args.current.now in
    let es : List Entry = c.args.incoming.now.entries in
    let i : ℕ = c.loop-i.i in
    let room : length es ≡ 16 = search rules in
    let lt : i < c.args.incoming.now.count = c.loop-i-test.true in
    let few : c.args.incoming.now.count ≤ 16 = c.requires.incoming.count in
    let marked = c.mark_held.ensures (held_slots m (take i es)) c.loop-i.invariant in
    subst (AreMarked c.mark_held.new.taken) (held_next m es i (omega arith)) marked

pub returns : goal.returns
returns c =
    let m : StoredRelease = stored_of c.args.current.now in
    let es : List Entry = c.args.incoming.now.entries in
    let end : c.loop-i.i ≡ c.args.incoming.now.count = omega (arith, c.loop-i-test.false, c.loop-i.auto.i-end) in
    subst (λ (k : ℕ). AreMarked c.loop-i.taken (held_slots m (take k es))) end c.loop-i.invariant
