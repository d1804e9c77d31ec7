use Rattle.std.proofs.Common.{◌≡◌, ℕ, ◌≤◌, length, take, sym, ap, ◌∙◌, arith, rules}
use Rattle.component_store.proofs.SlotLemmas.{used_are}
use Rattle.component_store.proofs.slots.used.Goals as goal

pub returns : goal.returns
returns c =
    let m = c.args.current.now in
    let entry_room : length m.manifest.entries ≡ 16 = c.room-most.ensures.entries in
    let slot_room : length m.slots ≡ 16 = search rules in
    let few : m.manifest.count ≤ 16 = c.requires in
    let count : c.min-count.result ≡ m.manifest.count = omega (arith, c.room-most.ensures.room) in
    ap (λ (n : ℕ). take n m.slots) count ∙ sym (used_are m (omega arith) (omega arith))
