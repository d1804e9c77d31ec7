use Rattle.std.proofs.Common.{◌≡◌, ℕ, ◌<◌, length, sym, subst, rules}
use Rattle.component_store.specs.Sets.{HasRooms}
use Rattle.component_store.proofs.OpenLemmas.{is_entry}
use Rattle.component_store.proofs.PartLemmas.{fits_slot}
use Rattle.component_store.proofs.parts.reader_of.Goals as goal

pub returns-clause-low : goal.returns-clause-low
returns-clause-low c =
    let slot_room : length c.args.set.now.slots.slots ≡ 16 = search rules in
    let at = is_entry c.args.set.now.slots c.args.k c.requires.set.manifest c.room-entries.ensures.entries slot_room c.requires.component in
    subst (λ (x : ℕ). x < 32) (sym c.new.ensures.slot) at.slot

pub returns-clause-whole : goal.returns-clause-whole
returns-clause-whole c =
    let slot_room : length c.args.set.now.slots.slots ≡ 16 = search rules in
    let header_room : length c.args.set.now.headers ≡ 16 = search rules in
    let rooms : HasRooms c.args.set.now = record { entries = c.room-entries.ensures.entries; slots = slot_room; headers = header_room } in
    fits_slot c.args.set.now c.args.k c.requires.set rooms c.requires.component
