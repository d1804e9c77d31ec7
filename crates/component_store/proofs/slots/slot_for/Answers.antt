use Rattle.std.proofs.Common.{◌≡◌, ℕ, ◌≤◌, ◌<◌, ◌++◌, ◌∷◌, [], List, length, take, get_or, map, sym, ap, subst, ◌∙◌, arith, rules}
use Rattle.std.specs.List.{zip}
use Rattle.std.proofs.lemmas.List.{take_more_set, take_more, length-set}
use Rattle.component_package.specs.declared.manifest.Entry.{Entry}
use Rattle.component_package.specs.declared.manifest.SlotManifest.{SlotManifest}
use Rattle.component_package.specs.packages.Manifest.{Placed, StoredRelease, IsStored, stored_of, release_of}
use Rattle.component_package.specs.mote.Store.{placed_from, slots_for}
use Rattle.component_package.proofs.StoredLemmas.{the_placed}
use Rattle.mote_laws.proofs.Slots.{slots_are_found}
use Rattle.component_store.specs.Slots.{used_slots}
use Rattle.component_store.proofs.SlotLemmas.{next_slot, pairs_again}
use Rattle.component_store.proofs.slots.slot_for.Goals as goal

abbrev none : Entry
none = record { component = 0; version = 0; length = 0; digest = [] }

pub loop-i-preserved : goal.loop-i-preserved
loop-i-preserved c =
    let m : StoredRelease = stored_of c.args.current.now in
    let used : List ℕ = used_slots c.args.current.now in
    let es : List Entry = c.args.incoming.now.entries in
    let i : ℕ = c.loop-i.i in
    let slot : ℕ = c.place-slot.result in
    let lt : i < c.args.incoming.now.count = c.loop-i-test.true in
    let few : c.args.incoming.now.count ≤ 16 = c.requires.incoming.count in
    let room : length c.loop-i.slots ≡ 16 = c.loop-i.invariant.room in
    let entry_room : length es ≡ 16 = search rules in
    let next = next_slot m used (take i c.loop-i.slots) (take i es) (get_or es i none) c.loop-i.invariant.given in
    record {
      room = length-set c.loop-i.slots i slot ∙ room;
      given =
          take_more_set c.loop-i.slots i slot (omega arith)
          ∙ ap (λ (k : ℕ). take i c.loop-i.slots ++ k ∷ []) c.place-slot.ensures
          ∙ sym next
          ∙ ap (λ (l : List Entry). map (λ p. p.slot) (placed_from m used l)) (sym (take_more es i none (omega arith)));
    }

pub returns : goal.returns
returns c =
    let m : StoredRelease = stored_of c.args.current.now in
    let used : List ℕ = used_slots c.args.current.now in
    let incoming = c.args.incoming.now in
    let es : List Entry = incoming.entries in
    let n : ℕ = incoming.count in
    let end : c.loop-i.i ≡ n = omega (arith, c.loop-i-test.false, c.loop-i.auto.i-end) in
    let result : SlotManifest = record { manifest = incoming; slots = c.loop-i.slots } in
    let given : take n c.loop-i.slots ≡ map (λ p. p.slot) (placed_from m used (take n es)) = subst (λ (k : ℕ). take k c.loop-i.slots ≡ map (λ p. p.slot) (placed_from m used (take k es))) end c.loop-i.invariant.given in
    let placed : (stored_of result).placed ≡ placed_from m used (take n es) =
    ap (λ (l : List ℕ). map (λ x. the_placed x) (zip (take n es) l)) given ∙ pairs_again m used (take n es) in
    let same : stored_of result ≡ slots_for m (release_of incoming) = ap (λ (ps : List Placed). the_release incoming.release ps) placed in
    record {
      slots = same;
      stored = record { count = c.requires.incoming.count; stored = subst IsStored (sym same) (slots_are_found.stored m (release_of incoming) c.requires.current.stored c.requires.incoming.release) };
    }
  where
    the_release : ℕ → List Placed → StoredRelease
    the_release n ps = record { number = n; placed = ps }
