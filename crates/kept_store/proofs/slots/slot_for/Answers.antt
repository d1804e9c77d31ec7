use Rattle.std.proofs.Common.{◌≡◌, ℕ, ◌+◌, ◌≤◌, ◌<◌, ◌++◌, ◌∷◌, [], Bool, List, length, take, get_or, cond, sym, ap, subst, ◌∙◌, arith, rules}
use Rattle.std.proofs.lemmas.List.{take_more, length-set}
use Rattle.component_package.specs.declared.manifest.Entry.{Entry}
use Rattle.component_package.specs.packages.Manifest.{release_of}
use Rattle.component_package.specs.packages.Reading.{list_of}
use Rattle.kept_definitions.specs.Stored.{Placed, StoredRelease, IsStored}
use Rattle.kept_definitions.specs.Kept.{held_slots, place, placed_from, slots_for}
use Rattle.kept_laws.proofs.Slots.{slots_are_found}
use Rattle.kept_manifests.specs.declared.pages.SlotManifest.{SlotManifest}
use Rattle.kept_manifests.specs.Slots.{no_entry, stored_of}
use Rattle.kept_store.specs.Slots.{AreMarked}
use Rattle.kept_store.proofs.SlotLemmas.{taken_after, taken_next, taken_push, placed_push, place_in, places_more}
use Rattle.kept_store.proofs.slots.slot_for.Goals as goal

pub loop-i-preserved : goal.loop-i-preserved
loop-i-preserved c =
    let m : StoredRelease = stored_of c.args.current.now in
    let es : List Entry = c.args.incoming.now.entries in
    let held : List ℕ = held_slots m (release_of c.args.incoming.now).entries in
    let i : ℕ = c.loop-i.i in
    let s : ℕ = c.place-spot.result.slot in
    let f : Bool = c.place-spot.result.fresh in
    let e : Entry = get_or es i no_entry in
    let t : List ℕ = taken_after m held (take i es) in
    let lt : i < c.args.incoming.now.count = c.loop-i-test.true in
    let few : c.args.incoming.now.count ≤ 16 = c.requires.incoming.count in
    let entry_room : length es ≡ 16 = search rules in
    let room : length c.loop-i.slots ≡ 16 = c.loop-i.invariant.room in
    let fresh_room : length c.loop-i.fresh ≡ 16 = c.loop-i.invariant.fresh_room in
    let more : take (i + 1) es ≡ take i es ++ e ∷ [] = take_more es i no_entry (omega arith) in
    let spot : record { entry = e; slot = s; fresh = f } ≡ place m t e = c.place-spot.ensures.spot t c.loop-i.invariant.marked in
    let next : cond f (s ∷ t) t ≡ taken_after m held (take (i + 1) es) = ap (λ (p : Placed). taken_next p t) spot ∙ sym (taken_push m held (take i es) e) ∙ ap (taken_after m held) (sym more) in
    record {
      room = length-set c.loop-i.slots i s ∙ room;
      fresh_room = length-set c.loop-i.fresh i f ∙ fresh_room;
      marked = subst (AreMarked c.mark_fresh.new.taken) next (c.mark_fresh.ensures t c.loop-i.invariant.marked);
      placed =
          places_more es c.loop-i.slots c.loop-i.fresh i s f (omega arith) (omega arith)
          ∙ ap (λ (l : List Placed). l ++ record { entry = e; slot = s; fresh = f } ∷ []) c.loop-i.invariant.placed
          ∙ ap (λ (p : Placed). placed_from m held (take i es) ++ p ∷ []) spot
          ∙ sym (placed_push m held (take i es) e)
          ∙ ap (placed_from m held) (sym more);
    }

pub returns-clause-stored : goal.returns-clause-stored
returns-clause-stored c =
    let m : StoredRelease = stored_of c.args.current.now in
    let incoming = c.args.incoming.now in
    let es : List Entry = incoming.entries in
    let n : ℕ = incoming.count in
    let held : List ℕ = held_slots m (release_of incoming).entries in
    let end : c.loop-i.i ≡ n = omega (arith, c.loop-i-test.false, c.loop-i.auto.i-end) in
    let result : SlotManifest = record { manifest = incoming; slots = c.loop-i.slots; fresh = c.loop-i.fresh } in
    let placed : (stored_of result).placed ≡ placed_from m held (take n es) =
    subst (λ (k : ℕ). list_of (place_in es c.loop-i.slots c.loop-i.fresh) k ≡ placed_from m held (take k es)) end c.loop-i.invariant.placed in
    let same : stored_of result ≡ slots_for m (release_of incoming) = ap (λ (ps : List Placed). the_release incoming.release ps) placed in
    record { count = c.requires.incoming.count; stored = subst IsStored (sym same) (slots_are_found.stored m (release_of incoming) c.requires.current.stored c.requires.incoming.release) }
  where
    the_release : ℕ → List Placed → StoredRelease
    the_release n ps = record { number = n; placed = ps }
