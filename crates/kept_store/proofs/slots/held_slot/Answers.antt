use Rattle.std.proofs.Common.{◌≡◌, ℕ, ◌<◌, None, take, sym, ap, subst, ◌∙◌, arith, add-one}
use Rattle.std.specs.Prelude.{find}
use Rattle.std.specs.Option.{option_map}
use Rattle.std.proofs.lemmas.List.{take_all}
use Rattle.component_package.specs.mote.Store.{is_same_entry}
use Rattle.component_package.proofs.Lists.{all_at, length-list_of, slice_get-list_of}
use Rattle.component_store.proofs.SlotLemmas.{find_at, find_more}
use Rattle.kept_definitions.specs.Stored.{Placed}
use Rattle.kept_manifests.specs.Slots.{place_of, stored_of}
use Rattle.kept_store.proofs.slots.held_slot.Goals as goal

pub returns-then-is_same_entry-clause-slot : goal.returns-then-is_same_entry-clause-slot
returns-then-is_same_entry-clause-slot c =
    let m = c.args.current.now in
    let i : ℕ = c.loop-i.i in
    let here = slice_get-list_of (place_of m) m.manifest.count i c.loop-i-test.true in
    let found = find_at (λ (p : Placed). is_same_entry p.entry c.args.e.now) (stored_of m).placed i (place_of m i) c.loop-i.invariant here (sym c.is_same_entry.ensures ∙ c.if-is_same_entry.true) in
    sym (ap (option_map (λ (p : Placed). p.slot)) found)

pub returns-then-is_same_entry-clause-low : goal.returns-then-is_same_entry-clause-low
returns-then-is_same_entry-clause-low c =
    let m = c.args.current.now in
    let i : ℕ = c.loop-i.i in
    all_at (λ (p : Placed). p.slot < 16) (stored_of m).placed i (place_of m i) c.requires.stored.slots (slice_get-list_of (place_of m) m.manifest.count i c.loop-i-test.true)

pub loop-i-preserved : goal.loop-i-preserved
loop-i-preserved c =
    let m = c.args.current.now in
    let i : ℕ = c.loop-i.i in
    let here = slice_get-list_of (place_of m) m.manifest.count i c.loop-i-test.true in
    let more = find_more (λ (p : Placed). is_same_entry p.entry c.args.e.now) (stored_of m).placed i (place_of m i) c.loop-i.invariant here (sym c.is_same_entry.ensures ∙ c.if-is_same_entry.false) in
    subst (λ (k : ℕ). find (λ (p : Placed). is_same_entry p.entry c.args.e.now) (take k (stored_of m).placed) ≡ None) (sym (add-one i)) more

pub returns-clause-slot : goal.returns-clause-slot
returns-clause-slot c =
    let m = c.args.current.now in
    let count = length-list_of (place_of m) m.manifest.count in
    let all : take c.loop-i.i (stored_of m).placed ≡ (stored_of m).placed = take_all c.loop-i.i (stored_of m).placed (omega (arith, count, c.loop-i-test.false)) in
    sym (ap (option_map (λ (p : Placed). p.slot)) (sym (ap (find (λ (p : Placed). is_same_entry p.entry c.args.e.now)) all) ∙ c.loop-i.invariant))
