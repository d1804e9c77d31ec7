use Rattle.std.proofs.Common.{◌≡◌, ℕ, None, [], length, take, get_or, sym, ap, subst, ◌∙◌, arith, rules, add-one}
use Rattle.std.specs.Prelude.{find}
use Rattle.std.specs.Option.{option_map}
use Rattle.std.proofs.lemmas.List.{take_all}
use Rattle.component_package.specs.declared.manifest.Entry.{Entry}
use Rattle.component_package.specs.packages.Manifest.{Placed, stored_of}
use Rattle.component_package.specs.mote.Store.{is_same_entry}
use Rattle.component_package.proofs.StoredLemmas.{pair_at, the_placed}
use Rattle.component_store.proofs.SlotLemmas.{find_at, find_more, pairs_at_most}
use Rattle.component_store.proofs.slots.held_slot.Goals as goal

abbrev none : Entry
none = record { component = 0; version = 0; length = 0; digest = [] }

pub returns-then-is_same_entry : goal.returns-then-is_same_entry
returns-then-is_same_entry c =
    let m = c.args.current.now in
    let i : ℕ = c.loop-i.i in
    let room : length m.manifest.entries ≡ 16 = search rules in
    let slot_room : length m.slots ≡ 16 = search rules in
    let here = pair_at (λ x. the_placed x) m.manifest.entries m.slots m.manifest.count i none 0 c.loop-i-test.true (omega arith) (omega arith) in
    let found = find_at (λ (p : Placed). is_same_entry p.entry c.args.e.now) (stored_of m).placed i (the_placed (get_or m.manifest.entries i none, get_or m.slots i 0)) c.loop-i.invariant here (sym c.is_same_entry.ensures ∙ c.if-is_same_entry.true) in
    sym (ap (option_map (λ (p : Placed). p.slot)) found)

pub loop-i-preserved : goal.loop-i-preserved
loop-i-preserved c =
    let m = c.args.current.now in
    let i : ℕ = c.loop-i.i in
    let room : length m.manifest.entries ≡ 16 = search rules in
    let slot_room : length m.slots ≡ 16 = search rules in
    let here = pair_at (λ x. the_placed x) m.manifest.entries m.slots m.manifest.count i none 0 c.loop-i-test.true (omega arith) (omega arith) in
    let more = find_more (λ (p : Placed). is_same_entry p.entry c.args.e.now) (stored_of m).placed i (the_placed (get_or m.manifest.entries i none, get_or m.slots i 0)) c.loop-i.invariant here (sym c.is_same_entry.ensures ∙ c.if-is_same_entry.false) in
    subst (λ (k : ℕ). find (λ (p : Placed). is_same_entry p.entry c.args.e.now) (take k (stored_of m).placed) ≡ None) (sym (add-one i)) more

pub returns : goal.returns
returns c =
    let m = c.args.current.now in
    let count = pairs_at_most m.manifest.entries m.slots m.manifest.count in
    let all : take c.loop-i.i (stored_of m).placed ≡ (stored_of m).placed = take_all c.loop-i.i (stored_of m).placed (omega (arith, count, c.loop-i-test.false)) in
    sym (ap (option_map (λ (p : Placed). p.slot)) (sym (ap (find (λ (p : Placed). is_same_entry p.entry c.args.e.now)) all) ∙ c.loop-i.invariant))
