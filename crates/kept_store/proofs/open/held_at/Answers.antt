use Rattle.std.proofs.Common.{◌≡◌, ℕ, None, take, sym, ap, subst, ◌∙◌, arith, add-one}
use Rattle.std.specs.Prelude.{find}
use Rattle.std.specs.Option.{option_map}
use Rattle.std.proofs.lemmas.List.{take_all}
use Rattle.component_package.specs.mote.Store.{is_same_entry}
use Rattle.component_package.proofs.Lists.{length-list_of}
use Rattle.component_store.proofs.SlotLemmas.{find_more}
use Rattle.kept_definitions.specs.Stored.{Placed}
use Rattle.kept_manifests.specs.Slots.{place_of, stored_of}
use Rattle.kept_store.proofs.OpenLemmas.{entry_here}
use Rattle.kept_store.proofs.open.held_at.Goals as goal

pub loop-j-preserved : goal.loop-j-preserved
loop-j-preserved c =
    let m = c.args.current.now in
    let j : ℕ = c.loop-j.j in
    let here = entry_here m j c.loop-j-test.true in
    let more = find_more (λ (p : Placed). is_same_entry p.entry c.args.e.now) (stored_of m).placed j (place_of m j) c.loop-j.invariant here (sym c.is_same_entry.ensures ∙ c.if-is_same_entry.false) in
    subst (λ (k : ℕ). find (λ (p : Placed). is_same_entry p.entry c.args.e.now) (take k (stored_of m).placed) ≡ None) (sym (add-one j)) more

pub returns-clause-none : goal.returns-clause-none
returns-clause-none c =
    let m = c.args.current.now in
    let count = length-list_of (place_of m) m.manifest.count in
    let all : take c.loop-j.j (stored_of m).placed ≡ (stored_of m).placed = take_all c.loop-j.j (stored_of m).placed (omega (arith, count, c.loop-j-test.false)) in
    ap (option_map (λ (p : Placed). p.slot)) (sym (ap (find (λ (p : Placed). is_same_entry p.entry c.args.e.now)) all) ∙ c.loop-j.invariant)
