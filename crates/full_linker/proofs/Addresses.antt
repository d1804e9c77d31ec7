-- Addresses out of slots.
use Rattle.std.proofs.Common.{◌≡◌, ℕ, ◌+◌, ◌<◌, List, length, Some, None, sym, ap, ◌∙◌}
use Rattle.std.specs.Ordering.{nat_cmp}
use Rattle.std.specs.BTreeMap.{BTreeMap, get}
use Rattle.std.specs.Option.{option_or, option_map}
use Rattle.std.specs.List.{AllByRecursion}
use Rattle.std.proofs.lemmas.Option.{slice_get_within}
use Rattle.component_package.specs.declared.part.Export.{Export}
use Rattle.component_package.specs.packages.Component.{Component}
use Rattle.component_package.specs.packages.Grammar.{IsComponent}
use Rattle.component_package.specs.link.Link.{exports_of, definition_of, base_of_place, address_of}
use Rattle.full_linker.specs.declared.symbols.Slot.{Slot}
use Rattle.full_linker.specs.Slots.{AreSlots}
use Rattle.full_linker.proofs.Slots.{kept_is, none_kept}
use Rattle.link_laws.proofs.Table.{definition_has}
use Rattle.link_laws.proofs.Room.{IsExported, all_exported}

-- a slot's first strong export, or its first, gives the address
pub slot_defines : (set : List Component) (slots : BTreeMap ℕ Slot) (s : ℕ) (slot : Slot) → AreSlots (exports_of set) slots → get nat_cmp slots s ≡ Some slot
    → option_or slot.strong slot.first ≡ definition_of set s
slot_defines set slots s slot are e = ap (λ (z : Slot). option_or z.strong z.first) (kept_is (exports_of set) slots s slot are e)

-- without a slot there is no definition
pub undefined : (set : List Component) (slots : BTreeMap ℕ Slot) (s : ℕ) → AreSlots (exports_of set) slots → get nat_cmp slots s ≡ None → definition_of set s ≡ None
undefined set slots s are e = sym (ap (λ (z : Slot). option_or z.strong z.first) (none_kept (exports_of set) slots s are e))

-- its component is one of the set
pub exporter_inside : (set : List Component) → AllByRecursion IsComponent set → (s : ℕ) (x : ℕ × Export) → definition_of set s ≡ Some x → x.0 < length set
exporter_inside set components s x e =
    let exported = definition_has set (IsExported set) s x (all_exported set components) e in
    slice_get_within set x.0 exported.owner exported.at.here

-- a symbol without a definition has no address
pub address_none : (set : List Component) (s : ℕ) → definition_of set s ≡ None → None ≡ address_of set s
address_none set s e = sym (ap (option_map (λ x. base_of_place set x.0 x.1.place + x.1.value)) e)

-- the address is the base of the part plus the value
pub address_some : (set : List Component) (s n : ℕ) (x : ℕ × Export) → definition_of set s ≡ Some x → n ≡ base_of_place set x.0 x.1.place → Some (n + x.1.value) ≡ address_of set s
address_some set s n x e base = ap (λ k. Some (k + x.1.value)) base ∙ sym (ap (option_map (λ x. base_of_place set x.0 x.1.place + x.1.value)) e)
