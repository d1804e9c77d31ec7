-- One page of the list of a stored set, while the pages before it were written.
use Rattle.std.proofs.Common.{◌≡◌, ℕ, ◌+◌, ◌*◌, ◌<◌, ◌≤◌, List, [], length, take, drop, map, get_or, refl, sym, ap, ◌∙◌, subst, arith, length-append}
use Rattle.std.specs.Prelude.{not, false, Some}
use Rattle.std.specs.List.{filter, AllByRecursion}
use Rattle.std.proofs.lemmas.List.{length-map}
use Rattle.std.proofs.lemmas.List.Filters.{length-filter_both}
use Rattle.std.proofs.lemmas.Bool.Decides.{nat_tests}
use Rattle.flash_pages.specs.State.{State, IsState, Ext, ext_pages}
use Rattle.flash_pages.specs.Board.{View}
use Rattle.avr_reloc.specs.declared.fixup.Fixup.{Fixup}
use Rattle.component_package.specs.declared.part.Site.{Site}
use Rattle.component_package.specs.packages.Component.{Component}
use Rattle.component_package.specs.link.Link.{fixup_with, sites_of}
use Rattle.component_package.specs.link.Areas.{MergedSymbol, Tells, IsEntry, area_bytes, entry_bytes, list_bytes, Lists}
use Rattle.component_package.specs.packages.Manifest.{stored_of}
use Rattle.component_package.specs.link.Pages.{address_in, in_image_order, listed}
use Rattle.component_package.specs.mote.Store.{components_of}
use Rattle.layout_plan.specs.declared.plan.Plan.{Plan}
use Rattle.link_laws.proofs.Own.{list_has_room}
use Rattle.component_store.specs.declared.set.StoredSet.{StoredSet}
use Rattle.component_store.specs.declared.reader.SlotReader.{SlotReader}
use Rattle.component_store.specs.Reader.{Keeps}
use Rattle.component_store.specs.Sets.{IsSet, HoldsSet, HasRooms}
use Rattle.symbol_merge.specs.declared.table.SymbolReader.{SymbolReader}
use Rattle.symbol_merge.specs.Stored.{set_in, symbol_area, IsPlanOf}
use Rattle.symbol_merge.specs.Lookup.{KeepsSymbols}
use Rattle.reloc_table.specs.List.{relocs_of, HasList}
use Rattle.reloc_table.specs.Written.{OnlyList, in_pages}
use Rattle.reloc_table.proofs.Held.{relocs_are}
use Rattle.reloc_table.proofs.Linkable.{linkable, has_room}
use Rattle.reloc_table.proofs.Listing.{all_left, list_page_is, rest_records, area_is_list}
use Rattle.reloc_table.proofs.Only.{slots_stay, symbols_stay}
use Rattle.reloc_table.proofs.Written.{HoldsFirst}

-- page p of the list
abbrev pub target : List Component → List MergedSymbol → ℕ → List ℕ
target set table p = get_or (in_pages 256 (list_bytes (listed set table))) p []

-- image order keeps the number
ordered_length : (xs : List Site) → length (in_image_order xs) ≡ length xs
ordered_length xs =
    omega (
      arith,
      length-append (filter (λ x. not x.reloc.in_init) xs) (filter (λ x. x.reloc.in_init) xs),
      length-filter_both {X = Site} (λ x. x.reloc.in_init) (λ x. not x.reloc.in_init) (λ x. refl) xs,
    )

-- while only the list changes, the set stays
pub set_stays : (s x : State) (set : StoredSet) → OnlyList s x → set_in x set ≡ set_in s set
set_stays s x set only = ap (λ (slots : List (List ℕ)). components_of slots (stored_of set.slots)) (slots_stay s x only)

-- and a page of a slot that is kept is still the slot's
pub reader_stays : (s x : State) (r : SlotReader) → OnlyList s x → Keeps s r → Keeps x r
reader_stays s x r only keeps small =
    let outside : ext_pages 50 305 (Ext (786 + 39 * r.slot + r.page)) ≡ false = grind (arith, nat_tests) in
    keeps small ∙ sym (only.pages.page (Ext (786 + 39 * r.slot + r.page)) outside)

pub reader_stayed : (s x : State) (r : SlotReader) → OnlyList s x → Keeps x r → Keeps s r
reader_stayed s x r only keeps small =
    let outside : ext_pages 50 305 (Ext (786 + 39 * r.slot + r.page)) ≡ false = grind (arith, nat_tests) in
    keeps small ∙ only.pages.page (Ext (786 + 39 * r.slot + r.page)) outside

-- and so is what is kept of the symbols
pub symbols_stays : (s x : State) (r : SymbolReader) → OnlyList s x → KeepsSymbols s r → KeepsSymbols x r
symbols_stays s x r only keeps = record {
  page = λ small. let outside : ext_pages 50 305 (Ext (18 + r.page)) ≡ false = grind (arith, nat_tests) in keeps.page small ∙ sym (only.pages.page (Ext (18 + r.page)) outside);
  firsts = λ p first at rs tells. keeps.firsts p first at rs (subst (λ (b : List ℕ). Tells b rs) (symbols_stay s x only) tells);
}

pub symbols_stayed : (s x : State) (r : SymbolReader) → OnlyList s x → KeepsSymbols x r → KeepsSymbols s r
symbols_stayed s x r only keeps = record {
  page = λ small. let outside : ext_pages 50 305 (Ext (18 + r.page)) ≡ false = grind (arith, nat_tests) in keeps.page small ∙ only.pages.page (Ext (18 + r.page)) outside;
  firsts = λ p first at rs tells. keeps.firsts p first at rs (subst (λ (b : List ℕ). Tells b rs) (sym (symbols_stay s x only)) tells);
}

module _ (s : State) (sizes : IsState s) (set : StoredSet) (plan : Plan) (is : IsSet set) (rooms : HasRooms set) (planned : IsPlanOf set plan) (few : relocs_of set ≤ 8192)
    (holds : HoldsSet s set) (table : List MergedSymbol) (tells : Tells (symbol_area s) table) where
  pub listed_few : length (listed (set_in s set) table) ≤ 8192
  listed_few =
      omega (arith, few, length-map (in_image_order (sites_of (set_in s set))) (fixup_with (address_in table) (set_in s set)), ordered_length (sites_of (set_in s set)), relocs_are s set is rooms holds)

  -- the set's list is a relocation list
  pub lists : Lists (list_bytes (listed (set_in s set) table)) (listed (set_in s set) table)
  lists = list_has_room (set_in s set) table (linkable s set sizes is rooms holds) (has_room s set plan is rooms holds planned) tells.symbols listed_few

  -- the next 32 records of what is to come are page p
  pub page_is : (x : State) (only : OnlyList s x) (rest : List Component → List Site) (p : ℕ) (bytes : List ℕ) → p < 256
      → rest (set_in s set) ≡ drop (32 * p) (in_image_order (sites_of (set_in s set)))
      → ((t : List MergedSymbol) → Tells (symbol_area x) t → AllByRecursion IsEntry (map (fixup_with (address_in t) (set_in x set)) (rest (set_in x set)))
      → bytes ≡ area_bytes entry_bytes 256 (take 32 (map (fixup_with (address_in t) (set_in x set)) (rest (set_in x set)))))
      → bytes ≡ target (set_in s set) table p
  page_is x only rest p bytes lt rest_is said =
      let S = set_in s set in
      let here : AllByRecursion IsEntry (map (fixup_with (address_in table) S) (rest S)) → bytes ≡ area_bytes entry_bytes 256 (take 32 (map (fixup_with (address_in table) S) (rest S))) =
      subst (λ (T : List Component). AllByRecursion IsEntry (map (fixup_with (address_in table) T) (rest T)) → bytes ≡ area_bytes entry_bytes 256 (take 32 (map (fixup_with (address_in table) T) (rest T))))
      (set_stays s x set only) (said table (subst (λ (b : List ℕ). Tells b table) (sym (symbols_stay s x only)) tells)) in
      let records : map (fixup_with (address_in table) S) (rest S) ≡ drop (32 * p) (listed S table) = rest_records S table (rest S) (32 * p) rest_is in
      let entries : AllByRecursion IsEntry (map (fixup_with (address_in table) S) (rest S)) = subst (AllByRecursion IsEntry) (sym records) (all_left IsEntry (32 * p) (listed S table) lists.entries) in
      here entries ∙ ap (λ (l : List Fixup). area_bytes entry_bytes 256 (take 32 l)) records ∙ sym (list_page_is p (listed S table) lt listed_few)

  -- when all pages are written the list is there
  pub list_is : (new : View) (x : State) → new.state ≡ Some x → HoldsFirst 50 256 x (target (set_in s set) table) → HasList new (listed (set_in s set) table)
  list_is new x told holds_all =
      let spelled = area_is_list x (listed (set_in s set) table) (new.sizes x told) listed_few holds_all in
      record { state = x; told = told; lists = record { few = lists.few; entries = lists.entries; rise = lists.rise; spelled = spelled } }
