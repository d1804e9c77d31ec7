-- One page of the list of a set, while the pages before it were written.
use Rattle.std.proofs.Common.{◌≡◌, ℕ, ◌+◌, ◌*◌, ◌<◌, ◌≤◌, List, [], length, take, drop, map, get_or, refl, sym, ap, ◌∙◌, subst, arith, length-append}
use Rattle.std.specs.Prelude.{not, false, Some}
use Rattle.std.specs.List.{filter, AllByRecursion}
use Rattle.std.proofs.lemmas.List.{length-map}
use Rattle.std.proofs.lemmas.List.Filters.{length-filter_both}
use Rattle.std.proofs.lemmas.Bool.Decides.{nat_tests}
use Rattle.flash_pages.specs.State.{State, Ext, ext_pages}
use Rattle.flash_pages.specs.Board.{View}
use Rattle.avr_reloc.specs.declared.fixup.Fixup.{Fixup}
use Rattle.component_package.specs.declared.part.Site.{Site}
use Rattle.component_package.specs.packages.Component.{Component}
use Rattle.component_package.specs.link.Link.{fixup_with, sites_of}
use Rattle.component_package.specs.link.Areas.{MergedSymbol, Tells, IsEntry, area_bytes, entry_bytes, list_bytes, Lists}
use Rattle.component_package.specs.link.Pages.{address_in, in_image_order, listed}
use Rattle.layout_plan.specs.declared.plan.Plan.{Plan}
use Rattle.link_laws.proofs.Own.{list_has_room}
use Rattle.kept_store.specs.declared.set.StoredSet.{StoredSet}
use Rattle.kept_store.specs.Sets.{IsSet, HoldsSet}
use Rattle.kept_store.specs.Open.{HasRooms}
use Rattle.kept_symbols.specs.declared.table.SymbolReader.{SymbolReader}
use Rattle.kept_symbols.specs.Stored.{symbol_area, IsPlanOf}
use Rattle.kept_symbols.specs.Lookup.{KeepsSymbols}
use Rattle.kept_relocs.specs.List.{relocs_of, HasList}
use Rattle.kept_relocs.specs.Written.{OnlyList, in_pages}
use Rattle.kept_relocs.proofs.Held.{relocs_are}
use Rattle.kept_relocs.proofs.Linkable.{linkable, has_room}
use Rattle.kept_relocs.proofs.Listing.{all_left, list_page_is, rest_records, area_is_list}
use Rattle.kept_relocs.proofs.Only.{symbols_stay}
use Rattle.kept_relocs.proofs.Written.{HoldsFirst}

-- page p of the list
abbrev pub target : List Component → List MergedSymbol → ℕ → List ℕ
target set table p = get_or (in_pages 256 (list_bytes (listed set table))) p []

-- image order keeps the number
ordered_length : (xs : List Site) → length (in_image_order xs) ≡ length xs
ordered_length xs =
    omega (
      arith,
      length-append (filter (λ x. not x.reloc.in_init) xs) (filter (λ x. x.reloc.in_init) xs),
      length-filter_both {X = Site} (λ x. x.reloc.in_init) (λ x. not x.reloc.in_init) (λ x. refl) xs,
    )

-- while only the list changes, what is kept of the symbols is still theirs
pub symbols_stays : (s x : State) (r : SymbolReader) → OnlyList s x → KeepsSymbols s r → KeepsSymbols x r
symbols_stays s x r only keeps = record {
  page = λ small. let outside : ext_pages 50 305 (Ext (18 + r.page)) ≡ false = grind (arith, nat_tests) in keeps.page small ∙ sym (only.pages.page (Ext (18 + r.page)) outside);
  firsts = λ p first at rs tells. keeps.firsts p first at rs (subst (λ (b : List ℕ). Tells b rs) (symbols_stay s x only) tells);
}

pub symbols_stayed : (s x : State) (r : SymbolReader) → OnlyList s x → KeepsSymbols x r → KeepsSymbols s r
symbols_stayed s x r only keeps = record {
  page = λ small. let outside : ext_pages 50 305 (Ext (18 + r.page)) ≡ false = grind (arith, nat_tests) in keeps.page small ∙ only.pages.page (Ext (18 + r.page)) outside;
  firsts = λ p first at rs tells. keeps.firsts p first at rs (subst (λ (b : List ℕ). Tells b rs) (sym (symbols_stay s x only)) tells);
}

module _ (s : State) (set : StoredSet) (components : List Component) (plan : Plan) (is : IsSet set) (rooms : HasRooms set) (planned : IsPlanOf set plan) (few : relocs_of set ≤ 8192)
    (holds : HoldsSet s set components) (table : List MergedSymbol) (tells : Tells (symbol_area s) table) where
  pub listed_few : length (listed components table) ≤ 8192
  listed_few =
      omega (
        arith,
        few,
        length-map (in_image_order (sites_of components)) (fixup_with (address_in table) components),
        ordered_length (sites_of components),
        relocs_are s set components is rooms holds,
      )

  -- the set's list is a relocation list
  pub lists : Lists (list_bytes (listed components table)) (listed components table)
  lists = list_has_room components table (linkable s set components is holds) (has_room s set components plan is rooms holds planned) tells.symbols listed_few

  -- the next 32 records of what is to come are page p
  pub page_is : (x : State) (only : OnlyList s x) (rest : List Site) (p : ℕ) (bytes : List ℕ) → p < 256 → rest ≡ drop (32 * p) (in_image_order (sites_of components))
      → ((t : List MergedSymbol) → Tells (symbol_area x) t → AllByRecursion IsEntry (map (fixup_with (address_in t) components) rest)
      → bytes ≡ area_bytes entry_bytes 256 (take 32 (map (fixup_with (address_in t) components) rest)))
      → bytes ≡ target components table p
  page_is x only rest p bytes lt rest_is said =
      let records : map (fixup_with (address_in table) components) rest ≡ drop (32 * p) (listed components table) = rest_records components table rest (32 * p) rest_is in
      let entries : AllByRecursion IsEntry (map (fixup_with (address_in table) components) rest) =
      subst (AllByRecursion IsEntry) (sym records) (all_left IsEntry (32 * p) (listed components table) lists.entries) in
      said table (subst (λ (b : List ℕ). Tells b table) (sym (symbols_stay s x only)) tells) entries
      ∙ ap (λ (l : List Fixup). area_bytes entry_bytes 256 (take 32 l)) records ∙ sym (list_page_is p (listed components table) lt listed_few)

  -- when all pages are written the list is there
  pub list_is : (new : View) (x : State) → new.state ≡ Some x → HoldsFirst 50 256 x (target components table) → HasList new (listed components table)
  list_is new x told holds_all =
      let spelled = area_is_list x (listed components table) (new.sizes x told) listed_few holds_all in
      record { state = x; told = told; lists = record { few = lists.few; entries = lists.entries; rise = lists.rise; spelled = spelled } }
