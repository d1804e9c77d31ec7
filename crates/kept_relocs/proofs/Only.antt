-- What stays while the pages of the list are written.
use Rattle.std.proofs.Common.{◌≡◌, ℕ, ◌<◌, ◌≤◌, inl, inr, true, List, get_or, refl, sym, ap, ◌∙◌, subst, arith}
use Rattle.std.proofs.lemmas.Bool.Decides.{nat_tests}
use Rattle.flash_pages.specs.State.{State, Ext, MayHold, ext_pages, with_page}
use Rattle.flash_pages.proofs.Pages.{only_starts, only_programs}
use Rattle.component_package.specs.packages.Component.{Component}
use Rattle.kept_definitions.specs.Kept.{inbox_of, tables_of}
use Rattle.kept_definitions.specs.Sides.{Parts, parts_of}
use Rattle.kept_laws.specs.Held.{IsReadable}
use Rattle.kept_laws.proofs.Programs.{each_page_is_in_one_part}
use Rattle.kept_manifests.specs.Slots.{place_of}
use Rattle.kept_store.specs.declared.set.StoredSet.{StoredSet}
use Rattle.kept_store.specs.Sets.{IsComponentOf, HoldsSet}
use Rattle.kept_symbols.specs.Stored.{symbol_area}
use Rattle.kept_relocs.specs.List.{list_area}
use Rattle.kept_relocs.specs.Written.{OnlyList}

pub only_list_starts : (s : State) → OnlyList s s
only_list_starts s = record { pages = only_starts (ext_pages 50 305) s; parts = refl }

pub only_list_step : (s t y : State) (page : ℕ) (needed : State → Type 0) → 50 ≤ page → page < 306 → OnlyList s t → MayHold needed (Ext page) t y → OnlyList s y
only_list_step s t y page needed low high only (inl same) = subst (OnlyList s) (sym same) only
only_list_step s t y page needed low high only (inr spoilt) =
    let allowed : ext_pages 50 305 (Ext page) ≡ true = grind (arith, nat_tests) in
    let bytes = spoilt.1.bytes in
    let one = each_page_is_in_one_part.relocs t.prog t.ext page bytes low high in
    let area : List ℕ = list_area (with_page t (Ext page) bytes) in
    let parts : parts_of t.prog (with_page t (Ext page) bytes).ext ≡ record (parts_of s.prog s.ext) { relocs = area } =
    one ∙ ap (λ (r : List ℕ). record (parts_of t.prog t.ext) { relocs = r }) (sym (ap (λ (p : Parts). p.relocs) one)) ∙ ap (λ (p : Parts). record p { relocs = area }) only.parts in
    record {
      pages = only_programs (ext_pages 50 305) needed (Ext page) s t y only.pages allowed (inr spoilt);
      parts = subst (λ (z : State). parts_of z.prog z.ext ≡ record (parts_of s.prog s.ext) { relocs = list_area z }) (sym spoilt.1.is) parts;
    }

-- the same up to the last page of the list
pub only_list_next : (s t y : State) (page : ℕ) (needed : State → Type 0) → 50 ≤ page → page ≤ 305 → OnlyList s t → MayHold needed (Ext page) t y → OnlyList s y
only_list_next s t y page needed low high only may = only_list_step s t y page needed low (omega (arith, high)) only may

-- ---- sets

-- where program flash, tables and inbox are the same, a component is
same_parts_have : (s x : State) (set : StoredSet) (k : ℕ) (c : Component) → x.prog ≡ s.prog → tables_of x.ext ≡ tables_of s.ext → inbox_of x.ext ≡ inbox_of s.ext
    → IsComponentOf s set k c → IsComponentOf x set k c
same_parts_have s x set k c prog tables inbox own =
    let code_at : ℕ = get_or set.code_at k 0 in
    let init_at : ℕ = get_or set.init_at k 0 in
    record {
      readable = subst (λ (p : List (List ℕ)). IsReadable p (tables_of x.ext) (inbox_of x.ext) (place_of set.slots k) code_at init_at c) (sym prog) (
          subst (λ (t : List (List ℕ)). IsReadable s.prog t (inbox_of x.ext) (place_of set.slots k) code_at init_at c) (sym tables) (
          subst (λ (i : List (List ℕ)). IsReadable s.prog (tables_of s.ext) i (place_of set.slots k) code_at init_at c) (sym inbox) own.readable));
      header = own.header;
    }

-- and so is a set
pub same_parts_hold : (s x : State) (set : StoredSet) (components : List Component) → x.prog ≡ s.prog → tables_of x.ext ≡ tables_of s.ext → inbox_of x.ext ≡ inbox_of s.ext
    → HoldsSet s set components → HoldsSet x set components
same_parts_hold s x set components prog tables inbox holds = record {
  count = holds.count;
  each = λ k c here. same_parts_have s x set k c prog tables inbox (holds.each k c here);
}

-- so the set stays while only the list changes, and so do the symbols
pub set_stays : (s x : State) (set : StoredSet) (components : List Component) → OnlyList s x → HoldsSet s set components → HoldsSet x set components
set_stays s x set components only holds =
    same_parts_hold s x set components (ap (λ (p : Parts). p.prog) only.parts) (ap (λ (p : Parts). p.tables) only.parts) (ap (λ (p : Parts). p.inbox) only.parts) holds

pub symbols_stay : (s x : State) → OnlyList s x → symbol_area x ≡ symbol_area s
symbols_stay s x only = ap (λ (p : Parts). p.symbols) only.parts
