-- What stays while the pages of the list are written.
use Rattle.std.proofs.Common.{◌≡◌, ℕ, ◌<◌, ◌≤◌, inl, inr, true, List, refl, sym, ap, ◌∙◌, subst, arith}
use Rattle.std.proofs.lemmas.Bool.Decides.{nat_tests}
use Rattle.flash_pages.specs.State.{State, Ext, MayHold, ext_pages, with_page}
use Rattle.flash_pages.proofs.Pages.{only_starts, only_programs}
use Rattle.component_package.specs.mote.Sides.{Parts, parts_of}
use Rattle.component_package.specs.mote.Store.{slots_of, set_fault}
use Rattle.component_package.specs.packages.Manifest.{stored_of}
use Rattle.mote_laws.proofs.Programs.{each_page_is_in_one_part}
use Rattle.component_store.specs.declared.set.StoredSet.{StoredSet}
use Rattle.component_store.specs.Sets.{HoldsSet, HasHeaders}
use Rattle.symbol_merge.specs.Stored.{symbol_area}
use Rattle.reloc_table.specs.List.{list_area}
use Rattle.reloc_table.specs.Written.{OnlyList}

pub only_list_starts : (s : State) → OnlyList s s
only_list_starts s = record { pages = only_starts (ext_pages 50 305) s; parts = refl }

pub only_list_step : (s t y : State) (page : ℕ) (needed : State → Type 0) → 50 ≤ page → page < 306 → OnlyList s t → MayHold needed (Ext page) t y → OnlyList s y
only_list_step s t y page needed low high only (inl same) = subst (OnlyList s) (sym same) only
only_list_step s t y page needed low high only (inr spoilt) =
    let allowed : ext_pages 50 305 (Ext page) ≡ true = grind (arith, nat_tests) in
    let bytes = spoilt.1.bytes in
    let one = each_page_is_in_one_part.relocs t.prog t.ext page bytes low high in
    let area : List ℕ = list_area (with_page t (Ext page) bytes) in
    let parts : parts_of t.prog (with_page t (Ext page) bytes).ext ≡ record (parts_of s.prog s.ext) { relocs = area } =
    one ∙ ap (λ (r : List ℕ). record (parts_of t.prog t.ext) { relocs = r }) (sym (ap (λ (p : Parts). p.relocs) one)) ∙ ap (λ (p : Parts). record p { relocs = area }) only.parts in
    record {
      pages = only_programs (ext_pages 50 305) needed (Ext page) s t y only.pages allowed (inr spoilt);
      parts = subst (λ (z : State). parts_of z.prog z.ext ≡ record (parts_of s.prog s.ext) { relocs = list_area z }) (sym spoilt.1.is) parts;
    }

-- slots that are the same hold the same set
pub same_slots_hold : (s x : State) (set : StoredSet) → slots_of x.ext ≡ slots_of s.ext → HoldsSet s set → HoldsSet x set
same_slots_hold s x set same holds = record {
  whole = ap (λ (slots : List (List ℕ)). set_fault slots (stored_of set.slots)) same ∙ holds.whole;
  headers = subst (λ (slots : List (List ℕ)). HasHeaders slots (stored_of set.slots) set.slots.manifest.count set.headers) (sym same) holds.headers;
}

-- so the set stays while only the list changes, and so do the symbols
pub slots_stay : (s x : State) → OnlyList s x → slots_of x.ext ≡ slots_of s.ext
slots_stay s x only = ap (λ (p : Parts). p.slots) only.parts

pub symbols_stay : (s x : State) → OnlyList s x → symbol_area x ≡ symbol_area s
symbols_stay s x only = ap (λ (p : Parts). p.symbols) only.parts

-- the same up to the last page of the list
pub only_list_next : (s t y : State) (page : ℕ) (needed : State → Type 0) → 50 ≤ page → page ≤ 305 → OnlyList s t → MayHold needed (Ext page) t y → OnlyList s y
only_list_next s t y page needed low high only may = only_list_step s t y page needed low (omega (arith, high)) only may
