-- A stored set that a board holds, and the pages of its image.
use Rattle.std.proofs.Common.{◌≡◌, ℕ, ◌+◌, ◌-◌, ◌*◌, ◌<◌, ◌≤◌, inl, inr, ◌^◌, Bool, true, false, List, [], length, take, drop, get_or, replicate, map, Some, refl, sym, ap, ◌∙◌, subst, arith, length-append}
use Rattle.std.specs.Prelude.{nat_le, ◌&&◌}
use Rattle.std.specs.List.{flat_map}
use Rattle.std.proofs.lemmas.Bool.Decides.{nat_tests}
use Rattle.std.proofs.lemmas.List.{length-replicate, length-take-le, length-drop, get_or-take, get_or-drop, get_or_default, same_lists, take_all}
use Rattle.std.proofs.lemmas.List.FromFn.{length-map-range_with_len, get_or-map-range_with_len}
use Rattle.std.proofs.lemmas.List.Sums.{sum_by-take-le}
use Rattle.flash_pages.specs.State.{State, IsState, Ext, MayHold, page_at, with_page, ext_pages}
use Rattle.flash_pages.specs.Board.{View}
use Rattle.flash_pages.proofs.Pages.{only_starts, only_programs}
use Rattle.component_package.specs.packages.Component.{Component}
use Rattle.component_package.specs.packages.Manifest.{stored_of}
use Rattle.component_package.specs.link.Layout.{Room, room_of, code_base, load_base, code_total, init_total}
use Rattle.component_package.specs.link.Link.{rooms_of, plain_of}
use Rattle.component_package.specs.link.Areas.{Lists}
use Rattle.component_package.specs.link.Pages.{Fits, IsPatched, padded, page_in, cut}
use Rattle.component_package.specs.mote.Sides.{Parts, parts_of, pages_from}
use Rattle.component_package.specs.mote.Store.{slots_of, components_of}
use Rattle.mote_laws.proofs.Programs.{each_page_is_in_one_part}
use Rattle.layout_plan.specs.declared.plan.Plan.{Plan}
use Rattle.link_laws.proofs.Room.{plain_length}
use Rattle.component_store.specs.declared.set.StoredSet.{StoredSet}
use Rattle.component_store.specs.Sets.{IsSet, HoldsSet, HasRooms, header_at, part_of, length_of_part}
use Rattle.symbol_merge.specs.Stored.{set_in, stored_rooms, IsPlanOf}
use Rattle.reloc_table.specs.List.{list_area, KeepsList}
use Rattle.reloc_table.specs.declared.list.ListReader.{ListReader}
use Rattle.reloc_table.proofs.Held.{HasHeader, rooms_are, plan_count}
use Rattle.reloc_table.proofs.Only.{same_slots_hold}
use Rattle.reloc_table.proofs.Written.{HoldsFirst}
use Rattle.image_stage.specs.Staged.{ArePagesOf, HasStaged, OnlyStaged, staged_pages}
use Rattle.image_stage.proofs.Parts.{base_is, total_is}

-- ---- parts and bases

-- a part is as long as the header says
pub part_long : (s : State) (set : StoredSet) (k : ℕ) (c : Component) (in_init : Bool) → HasHeader s set k c → length (part_of c in_init) ≡ length_of_part (header_at set k) in_init
part_long s set k c true h = h.init
part_long s set k c false h = h.code

module _ (set : StoredSet) (p : Plan) (is : IsSet set) (rooms : HasRooms set) (plan : IsPlanOf set p) where
  rooms_count : length (stored_rooms set) ≡ set.slots.manifest.count
  rooms_count = sym plan.plan.count ∙ plan_count set p is rooms plan

  -- bases are small
  pub code_small : (k : ℕ) → k < set.slots.manifest.count → get_or p.code k 0 < 2 ^ 24
  code_small k lt =
      omega (arith, plan.plan.code k (omega (arith, lt, rooms_count)), sum_by-take-le (λ (r : Room). r.code) (stored_rooms set) k, plan.plan.code_total, plan.planned.flash)

  pub load_small : (k : ℕ) → k < set.slots.manifest.count → get_or p.load k 0 < 2 ^ 24
  load_small k lt =
      omega (arith, plan.plan.load k (omega (arith, lt, rooms_count)), sum_by-take-le (λ (r : Room). r.init) (stored_rooms set) k, plan.plan.code_total, plan.plan.init_total, plan.planned.flash)

  module _ (s : State) (holds : HoldsSet s set) where
    same_rooms : stored_rooms set ≡ rooms_of (set_in s set)
    same_rooms = sym (rooms_are s set is rooms holds)

    -- where a component's code begins
    pub code_at : (k : ℕ) → k < set.slots.manifest.count → get_or p.code k 0 ≡ length (flat_map (λ c. c.code) (take k (set_in s set)))
    code_at k lt =
        plan.plan.code k (omega (arith, lt, rooms_count)) ∙ ap (λ (rs : List Room). code_base rs k) same_rooms ∙ base_is (λ c. c.code) (λ r. r.code) (set_in s set) k (λ c. refl)

    -- and its data
    pub load_at : (k : ℕ) → k < set.slots.manifest.count → get_or p.load k 0 ≡ length (flat_map (λ c. c.code) (set_in s set)) + length (flat_map (λ c. c.init) (take k (set_in s set)))
    load_at k lt =
        plan.plan.load k (omega (arith, lt, rooms_count)) ∙ ap (λ (rs : List Room). load_base rs k) same_rooms
        ∙ omega (arith, total_is (λ c. c.code) (λ r. r.code) (set_in s set) (λ c. refl), base_is (λ c. c.init) (λ r. r.init) (set_in s set) k (λ c. refl))

    -- the set has room in flash
    pub plain_fits : length (plain_of (set_in s set)) ≤ 122880
    plain_fits =
        let code : code_total (rooms_of (set_in s set)) ≡ code_total (stored_rooms set) = ap code_total (sym same_rooms) in
        let init : init_total (rooms_of (set_in s set)) ≡ init_total (stored_rooms set) = ap init_total (sym same_rooms) in
        omega (arith, plain_length (set_in s set), code, init, plan.plan.code_total, plan.plan.init_total, plan.planned.flash)

-- ---- what stays while pages are staged

pub only_staged_starts : (s : State) → OnlyStaged s s
only_staged_starts s = record { pages = only_starts (ext_pages 306 785) s; parts = refl }

pub only_staged_next : (s t y : State) (page : ℕ) (needed : State → Type 0) → 306 ≤ page → page ≤ 785 → OnlyStaged s t → MayHold needed (Ext page) t y → OnlyStaged s y
only_staged_next s t y page needed low high only (inl same) = subst (OnlyStaged s) (sym same) only
only_staged_next s t y page needed low high only (inr spoilt) =
    let allowed : ext_pages 306 785 (Ext page) ≡ true = grind (arith, nat_tests) in
    let bytes = spoilt.1.bytes in
    let one = each_page_is_in_one_part.staged t.prog t.ext page bytes low (omega (arith, high)) in
    let area : List (List ℕ) = staged_pages (with_page t (Ext page) bytes) in
    let parts : parts_of t.prog (with_page t (Ext page) bytes).ext ≡ record (parts_of s.prog s.ext) { staged = area } =
    one ∙ ap (λ (r : List (List ℕ)). record (parts_of t.prog t.ext) { staged = r }) (sym (ap (λ (p : Parts). p.staged) one)) ∙ ap (λ (p : Parts). record p { staged = area }) only.parts in
    record {
      pages = only_programs (ext_pages 306 785) needed (Ext page) s t y only.pages allowed (inr spoilt);
      parts = subst (λ (z : State). parts_of z.prog z.ext ≡ record (parts_of s.prog s.ext) { staged = staged_pages z }) (sym spoilt.1.is) parts;
    }

-- the list's area stays, and the page of it that is kept
pub list_stays : (s x : State) → OnlyStaged s x → list_area x ≡ list_area s
list_stays s x only = ap (λ (p : Parts). p.relocs) only.parts

pub list_reader_stays : (s x : State) (r : ListReader) → OnlyStaged s x → KeepsList s r → KeepsList x r
list_reader_stays s x r only keeps small =
    let outside : ext_pages 306 785 (Ext (50 + r.page)) ≡ false = grind (arith, nat_tests) in
    keeps small ∙ sym (only.pages.page (Ext (50 + r.page)) outside)

pub list_reader_stayed : (s x : State) (r : ListReader) → OnlyStaged s x → KeepsList x r → KeepsList s r
list_reader_stayed s x r only keeps small =
    let outside : ext_pages 306 785 (Ext (50 + r.page)) ≡ false = grind (arith, nat_tests) in
    keeps small ∙ only.pages.page (Ext (50 + r.page)) outside

-- and so do the pages that are to be
pub pages_stay : (s x : State) (set : StoredSet) (pages : List (List ℕ)) → OnlyStaged s x → ArePagesOf s set pages → ArePagesOf x set pages
pages_stay s x set pages only are =
    let slots : slots_of x.ext ≡ slots_of s.ext = ap (λ (p : Parts). p.slots) only.parts in
    let same : set_in x set ≡ set_in s set = ap (λ (l : List (List ℕ)). components_of l (stored_of set.slots)) slots in
    record {
      list = are.list;
      held = same_slots_hold s x set slots are.held;
      lists = subst (λ (b : List ℕ). Lists b are.list) (sym (list_stays s x only)) are.lists;
      fits = subst (λ (S : List Component). Fits S are.list) (sym same) are.fits;
      patched = subst (λ (S : List Component). IsPatched S are.list pages) (sym same) are.patched;
    }

-- ---- pages

-- there are 480 pages
pub pages_count : (s : State) (set : StoredSet) (pages : List (List ℕ)) → ArePagesOf s set pages → length pages ≡ 480
pages_count s set pages are = ap (λ (l : List (List ℕ)). length l) are.patched.are ∙ length-map-range_with_len (page_in are.patched.whole) 0 480

-- page p of them
pub page_at_of : (s : State) (set : StoredSet) (pages : List (List ℕ)) (p : ℕ) → p < 480 → (are : ArePagesOf s set pages) → get_or pages p [] ≡ page_in are.patched.whole p
page_at_of s set pages p lt are = ap (λ (l : List (List ℕ)). get_or l p []) are.patched.are ∙ get_or-map-range_with_len (page_in are.patched.whole) 0 480 p p [] lt (omega arith)

-- patched bytes are 480 pages long
pub whole_long : (plain whole : List ℕ) → length plain ≤ 122880 → length whole ≡ length (padded plain) → length whole ≡ 122880
whole_long plain whole few size = omega (arith, few, size, length-append plain (replicate {A = ℕ} (122880 - length plain) 255), length-replicate {A = ℕ} (122880 - length plain) 255)

-- when all pages are staged the staged image is they
pub all_staged : (v : View) (x : State) (pages : List (List ℕ)) → v.state ≡ Some x → length pages ≡ 480 → HoldsFirst 306 480 x (λ p. get_or pages p []) → HasStaged v pages
all_staged v x pages told long holds =
    let sizes = v.sizes x told in
    let count : length (staged_pages x) ≡ 480 = length-take-le 480 (drop 306 x.ext) (omega (arith, length-drop 306 x.ext, sizes.ext)) in
    record {
      state = x;
      told = told;
      are = same_lists (staged_pages x) pages (omega (arith, count, long)) (λ k d lt.
          get_or_default (staged_pages x) k d [] lt ∙ get_or-take 480 (drop 306 x.ext) k [] (omega (arith, lt, count)) ∙ get_or-drop 306 x.ext k [] ∙ holds k (omega (arith, lt, count))
          ∙ get_or_default pages k [] d (omega (arith, lt, count, long)));
    }
