-- A set that a board holds, and the pages of its image.
use Rattle.std.proofs.Common.{◌≡◌, ℕ, ◌+◌, ◌-◌, ◌<◌, ◌≤◌, inl, inr, ◌^◌, Bool, true, false, Some, List, [], length, take, drop, get_or, replicate, refl, sym, ap, ◌∙◌, subst, arith, length-append}
use Rattle.std.specs.List.{flat_map}
use Rattle.std.proofs.lemmas.Bool.Decides.{nat_tests}
use Rattle.std.proofs.lemmas.List.{length-replicate, length-take-le, length-drop, get_or-take, get_or-drop, get_or_default, same_lists}
use Rattle.std.proofs.lemmas.List.FromFn.{length-map-range_with_len, get_or-map-range_with_len}
use Rattle.std.proofs.lemmas.List.Sums.{sum_by-take-le}
use Rattle.flash_pages.specs.State.{State, Ext, MayHold, with_page, ext_pages}
use Rattle.flash_pages.specs.Board.{View}
use Rattle.flash_pages.proofs.Pages.{only_starts, only_programs}
use Rattle.component_package.specs.declared.part.Header.{Header}
use Rattle.component_package.specs.packages.Component.{Component}
use Rattle.component_package.specs.link.Layout.{Room, code_base, load_base, code_total, init_total}
use Rattle.component_package.specs.link.Link.{rooms_of, plain_of}
use Rattle.component_package.specs.link.Areas.{Lists}
use Rattle.component_package.specs.link.Pages.{padded, page_in}
use Rattle.component_store.specs.Sets.{part_of, length_of_part}
use Rattle.kept_definitions.specs.Sides.{Parts, parts_of}
use Rattle.kept_laws.proofs.Programs.{each_page_is_in_one_part}
use Rattle.layout_plan.specs.declared.plan.Plan.{Plan}
use Rattle.link_laws.proofs.Room.{plain_length}
use Rattle.kept_store.specs.declared.set.StoredSet.{StoredSet}
use Rattle.kept_store.specs.Sets.{IsSet, HoldsSet, IsComponentOf, header_at}
use Rattle.kept_store.specs.Open.{HasRooms}
use Rattle.kept_symbols.specs.Stored.{stored_rooms, IsPlanOf}
use Rattle.kept_relocs.specs.List.{list_area, KeepsList}
use Rattle.kept_relocs.specs.declared.list.ListReader.{ListReader}
use Rattle.kept_relocs.proofs.Held.{rooms_are, plan_count}
use Rattle.kept_relocs.proofs.Only.{same_parts_hold}
use Rattle.kept_relocs.proofs.Written.{HoldsFirst}
use Rattle.kept_stage.specs.Staged.{ArePagesOf, HasStaged, OnlyStaged, staged_pages}
use Rattle.kept_stage.proofs.Parts.{base_is, total_is}

-- ---- parts and bases

-- a part is as long as the header says
pub part_long : (s : State) (set : StoredSet) (k : ℕ) (c : Component) (in_init : Bool) → IsComponentOf s set k c → length (part_of c in_init) ≡ length_of_part (header_at set k) in_init
part_long s set k c true is = ap (λ (h : Header). h.init) (sym is.header)
part_long s set k c false is = ap (λ (h : Header). h.code) (sym is.header)

module _ (set : StoredSet) (p : Plan) (is : IsSet set) (rooms : HasRooms set) (plan : IsPlanOf set p) where
  rooms_count : length (stored_rooms set) ≡ set.slots.manifest.count
  rooms_count = sym plan.plan.count ∙ plan_count set p is rooms plan

  -- bases are small
  pub code_small : (k : ℕ) → k < set.slots.manifest.count → get_or p.code k 0 < 2 ^ 24
  code_small k lt =
      omega (arith, plan.plan.code k (omega (arith, lt, rooms_count)), sum_by-take-le (λ (r : Room). r.code) (stored_rooms set) k, plan.plan.code_total, plan.planned.flash)

  pub load_small : (k : ℕ) → k < set.slots.manifest.count → get_or p.load k 0 < 2 ^ 24
  load_small k lt =
      omega (arith, plan.plan.load k (omega (arith, lt, rooms_count)), sum_by-take-le (λ (r : Room). r.init) (stored_rooms set) k, plan.plan.code_total, plan.plan.init_total, plan.planned.flash)

  module _ (s : State) (components : List Component) (holds : HoldsSet s set components) where
    same_rooms : stored_rooms set ≡ rooms_of components
    same_rooms = sym (rooms_are s set components is rooms holds)

    -- where a component's code begins
    pub code_at : (k : ℕ) → k < set.slots.manifest.count → get_or p.code k 0 ≡ length (flat_map (λ c. c.code) (take k components))
    code_at k lt =
        plan.plan.code k (omega (arith, lt, rooms_count)) ∙ ap (λ (rs : List Room). code_base rs k) same_rooms ∙ base_is (λ c. c.code) (λ r. r.code) components k (λ c. refl)

    -- and its data
    pub load_at : (k : ℕ) → k < set.slots.manifest.count → get_or p.load k 0 ≡ length (flat_map (λ c. c.code) components) + length (flat_map (λ c. c.init) (take k components))
    load_at k lt =
        plan.plan.load k (omega (arith, lt, rooms_count)) ∙ ap (λ (rs : List Room). load_base rs k) same_rooms
        ∙ omega (arith, total_is (λ c. c.code) (λ r. r.code) components (λ c. refl), base_is (λ c. c.init) (λ r. r.init) components k (λ c. refl))

    -- the set has room in flash
    pub plain_fits : length (plain_of components) ≤ 122880
    plain_fits =
        let code : code_total (rooms_of components) ≡ code_total (stored_rooms set) = ap code_total (sym same_rooms) in
        let init : init_total (rooms_of components) ≡ init_total (stored_rooms set) = ap init_total (sym same_rooms) in
        omega (arith, plain_length components, code, init, plan.plan.code_total, plan.plan.init_total, plan.planned.flash)

-- ---- what stays while pages are staged

pub only_staged_starts : (s : State) → OnlyStaged s s
only_staged_starts s = record { pages = only_starts (ext_pages 306 785) s; parts = refl }

pub only_staged_next : (s t y : State) (page : ℕ) (needed : State → Type 0) → 306 ≤ page → page ≤ 785 → OnlyStaged s t → MayHold needed (Ext page) t y → OnlyStaged s y
only_staged_next s t y page needed low high only (inl same) = subst (OnlyStaged s) (sym same) only
only_staged_next s t y page needed low high only (inr spoilt) =
    let allowed : ext_pages 306 785 (Ext page) ≡ true = grind (arith, nat_tests) in
    let bytes = spoilt.1.bytes in
    let one = each_page_is_in_one_part.staged t.prog t.ext page bytes low (omega (arith, high)) in
    let area : List (List ℕ) = staged_pages (with_page t (Ext page) bytes) in
    let parts : parts_of t.prog (with_page t (Ext page) bytes).ext ≡ record (parts_of s.prog s.ext) { staged = area } =
    one ∙ ap (λ (r : List (List ℕ)). record (parts_of t.prog t.ext) { staged = r }) (sym (ap (λ (p : Parts). p.staged) one)) ∙ ap (λ (p : Parts). record p { staged = area }) only.parts in
    record {
      pages = only_programs (ext_pages 306 785) needed (Ext page) s t y only.pages allowed (inr spoilt);
      parts = subst (λ (z : State). parts_of z.prog z.ext ≡ record (parts_of s.prog s.ext) { staged = staged_pages z }) (sym spoilt.1.is) parts;
    }

-- the list's area stays, and the page of it that is kept
pub list_stays : (s x : State) → OnlyStaged s x → list_area x ≡ list_area s
list_stays s x only = ap (λ (p : Parts). p.relocs) only.parts

pub list_reader_stays : (s x : State) (r : ListReader) → OnlyStaged s x → KeepsList s r → KeepsList x r
list_reader_stays s x r only keeps small =
    let outside : ext_pages 306 785 (Ext (50 + r.page)) ≡ false = grind (arith, nat_tests) in
    keeps small ∙ sym (only.pages.page (Ext (50 + r.page)) outside)

pub list_reader_stayed : (s x : State) (r : ListReader) → OnlyStaged s x → KeepsList x r → KeepsList s r
list_reader_stayed s x r only keeps small =
    let outside : ext_pages 306 785 (Ext (50 + r.page)) ≡ false = grind (arith, nat_tests) in
    keeps small ∙ only.pages.page (Ext (50 + r.page)) outside

-- program flash, the inbox and the tables stay, and with them the set
pub set_stays : (s x : State) (set : StoredSet) (components : List Component) → OnlyStaged s x → HoldsSet s set components → HoldsSet x set components
set_stays s x set components only holds =
    same_parts_hold s x set components (ap (λ (p : Parts). p.prog) only.parts) (ap (λ (p : Parts). p.tables) only.parts) (ap (λ (p : Parts). p.inbox) only.parts) holds

-- and so do the pages that are to be
pub pages_stay : (s x : State) (set : StoredSet) (pages : List (List ℕ)) → OnlyStaged s x → ArePagesOf s set pages → ArePagesOf x set pages
pages_stay s x set pages only are = record {
  components = are.components;
  list = are.list;
  held = set_stays s x set are.components only are.held;
  lists = subst (λ (b : List ℕ). Lists b are.list) (sym (list_stays s x only)) are.lists;
  fits = are.fits;
  patched = are.patched;
}

-- ---- pages

-- there are 480 pages
pub pages_count : (s : State) (set : StoredSet) (pages : List (List ℕ)) → ArePagesOf s set pages → length pages ≡ 480
pages_count s set pages are = ap (λ (l : List (List ℕ)). length l) are.patched.are ∙ length-map-range_with_len (page_in are.patched.whole) 0 480

-- page p of them
pub page_at_of : (s : State) (set : StoredSet) (pages : List (List ℕ)) (p : ℕ) → p < 480 → (are : ArePagesOf s set pages) → get_or pages p [] ≡ page_in are.patched.whole p
page_at_of s set pages p lt are = ap (λ (l : List (List ℕ)). get_or l p []) are.patched.are ∙ get_or-map-range_with_len (page_in are.patched.whole) 0 480 p p [] lt (omega arith)

-- patched bytes are 480 pages long
pub whole_long : (plain whole : List ℕ) → length plain ≤ 122880 → length whole ≡ length (padded plain) → length whole ≡ 122880
whole_long plain whole few size = omega (arith, few, size, length-append plain (replicate {A = ℕ} (122880 - length plain) 255), length-replicate {A = ℕ} (122880 - length plain) 255)

-- when all pages are staged the staged image is they
pub all_staged : (v : View) (x : State) (pages : List (List ℕ)) → v.state ≡ Some x → length pages ≡ 480 → HoldsFirst 306 480 x (λ p. get_or pages p []) → HasStaged v pages
all_staged v x pages told long holds =
    let sizes = v.sizes x told in
    let count : length (staged_pages x) ≡ 480 = length-take-le 480 (drop 306 x.ext) (omega (arith, length-drop 306 x.ext, sizes.ext)) in
    record {
      state = x;
      told = told;
      are = same_lists (staged_pages x) pages (omega (arith, count, long)) (λ k d lt.
          get_or_default (staged_pages x) k d [] lt ∙ get_or-take 480 (drop 306 x.ext) k [] (omega (arith, lt, count)) ∙ get_or-drop 306 x.ext k [] ∙ holds k (omega (arith, lt, count))
          ∙ get_or_default pages k [] d (omega (arith, lt, count, long)));
    }
