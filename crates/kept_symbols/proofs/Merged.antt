-- A merge, page by page, and what it is in the end.
use Rattle.std.proofs.Common.{◌≡◌, ℕ, ◌+◌, ◌-◌, ◌*◌, ◌<◌, ◌≤◌, inl, inr, ⊎_elim, true, false, List, [], ◌∷◌, ◌++◌, length, take, Option, Some, None, Err, refl, sym, ap, ap₂, ◌∙◌, arith, length-append}
use Rattle.std.specs.Prelude.{nat_lt}
use Rattle.std.proofs.lemmas.Bool.{cases_lt, lt-ltb, le-ltb, false≢true}
use Rattle.std.proofs.lemmas.List.{length-map, length-take-le}
use Rattle.flash_pages.specs.State.{State, Ext, IsState, with_page}
use Rattle.component_package.specs.declared.part.Export.{Export}
use Rattle.component_package.specs.packages.Component.{Component}
use Rattle.component_package.specs.link.Layout.{Room, code_total, init_total, bss_total}
use Rattle.component_package.specs.link.Link.{Cause, FlashFull, RamFull, above, definition_of, distinct, symbols_of, symbols_cause, room_cause, rooms_of, duplicate_cause}
use Rattle.component_package.specs.link.Link as causes
use Rattle.component_package.specs.link.Areas.{MergedSymbol}
use Rattle.component_package.specs.link.Pages.{merged}
use Rattle.component_package.specs.link.Sets as link
use Rattle.kept_store.specs.declared.set.StoredSet.{StoredSet}
use Rattle.kept_store.specs.Open.{HasRooms}
use Rattle.kept_store.specs.Sets.{IsSet}
use Rattle.layout_plan.specs.declared.plan.Plan.{Plan}
use Rattle.layout_plan.specs.Plan.{IsPlan, IsPlanned}
use Rattle.link_laws.proofs.Room.{table_has_room}
use Rattle.kept_symbols.specs.declared.fault.MergeFault.{MergeFault}
use Rattle.kept_symbols.specs.declared.fault.MergeFault.TheVariants.{Fault, Symbols, Duplicate}
use Rattle.kept_symbols.specs.declared.walk.Walk.{Walk}
use Rattle.kept_symbols.specs.Stored.{symbol_area, header_room, IsPlanOf}
use Rattle.kept_symbols.specs.Answers.{is_of_merge, IsMerged, Merges}
use Rattle.kept_symbols.specs.Walks.{IsAt, table_to}
use Rattle.kept_symbols.specs.Records.{NoneTwice, NoneFrom, IsFilled, FillIs, HasMerged, records_in}
use Rattle.kept_symbols.proofs.Areas.{page_more, pages_more}
use Rattle.kept_symbols.proofs.Duplicates.{single_all}
use Rattle.kept_symbols.proofs.Tables.{table_between, table_defined, table_begins, table_all, table_few}

-- ---- the plan

-- it has as many components as the set
pub plan_count : (set : StoredSet) (p : Plan) → IsSet set → HasRooms set → IsPlanOf set p → p.count ≡ set.slots.manifest.count
plan_count set p is rooms plan =
    let few : set.slots.manifest.count ≤ 16 = is.manifest.count in
    plan.plan.count ∙ length-map (take set.slots.manifest.count set.headers) header_room ∙ length-take-le set.slots.manifest.count set.headers (omega (arith, few, rooms.headers))

-- and room
pub plan_room : (rs : List Room) (p : Plan) → IsPlan rs p → IsPlanned p → room_cause rs ≡ None
plan_room rs p is planned =
    let flash : nat_lt 122880 (code_total rs + init_total rs) ≡ false = le-ltb 122880 (code_total rs + init_total rs) (omega (arith, planned.flash, is.code_total, is.init_total)) in
    let ram : nat_lt 3584 (init_total rs + bss_total rs) ≡ false = le-ltb 3584 (init_total rs + bss_total rs) (omega (arith, planned.ram, is.init_total, is.bss_total)) in
    rw (flash, ram) refl

-- ---- page by page

table_start : (set : List Component) → table_to set 0 ≡ []
unfolding table_to
table_start set = refl

-- no page yet
pub merged_none : (set : List Component) (w : Walk) (x : State) → IsAt set 0 w → HasMerged set 0 0 w x
merged_none set w x at = record {
  low = 0;
  at = at;
  single = λ s lt. absurd (omega (arith, lt));
  count = ap length (table_start set);
  room = omega arith;
  bytes = sym (ap (records_in 0) (table_start set));
  full = inl refl;
}

-- one page more
pub merged_more : (set : List Component) (p n made : ℕ) (page : List ℕ) (w v : Walk) (t : State) → IsState t → p < 32 → made ≤ 32 → (old : HasMerged set p n w t) → IsFilled set old.low made page v
    → HasMerged set (p + 1) (n + made) v (with_page t (Ext (18 + p)) page)
merged_more set p n made page w v t state below few old filled =
    let joined = pages_more 18 p t.ext page (omega (arith, state.ext, below)) in
    let count : length (table_to set old.low) ≡ n = old.count in
    let size : length filled.records ≡ made = filled.count in
    let more = page_more p (table_to set old.low) filled.records (omega (arith, count, old.room)) (⊎_elim (λ full. inl (count ∙ full)) (λ none. inr (no_more none)) old.full) (omega (arith, size, few)) in
    record {
      low = filled.high;
      at = filled.at;
      single = filled.single old.single;
      count = ap length filled.grown ∙ length-append (table_to set old.low) filled.records ∙ omega (arith, count, size);
      room = omega (arith, old.room, few);
      bytes = joined ∙ ap₂ (λ (a b : List ℕ). a ++ b) old.bytes filled.bytes ∙ more ∙ ap (records_in (256 * (p + 1))) (sym filled.grown);
      full = ⊎_elim
          (λ whole. ⊎_elim (λ full. inl (omega (arith, whole, full))) (λ none. inr (λ s le. none s (omega (arith, le, filled.on)))) old.full)
          (λ none. inr none)
          filled.full;
    }
  where
    no_more : NoneFrom set old.low → filled.records ≡ []
    no_more none = empty filled.records (omega (arith, ap length (sym (table_between set old.low filled.high filled.on (λ s le lt. none s le)) ∙ filled.grown), length-append (table_to set old.low) filled.records))
      where
        empty : (rs : List MergedSymbol) → length rs ≡ 0 → rs ≡ []
        empty [] e = refl
        empty (r ∷ rs) e = absurd (omega (arith, e))

-- ---- in the end

no_more_than : (n : ℕ) → above 1024 causes.Symbols n ≡ None → n ≤ 1024
no_more_than n none = elim (cases_lt 1024 n) [ inl more ↦ absurd (let e = rw (lt-ltb 1024 n more) at none in cc) | inr few ↦ omega (arith, few) ]

-- a set of at most 1,024 symbols has none behind the area's last record
none_left : (set : List Component) (low : ℕ) → link.IsSet set → length (distinct (symbols_of set)) ≤ 1024 → length (table_to set low) ≡ 1024 → NoneFrom set low
none_left set low is few full s le = go (definition_of set s) refl
  where
    go : (d : Option (ℕ × Export)) → definition_of set s ≡ d → d ≡ None
    go None e = refl
    go (Some x) e =
        let most = table_few set (s + 1) is in
        let more = table_begins set low (s - low) in
        let at : low + (s - low) ≡ s = omega (arith, le) in
        let before = ap (λ n. length (table_to set n)) (sym at) ∙ ap length more.1 ∙ length-append (table_to set low) more.0 in
        let here = ap length (table_defined set s x e) ∙ length-append (table_to set s) (merged set x ∷ []) in
        absurd (omega (arith, most, before, here, few, full))

-- the area is the set's own table
pub merged_all : (set : List Component) (n : ℕ) (w : Walk) (x : State) → link.IsSet set → room_cause (rooms_of set) ≡ None → symbols_cause set ≡ None → HasMerged set 32 n w x → IsMerged set (symbol_area x) n
merged_all set n w x is room few m =
    let most = no_more_than (length (distinct (symbols_of set))) few in
    let none : NoneFrom set m.low = ⊎_elim (λ full. none_left set m.low is most (m.count ∙ full)) (λ none. none) m.full in
    let own = table_all set m.low is none in
    record {
      single = single_all set m.low none m.single;
      table = table_to set m.low;
      is = own;
      tells = record {
        few = omega (arith, m.count, m.room);
        symbols = table_has_room set (table_to set m.low) is room own;
        rise = own.rise;
        spelled = m.bytes;
      };
      count = m.count;
    }

-- a duplicate
pub merge_ends : (set : List Component) (low : ℕ) (page area : List ℕ) (v : Walk) (f : MergeFault) → is_of_merge {A = ℕ} (Err f) ≡ true → NoneTwice set low → FillIs set low page v (Err f) → Merges set area (Err f)
merge_ends set low page area v Fault kind single fill = tt
merge_ends set low page area v (Symbols n) kind single fill = absurd (false≢true kind)
merge_ends set low page area v (Duplicate s i j) kind single fill = fill single
