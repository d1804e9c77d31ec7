-- How often LINK's steps program the pages that they write.
use Rattle.std.proofs.Common.{◌≡◌, ◌≢◌, ⊎_elim, ℕ, ◌+◌, ◌<◌, ◌≤◌, Bool, true, false, ◌&&◌, ◌||◌, not, cond, leb, List, [], ◌∷◌, ◌*◌, get_or, Some, refl, sym, ap, ◌∙◌, subst, arith}
use Rattle.std.proofs.lemmas.Bool.{false≢true, cases_Bool}
use Rattle.std.proofs.lemmas.Bool.Decides.{nat_tests}
use Rattle.std.proofs.lemmas.Option.{same_Some}
use Rattle.std.proofs.lemmas.Result.{err_from_is_err_and}
use Rattle.std.specs.Result.{is_ok}
use Rattle.std.specs.Prelude.{Result, IsErrAnd, slice_range}
use Rattle.std.proofs.lemmas.List.FromFn.{get_or-map-range_with_len}
use Rattle.flash_pages.specs.State.{State, Place, Prog, Ext, page_at, OnlyPages, ext_pages}
use Rattle.flash_pages.specs.Board.{View, Told, Reads, Programs, WearsOnce}
use Rattle.flash_pages.specs.Moments.{LeavesOnly}
use Rattle.component_package.specs.packages.Component.{Component}
use Rattle.component_package.specs.link.Areas.{MergedSymbol, list_bytes}
use Rattle.component_package.specs.link.Pages.{IsTableOf, listed, page_in, cut, padded, IsPages}
use Rattle.kept_definitions.specs.Stored.{Placed, StoredRelease}
use Rattle.kept_manifests.specs.Slots.{stored_of}
use Rattle.component_package.specs.mote.Store.{page_of_slot}
use Rattle.kept_definitions.specs.Kept.{coming_set}
use Rattle.kept_definitions.specs.Sides.{Parts, is_on_b, is_pending}
use Rattle.component_package.specs.mote.Frames.{Frame}
use Rattle.kept_store.specs.declared.set.StoredSet.{StoredSet}
use Rattle.component_store.specs.Pieces.{piece_place}
use Rattle.kept_laws.proofs.Says.{image_is_the_chosens}
use Rattle.kept_boot.specs.Boots.{boot_pages, installed_pages, fresh_tables, chosen_entries, Lags, WearsProgram}
use Rattle.kept_journal.specs.declared.standing.Standing.{Standing}
use Rattle.kept_core.specs.Frames.{link_frame}
use Rattle.kept_core.specs.Links.{comes_of, IsLinking}
use Rattle.link_laws.proofs.Own.{image_one}
use Rattle.link_laws.proofs.Table.{table_one}
use Rattle.kept_laws.specs.Steps.{with_gate, other_go}
use Rattle.kept_definitions.specs.Machine.{Mote}
use Rattle.component_package.specs.mote.Machine.{boot_frame}
use Rattle.kept_journal.specs.declared.gates.Stage.{Stage}
use Rattle.kept_journal.specs.declared.gates.Stage.TheVariants as stages
use Rattle.kept_journal.specs.Steps.{parts, Stands, Step, Takes, Becomes, stage_gate, one_page, side_pages, manifest_pages}
use Rattle.kept_symbols.specs.Changes.{OnlySymbols, IsWorn, symbol_pages}
use Rattle.kept_relocs.specs.Written.{IsOther, IsIn, in_pages, OnlyList}
use Rattle.kept_stage.specs.Staged.{OnlyStaged}
use Rattle.kept_core.specs.Serving.{BootsAlike}
use Rattle.kept_core.specs.Wear.{is_written, is_table, is_watched, IsSpared, SparesList, SparesStaged, IsIdle, WorksIn, Wears, WearsWork, WearsRead}

-- a question mark's exit is no answer
pub not_ok : {A E : Type 0} (Q : E → Type 0) (r : Result A E) → IsErrAnd r Q → is_ok r ≡ true → ⊥
not_ok Q r failed ok = let e = err_from_is_err_and r failed in false≢true (ap is_ok (sym e.1) ∙ ok)

-- ---- what boots

pub alike_starts : (p : Parts) → BootsAlike p p
alike_starts p = record { fmt_is = refl; go_a_is = refl; go_b_is = refl; sel_is = refl; side_a_is = refl; side_b_is = refl }

pub alike_then : (p q r : Parts) → BootsAlike p q → BootsAlike q r → BootsAlike p r
alike_then p q r a b = record {
  fmt_is = b.fmt_is ∙ a.fmt_is;
  go_a_is = b.go_a_is ∙ a.go_a_is;
  go_b_is = b.go_b_is ∙ a.go_b_is;
  sel_is = b.sel_is ∙ a.sel_is;
  side_a_is = b.side_a_is ∙ a.side_a_is;
  side_b_is = b.side_b_is ∙ a.side_b_is;
}

-- ---- a read, and nothing

symbol_written : (page : ℕ) → page < 32 → is_watched (Ext (18 + page)) ≡ true
symbol_written page lt = grind (arith, nat_tests)

pub idle_starts : (v : View) → IsIdle v v
idle_starts v place written = refl

pub idle_then : (old mid new : View) → IsIdle old mid → IsIdle mid new → IsIdle old new
idle_then old mid new a b place written = b place written ∙ a place written

pub idle_reads : (old new : View) → Reads old new → IsIdle old new
idle_reads old new r place written = r.programs place

pub works_idle : (first last : ℕ) (answered : Bool) (s : State) (old new : View) → new.state ≡ Some s → IsIdle old new → WorksIn first last answered s old new
works_idle first last answered s old new told idle = record {
  end = s;
  told = told;
  same = λ place written out. refl;
  spared = λ place written out. idle place written;
  once = λ place written. omega (arith, idle place written);
  boots = λ yes. alike_starts (parts s);
  symbols = λ yes x is page lt same. idle (Ext (18 + page)) (symbol_written page lt);
}

-- a read before it
pub works_reads : (first last : ℕ) (answered : Bool) (s : State) (old mid new : View) → Reads old mid → WorksIn first last answered s mid new → WorksIn first last answered s old new
works_reads first last answered s old mid new r w = record {
  end = w.end;
  told = w.told;
  same = w.same;
  spared = λ place written out. w.spared place written out ∙ r.programs place;
  once = λ place written. omega (arith, w.once place written, r.programs place);
  boots = w.boots;
  symbols = λ yes x is page lt same. w.symbols yes x is page lt same ∙ r.programs (Ext (18 + page));
}

-- more pages
pub works_wider : (first last from to : ℕ) → from ≤ first → last ≤ to → (answered : Bool) (s : State) (old new : View) → WorksIn first last answered s old new → WorksIn from to answered s old new
works_wider first last from to low high answered s old new w = record {
  end = w.end;
  told = w.told;
  same = λ place written out. w.same place written (within place out);
  spared = λ place written out. w.spared place written (within place out);
  once = w.once;
  boots = w.boots;
  symbols = w.symbols;
}
  where
    within : (place : Place) → ext_pages from to place ≡ false → ext_pages first last place ≡ false
    within (Prog page) out = refl
    within (Ext page) out = grind (arith, nat_tests)

-- ---- one area

-- only an area behind that of symbols was written
pub area_works : (first last : ℕ) → 50 ≤ first → (answered : Bool) (s x : State) (old new : View) → old.state ≡ Some s → new.state ≡ Some x → OnlyPages (ext_pages first last) s x
    → BootsAlike (parts s) (parts x) → WearsOnce (λ y. IsIn first last) old new → WorksIn first last answered s old new
area_works first last high answered s x old new told told_x only boots wear = record {
  end = x;
  told = told_x;
  same = λ place written out. only.page place out;
  spared = λ place written out. spared place out;
  once = λ place written. wear.once s told place;
  boots = λ yes. boots;
  symbols = λ yes y is page lt same. spared (Ext (18 + page)) (below page lt);
}
  where
    spared : (place : Place) → ext_pages first last place ≡ false → IsSpared place old new
    spared place out = wear.none s told place (λ inside. false≢true (sym out ∙ inside))

    below : (page : ℕ) → page < 32 → ext_pages first last (Ext (18 + page)) ≡ false
    below page lt = grind (arith, nat_tests)

list_alike : (s x : State) → OnlyList s x → BootsAlike (parts s) (parts x)
list_alike s x only = subst (BootsAlike (parts s)) (sym only.parts) (record { fmt_is = refl; go_a_is = refl; go_b_is = refl; sel_is = refl; side_a_is = refl; side_b_is = refl })

staged_alike : (s x : State) → OnlyStaged s x → BootsAlike (parts s) (parts x)
staged_alike s x only = subst (BootsAlike (parts s)) (sym only.parts) (record { fmt_is = refl; go_a_is = refl; go_b_is = refl; sel_is = refl; side_a_is = refl; side_b_is = refl })

symbols_alike : (s x : State) → OnlySymbols s x → BootsAlike (parts s) (parts x)
symbols_alike s x only = subst (BootsAlike (parts s)) (sym only.parts) (record { fmt_is = refl; go_a_is = refl; go_b_is = refl; sel_is = refl; side_a_is = refl; side_b_is = refl })

pub build_works : (answered : Bool) (s : State) (old new : View) → old.state ≡ Some s → LeavesOnly (OnlyList s) 256 old new → WearsOnce (λ y. IsIn 50 305) old new → WorksIn 50 305 answered s old new
build_works answered s old new told run wear = area_works 50 305 (omega arith) answered s run.end old new told run.told run.ends.pages (list_alike s run.end run.ends) wear

pub stage_works : (answered : Bool) (s : State) (old new : View) → old.state ≡ Some s → LeavesOnly (OnlyStaged s) 480 old new → WearsOnce (λ y. IsIn 306 785) old new → WorksIn 306 785 answered s old new
stage_works answered s old new told run wear = area_works 306 785 (omega arith) answered s run.end old new told run.told run.ends.pages (staged_alike s run.end run.ends) wear

pub merge_works : (fault answered : Bool) → (answered ≡ true → fault ≡ false) → (s : State) (old new : View) → old.state ≡ Some s → LeavesOnly (OnlySymbols s) 32 old new → WearsOnce (IsWorn fault new) old new
    → WorksIn 18 49 answered s old new
merge_works fault answered calm s old new told run wear = record {
  end = run.end;
  told = run.told;
  same = λ place written out. run.ends.pages.page place out;
  spared = λ place written out. wear.none s told place (none fault place out);
  once = λ place written. wear.once s told place;
  boots = λ yes. symbols_alike s run.end run.ends;
  symbols = λ yes x is page lt same. wear.none s told (Ext (18 + page)) (λ worn. (subst (λ (b : Bool). IsWorn b new s (Ext (18 + page))) (calm yes) worn) x is (sym same));
}
  where
    none : (b : Bool) (place : Place) → symbol_pages place ≡ false → IsWorn b new s place → ⊥
    none true place out worn = false≢true (sym out ∙ worn)
    none false place out worn = worn run.end run.told (sym (run.ends.pages.page place out))

-- ---- a gate

-- its page is none of those that are written
gate_out : (stage : Stage) (place : Place) → is_watched place ≡ true → one_page (stage_gate stage) place ≡ false
gate_out stage (Prog page) written = refl
gate_out stages.Symbols (Ext page) written = grind (arith, nat_tests)
gate_out stages.Relocs (Ext page) written = grind (arith, nat_tests)
gate_out stages.Image (Ext page) written = grind (arith, nat_tests)

pub mark_idle : (P : State → Type 0) (stage : Stage) (old new : View) → Takes P (one_page (stage_gate stage)) 1 old new → IsIdle old new
mark_idle P stage old new takes place written = takes.wears place (gate_out stage place written)

mark_alike : (stage : Stage) (p : Parts) → BootsAlike p (with_gate (stage_gate stage) true p)
mark_alike stages.Symbols p = record { fmt_is = refl; go_a_is = refl; go_b_is = refl; sel_is = refl; side_a_is = refl; side_b_is = refl }
mark_alike stages.Relocs p = record { fmt_is = refl; go_a_is = refl; go_b_is = refl; sel_is = refl; side_a_is = refl; side_b_is = refl }
mark_alike stages.Image p = record { fmt_is = refl; go_a_is = refl; go_b_is = refl; sel_is = refl; side_a_is = refl; side_b_is = refl }

-- a gate that was opened leaves what boots
pub becomes_alike : (meant : Mote → Type 0) (after : Mote → Mote) (stage : Stage) (s x : State) (v : View) → Becomes (with_gate (stage_gate stage) true (parts s)) meant after s v → v.state ≡ Some x → BootsAlike (parts s) (parts x)
becomes_alike meant after stage s x v b told =
    subst (λ (y : State). BootsAlike (parts s) (parts y)) (same_Some b.end x (sym b.told ∙ told)) (subst (BootsAlike (parts s)) (sym b.parts_are) (mark_alike stage (parts s)))

module _ (meant : Mote → Type 0) (stage : Stage) (first last : ℕ) (a b : Bool) (s : State) (old mid new : View) (w : WorksIn first last a s old mid)
    (takes : Takes (Step meant (one_page (stage_gate stage)) w.end) (one_page (stage_gate stage)) 1 mid new) where
  pub works_mark : (b ≡ true → (a ≡ true) × ((x : State) → new.state ≡ Some x → BootsAlike (parts w.end) (parts x))) → WorksIn first last b s old new
  works_mark done = record {
    end = takes.leaves.end;
    told = takes.leaves.told;
    same = λ place written out. takes.leaves.ends.pages.page place (gate_out stage place written) ∙ w.same place written out;
    spared = λ place written out. takes.wears place (gate_out stage place written) ∙ w.spared place written out;
    once = λ place written. omega (arith, w.once place written, takes.wears place (gate_out stage place written));
    boots = λ yes. alike_then (parts s) (parts w.end) (parts takes.leaves.end) (w.boots (done yes).0) ((done yes).1 takes.leaves.end takes.leaves.told);
    symbols = λ yes x is page lt same.
        let written = symbol_written page lt in
        let out = gate_out stage (Ext (18 + page)) written in
        let now = ap (λ (y : State). page_at y (Ext (18 + page))) (same_Some takes.leaves.end x (sym takes.leaves.told ∙ is)) in
        takes.wears (Ext (18 + page)) out ∙ w.symbols (done yes).0 w.end w.told page lt (sym (takes.leaves.ends.pages.page (Ext (18 + page)) out) ∙ now ∙ same);
  }

-- ---- one area behind another

module _ (first mid last : ℕ) (low : first ≤ mid) (high : mid ≤ last) (past : 49 ≤ mid) (a b : Bool) (s : State) (old v new : View) (one : WorksIn first mid a s old v) (two : WorksIn (mid + 1) last b one.end v new) where
  before : (place : Place) → ext_pages first last place ≡ false → ext_pages first mid place ≡ false
  before (Prog page) out = refl
  before (Ext page) out = grind (arith, nat_tests)

  behind : (place : Place) → ext_pages first last place ≡ false → ext_pages (mid + 1) last place ≡ false
  behind (Prog page) out = refl
  behind (Ext page) out = grind (arith, nat_tests)

  apart : (place : Place) → ext_pages first mid place ≡ true → ext_pages (mid + 1) last place ≡ false
  apart (Prog page) inside = refl
  apart (Ext page) inside = grind (arith, nat_tests)

  no_symbol : (page : ℕ) → page < 32 → ext_pages (mid + 1) last (Ext (18 + page)) ≡ false
  no_symbol page lt = grind (arith, nat_tests)

  pub works_then : (b ≡ true → a ≡ true) → WorksIn first last b s old new
  works_then answered = record {
    end = two.end;
    told = two.told;
    same = λ place written out. two.same place written (behind place out) ∙ one.same place written (before place out);
    spared = λ place written out. two.spared place written (behind place out) ∙ one.spared place written (before place out);
    once = λ place written. ⊎_elim
        (λ inside. omega (arith, one.once place written, two.spared place written (apart place inside)))
        (λ out. omega (arith, one.spared place written out, two.once place written))
        (cases_Bool (ext_pages first mid place));
    boots = λ yes. alike_then (parts s) (parts one.end) (parts two.end) (one.boots (answered yes)) (two.boots yes);
    symbols = λ yes x is page lt same.
        let written = symbol_written page lt in
        let stays : page_at x (Ext (18 + page)) ≡ page_at one.end (Ext (18 + page)) =
        ap (λ (y : State). page_at y (Ext (18 + page))) (same_Some x two.end (sym is ∙ two.told)) ∙ two.same (Ext (18 + page)) written (no_symbol page lt) in
        two.spared (Ext (18 + page)) written (no_symbol page lt) ∙ one.symbols (answered yes) one.end one.told page lt (sym stays ∙ same);
  }

-- ---- pages that are there already

ext_number : (first p q : ℕ) → Ext (first + p) ≡ Ext (first + q) → p ≡ q
ext_number first p q e = let same : first + p ≡ first + q = cc in omega (arith, same)

-- a set has one list of pages
pub pages_same : (set : List Component) (p q : List (List ℕ)) → IsPages set p → IsPages set q → p ≡ q
pages_same set p q a b = a.are ∙ ap (λ (w : List ℕ). cut (padded w)) (image_one set a.image b.image a.is b.is) ∙ sym b.are

pub build_spares : (set : List Component) (table : List MergedSymbol) (s : State) (old new : View) → IsTableOf set table → old.state ≡ Some s
    → WearsOnce (IsOther 50 (in_pages 256 (list_bytes (listed set table)))) old new → SparesList set s old new
build_spares set table s old new is told wear other page is_other lt same = wear.none s told (Ext (50 + page)) (λ o.
    let number : page ≡ o.page = ext_number 50 page o.page o.is in
    let b = list_bytes (listed set table) in
    let there : get_or (in_pages 256 b) page [] ≡ page_in b page = get_or-map-range_with_len (λ p. slice_range b (256 * p) (256 * p + 256)) 0 256 page page [] lt (omega arith) in
    o.differs (same ∙ ap (λ (t : List MergedSymbol). page_in (list_bytes (listed set t)) page) (table_one set other table is_other is) ∙ sym there ∙ ap (λ (k : ℕ). get_or (in_pages 256 b) k []) number))

pub stage_spares : (set : List Component) (pages : List (List ℕ)) (s : State) (old new : View) → IsPages set pages → old.state ≡ Some s → WearsOnce (IsOther 306 pages) old new → SparesStaged set s old new
stage_spares set pages s old new is told wear other page is_other lt same = wear.none s told (Ext (306 + page)) (λ o.
    let number : page ≡ o.page = ext_number 306 page o.page o.is in
    o.differs (same ∙ ap (λ (l : List (List ℕ)). get_or l page []) (pages_same set other pages is_other is) ∙ ap (λ (k : ℕ). get_or pages k []) number))

list_written : (page : ℕ) → page < 256 → is_watched (Ext (50 + page)) ≡ true
list_written page lt = grind (arith, nat_tests)

staged_written : (page : ℕ) → page < 480 → is_watched (Ext (306 + page)) ≡ true
staged_written page lt = grind (arith, nat_tests)

-- nothing was programmed
pub list_idle : (set : List Component) (s : State) (old new : View) → IsIdle old new → SparesList set s old new
list_idle set s old new idle table page is lt same = idle (Ext (50 + page)) (list_written page lt)

pub staged_idle : (set : List Component) (s : State) (old new : View) → IsIdle old new → SparesStaged set s old new
staged_idle set s old new idle pages page is lt same = idle (Ext (306 + page)) (staged_written page lt)

-- before or behind what programs none of these pages
pub list_between : (set : List Component) (s : State) (old mid end new : View) → IsIdle old mid → SparesList set s mid end → IsIdle end new → SparesList set s old new
list_between set s old mid end new first spares last table page is lt same =
    last (Ext (50 + page)) (list_written page lt) ∙ spares table page is lt same ∙ first (Ext (50 + page)) (list_written page lt)

pub staged_between : (set : List Component) (s : State) (old mid end new : View) → IsIdle old mid → SparesStaged set s mid end → IsIdle end new → SparesStaged set s old new
staged_between set s old mid end new first spares last pages page is lt same =
    last (Ext (306 + page)) (staged_written page lt) ∙ spares pages page is lt same ∙ first (Ext (306 + page)) (staged_written page lt)

-- behind work on other areas
pub list_behind : (set here : List Component) (a : Bool) (s x : State) (old mid new : View) → (w : WorksIn 18 49 a s old mid) → mid.state ≡ Some x → here ≡ set → SparesList here x mid new → SparesList set s old new
list_behind set here a s x old mid new w told are spares table page is lt same =
    let written = list_written page lt in
    let out : ext_pages 18 49 (Ext (50 + page)) ≡ false = grind (arith, nat_tests) in
    let there : page_at x (Ext (50 + page)) ≡ page_at s (Ext (50 + page)) =
    ap (λ (y : State). page_at y (Ext (50 + page))) (same_Some x w.end (sym told ∙ w.told)) ∙ w.same (Ext (50 + page)) written out in
    spares table page (subst (λ (c : List Component). IsTableOf c table) (sym are) is) lt
    (there ∙ same ∙ ap (λ (c : List Component). page_in (list_bytes (listed c table)) page) (sym are)) ∙ w.spared (Ext (50 + page)) written out

pub staged_behind : (set here : List Component) (a : Bool) (s x : State) (old mid new : View) → (w : WorksIn 18 305 a s old mid) → mid.state ≡ Some x → here ≡ set → SparesStaged here x mid new → SparesStaged set s old new
staged_behind set here a s x old mid new w told are spares pages page is lt same =
    let written = staged_written page lt in
    let out : ext_pages 18 305 (Ext (306 + page)) ≡ false = grind (arith, nat_tests) in
    let there : page_at x (Ext (306 + page)) ≡ page_at s (Ext (306 + page)) =
    ap (λ (y : State). page_at y (Ext (306 + page))) (same_Some x w.end (sym told ∙ w.told)) ∙ w.same (Ext (306 + page)) written out in
    spares pages page (subst (λ (c : List Component). IsPages c pages) (sym are) is) lt (there ∙ same) ∙ w.spared (Ext (306 + page)) written out

-- and before it
pub list_before : (set : List Component) (a : Bool) (s w : State) (old mid new : View) → SparesList set s old mid → WorksIn 306 785 a w mid new → SparesList set s old new
list_before set a s w old mid new spares work table page is lt same =
    work.spared (Ext (50 + page)) (list_written page lt) (let out : ext_pages 306 785 (Ext (50 + page)) ≡ false = grind (arith, nat_tests) in out) ∙ spares table page is lt same

pub staged_unmade : (set : List Component) (a : Bool) (s : State) (old new : View) → WorksIn 18 305 a s old new → SparesStaged set s old new
staged_unmade set a s old new w pages page is lt same =
    w.spared (Ext (306 + page)) (staged_written page lt) (let out : ext_pages 18 305 (Ext (306 + page)) ≡ false = grind (arith, nat_tests) in out)

pub list_unmade : (set : List Component) (a : Bool) (s : State) (old new : View) → WorksIn 18 49 a s old new → SparesList set s old new
list_unmade set a s old new w table page is lt same =
    w.spared (Ext (50 + page)) (list_written page lt) (let out : ext_pages 18 49 (Ext (50 + page)) ≡ false = grind (arith, nat_tests) in out)

-- ---- frames

watched : (place : Place) → is_written place ≡ true → is_watched place ≡ true
watched place written = ap (λ (b : Bool). b || is_table place) written

table_watched : (page : ℕ) → 1410 ≤ page → page ≤ 2033 → is_watched (Ext page) ≡ true
table_watched page low high = grind (arith, nat_tests)

-- nothing that is written was programmed
pub idle_wears : (t : Mote) (f : Frame) (answered : Bool) (z : State) (old new : View) → IsIdle old new → Wears t f answered z old new
idle_wears t f answered z old new idle = record {
  once = λ place written. omega (arith, idle place (watched place written));
  areas = λ page other low high. idle (Ext page) (watched (Ext page) (area_written page low high));
  program = λ page other. idle (Prog page) refl;
  tables = λ page other low high. idle (Ext page) (table_watched page low high);
  list = λ m coming. list_idle (coming_set t.current t.inbox m) z old new idle;
  staged = λ m coming. staged_idle (coming_set t.current t.inbox m) z old new idle;
  booted = λ pages page is same. idle (Prog page) refl;
  symbols = λ yes x is page lt same. idle (Ext (18 + page)) (symbol_written page lt);
}
  where
    area_written : (page : ℕ) → 18 ≤ page → page ≤ 785 → is_written (Ext page) ≡ true
    area_written page low high = grind (arith, nat_tests)

pub idle_read : (answered : Bool) (a : Standing) (f : Frame) (old new : View) → Told old (λ s. IsIdle old new) → WearsRead answered a f old new
idle_read answered a f old new idle z t told stands is read = idle_wears t f answered z old new (idle z told)

pub same_wears : (answered : Bool) (a : Standing) (f h : Frame) → f ≡ h → (old new : View) → WearsRead answered a h old new → WearsRead answered a f old new
same_wears answered a f h same old new wears z t told stands is read = subst (λ (k : Frame). Wears t k answered z old new) (sym same) (wears z t told stands is read)

pub work_wears : (answered : Bool) (f h : Frame) → f ≡ h → (old new : View) → WearsWork answered h old new → WearsWork answered f old new
work_wears answered f h same old new wears z t told stands = subst (λ (k : Frame). Wears t k answered z old new) (sym same) (wears z t told stands)

-- a read before it
pub read_wears : (t : Mote) (f : Frame) (answered : Bool) (z : State) (old mid new : View) → Reads old mid → Wears t f answered z mid new → Wears t f answered z old new
read_wears t f answered z old mid new r w = record {
  once = λ place written. omega (arith, w.once place written, r.programs place);
  areas = λ page other low high. w.areas page other low high ∙ r.programs (Ext page);
  program = λ page other. w.program page other ∙ r.programs (Prog page);
  tables = λ page other low high. w.tables page other low high ∙ r.programs (Ext page);
  list = λ m coming table page is lt same. w.list m coming table page is lt same ∙ r.programs (Ext (50 + page));
  staged = λ m coming pages page is lt same. w.staged m coming pages page is lt same ∙ r.programs (Ext (306 + page));
  booted = λ pages page is same. w.booted pages page is same ∙ r.programs (Prog page);
  symbols = λ yes x is page lt same. w.symbols yes x is page lt same ∙ r.programs (Ext (18 + page));
}

-- LINK, with the set that comes in
pub link_wears : (t : Mote) (set : StoredSet) (answered : Bool) (z : State) (old new : View) → IsLinking t set z → WorksIn 18 785 answered z old new
    → SparesList (comes_of t set) z old new → SparesStaged (comes_of t set) z old new → Wears t link_frame answered z old new
link_wears t set answered z old new linking work list staged = record {
  once = λ place written. work.once place (watched place written);
  areas = λ page other low high. absurd (other refl);
  program = λ page other. work.spared (Prog page) refl refl;
  tables = λ page other low high. work.spared (Ext page) (table_watched page low high) (let out : ext_pages 18 785 (Ext page) ≡ false = grind (arith, nat_tests) in out);
  list = λ m coming. subst (λ (c : List Component). SparesList c z old new) (set_is m coming) list;
  staged = λ m coming. subst (λ (c : List Component). SparesStaged c z old new) (set_is m coming) staged;
  booted = λ pages page is same. work.spared (Prog page) refl refl;
  symbols = work.symbols;
}
  where
    set_is : (m : StoredRelease) → t.incoming ≡ Some m → comes_of t set ≡ coming_set t.current t.inbox m
    set_is m coming = ap (coming_set t.current t.inbox) (same_Some (stored_of set.slots) m (sym linking.incoming ∙ coming))

-- BOOT
no_table : (es : List Placed) (page : ℕ) → page ≤ 785 → fresh_tables es (Ext page) ≡ false
no_table [] page high = refl
no_table (p ∷ ps) page high =
    let out : leb (1410 + 39 * p.slot) page ≡ false = grind (arith, nat_tests) in
    both p.fresh (leb (1410 + 39 * p.slot) page) _ (fresh_tables ps (Ext page)) out (no_table ps page high)
  where
    both : (a b c d : Bool) → b ≡ false → d ≡ false → ((a && (b && c)) || d) ≡ false
    both true b c d none rest = rw (none, rest) refl
    both false b c d none rest = rest

boot_out : (p : Parts) (page : ℕ) → 18 ≤ page → page ≤ 785 → boot_pages p (Ext page) ≡ false
boot_out p page low high =
    let gates : (leb 1 page && leb page 7) ≡ false = grind (arith, nat_tests) in
    neither (is_pending p) _ _ gates (no_table (chosen_entries p) page high)
  where
    neither : (a b c : Bool) → b ≡ false → c ≡ false → (a && (b || c)) ≡ false
    neither true b c none rest = rw (none, rest) refl
    neither false b c none rest = refl

pub boot_wears : (t : Mote) (answered : Bool) (z : State) (P : State → Type 0) (n : ℕ) (old new : View) → Stands z t → Takes P (boot_pages (parts z)) n old new
    → WearsProgram (Lags (parts z)) old new → Wears t boot_frame answered z old new
boot_wears t answered z P n old new stands takes wear = record {
  once = once;
  areas = λ page other low high. spared page low high;
  program = λ page. ⊎_elim (λ other. absurd (other refl)) (λ rests. wear.none page (λ lags. false≢true (sym rests ∙ stands.mote.standing ∙ lags.0)));
  tables = λ page. ⊎_elim (λ other low high. absurd (other refl)) (λ rests low high.
      takes.wears (Ext page) (ap (λ (b : Bool). b && installed_pages (chosen_entries (parts z)) (Ext page)) (sym stands.mote.standing ∙ rests)));
  list = λ m coming table page is lt same. spared (50 + page) (omega arith) (omega (arith, lt));
  staged = λ m coming pages page is lt same. spared (306 + page) (omega arith) (omega (arith, lt));
  booted = λ pages page is same. wear.none page (λ lags.
      lags.1 (same ∙ ap (λ (l : List (List ℕ)). get_or l page [])
      (pages_same t.current.set pages (parts z).staged is (image_is_the_chosens.stands (parts z) t.current stands.sound lags.0 stands.mote.current))));
  symbols = λ yes x is page lt same. spared (18 + page) (omega arith) (omega (arith, lt));
}
  where
    spared : (page : ℕ) → 18 ≤ page → page ≤ 785 → IsSpared (Ext page) old new
    spared page low high = takes.wears (Ext page) (boot_out (parts z) page low high)

    once : (place : Place) → is_written place ≡ true → new.programs place ≤ old.programs place + 1
    once (Prog page) written = wear.once page
    once (Ext page) written =
        let low : 18 ≤ page = grind (arith, nat_tests) in
        let high : page ≤ 785 = grind (arith, nat_tests) in
        omega (arith, spared page low high)

-- steps of the journal and pieces
pub takes_idle : (P : State → Type 0) (may : Place → Bool) (n : ℕ) (old new : View) → ((place : Place) → is_watched place ≡ true → may place ≡ false) → Takes P may n old new → IsIdle old new
takes_idle P may n old new out takes place written = takes.wears place (out place written)

pub low_pages : (first last : ℕ) → last ≤ 17 → (place : Place) → is_watched place ≡ true → ext_pages first last place ≡ false
low_pages first last low (Prog page) written = refl
low_pages first last low (Ext page) written = grind (arith, nat_tests)

side_low : (b : Bool) (page : ℕ) → 18 ≤ page → side_pages b (Ext page) ≡ false
side_low true page low = grind (arith, nat_tests)
side_low false page low = grind (arith, nat_tests)

pub manifest_low : (p : Parts) (place : Place) → is_watched place ≡ true → manifest_pages p place ≡ false
manifest_low p (Prog page) written = refl
manifest_low p (Ext page) written =
    let low : 18 ≤ page = grind (arith, nat_tests) in
    let gates : (leb 1 page && leb page 4) ≡ false = grind (arith, nat_tests) in
    ap (λ (b : Bool). b || side_pages (not (is_on_b p)) (Ext page)) gates ∙ side_low (not (is_on_b p)) page low

go_low_by : (b : Bool) (place : Place) → is_watched place ≡ true → one_page (cond b 5 6) place ≡ false
go_low_by b (Prog page) written = refl
go_low_by true (Ext page) written = grind (arith, nat_tests)
go_low_by false (Ext page) written = grind (arith, nat_tests)

pub go_low : (p : Parts) (place : Place) → is_watched place ≡ true → one_page (other_go p) place ≡ false
go_low p place written = go_low_by (is_on_b p) place written

pub piece_idle : (needed : State → Type 0) (slot page : ℕ) (s : State) (old new : View) → slot < 16 → page < 39 → old.state ≡ Some s → Programs needed (piece_place slot page) old new → IsIdle old new
piece_idle needed slot page s old new small within told program place written = program.others s place told (apart place written)
  where
    outside : (p : ℕ) → 786 ≤ p → p ≤ 1409 → is_watched (Ext p) ≡ true → ⊥
    outside p low high written = let none : is_watched (Ext p) ≡ false = grind (arith, nat_tests) in false≢true (sym none ∙ written)

    apart : (place : Place) → is_watched place ≡ true → place ≢ piece_place slot page
    apart (Prog p) written e = absurd (let q : ⊥ = cc in q)
    apart (Ext p) written e =
        let same : p ≡ page_of_slot slot page = cc in
        let low : 786 ≤ p = omega (arith, same) in
        let high : p ≤ 1409 = omega (arith, same, small, within) in
        outside p low high written
