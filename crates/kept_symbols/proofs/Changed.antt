-- What programs of the area change, and how often its pages are programmed.
use Rattle.std.proofs.Common.{◌≡◌, ◌≢◌, ℕ, ◌+◌, ◌<◌, ◌≤◌, ◌⊎◌, inl, inr, ⊎_elim, Bool, true, false, List, Some, get_or, refl, sym, ap, subst, ◌∙◌, arith}
use Rattle.std.specs.Prelude.{IsTrue, ◌↔◌}
use Rattle.std.proofs.lemmas.Bool.{cases_eq, cases_Bool, false≢true}
use Rattle.std.proofs.lemmas.Bool.Decides.{nat_tests}
use Rattle.std.proofs.lemmas.Option.{same_Some}
use Rattle.flash_pages.specs.State.{State, Place, Prog, Ext, IsState, MayHold, page_at, with_page, ext_pages}
use Rattle.flash_pages.specs.Board.{View, Reads, Programs, WearsOnce}
use Rattle.flash_pages.proofs.Pages.{only_starts, only_programs, page_at-with_page, page_at-apart}
use Rattle.kept_definitions.specs.Sides.{Parts, parts_of}
use Rattle.component_package.specs.packages.Component.{Component}
use Rattle.external_flash.specs.Areas.{Differs}
use Rattle.kept_laws.specs.Held.{IsReadable}
use Rattle.kept_laws.proofs.Programs.{each_page_is_in_one_part}
use Rattle.kept_manifests.specs.Slots.{place_of}
use Rattle.kept_store.specs.declared.set.StoredSet.{StoredSet}
use Rattle.kept_store.specs.Sets.{HoldsSet}
use Rattle.kept_symbols.specs.Stored.{symbol_area}
use Rattle.kept_symbols.specs.Changes.{symbol_pages, OnlySymbols, IsWorn}

-- ---- what is changed

pub symbols_start : (s : State) → OnlySymbols s s
symbols_start s = record { pages = only_starts symbol_pages s; parts = refl }

put_page : (s t : State) (page : ℕ) (bytes : List ℕ) → 18 ≤ page → page < 50 → parts_of t.prog t.ext ≡ record (parts_of s.prog s.ext) { symbols = symbol_area t }
    → parts_of (with_page t (Ext page) bytes).prog (with_page t (Ext page) bytes).ext ≡ record (parts_of s.prog s.ext) { symbols = symbol_area (with_page t (Ext page) bytes) }
put_page s t page bytes from to before =
    let y : State = with_page t (Ext page) bytes in
    let one = each_page_is_in_one_part.symbols t.prog t.ext page bytes from to in
    let area : symbol_area y ≡ _ = ap (λ (p : Parts). p.symbols) one in
    one ∙ ap (λ (a : List ℕ). record (parts_of t.prog t.ext) { symbols = a }) (sym area) ∙ ap (λ (p : Parts). record p { symbols = symbol_area y }) before

-- a page of the area is programmed
pub symbols_program : (needed : State → Type 0) (s t y : State) (page : ℕ) → OnlySymbols s t → 18 ≤ page → page < 50 → MayHold needed (Ext page) t y → OnlySymbols s y
symbols_program needed s t y page only from to (inl same) = subst (OnlySymbols s) (sym same) only
symbols_program needed s t y page only from to (inr spoilt) = subst (OnlySymbols s) (sym spoilt.1.is) (record {
  pages = only_programs symbol_pages needed (Ext page) s t (with_page t (Ext page) spoilt.1.bytes) only.pages (grind (arith, nat_tests)) (inr (spoilt.0, record { bytes = spoilt.1.bytes; whole = spoilt.1.whole; is = refl }));
  parts = put_page s t page spoilt.1.bytes from to only.parts;
})

-- a set that a board holds, in a state where only the area was changed: program flash, the inbox and the tables stay
pub holds_still : (s x : State) (set : StoredSet) (components : List Component) → OnlySymbols s x → HoldsSet s set components → HoldsSet x set components
holds_still s x set components only holds = record {
  count = holds.count;
  each = λ k c at.
      let own = holds.each k c at in
      record {
        readable = subst (λ (p : Parts). IsReadable p.prog p.tables p.inbox (place_of set.slots k) (get_or set.code_at k 0) (get_or set.init_at k 0) c) (sym only.parts) own.readable;
        header = own.header;
      };
}

-- ---- how often a page is programmed

-- the first p pages of the area were programmed, each once at most and only where its bytes were others; no other page was
pub record IsWornTo (p : ℕ) (s x : State) (old new : View) : Type 0 where
  pub once : (place : Place) → new.programs place ≤ old.programs place + 1
  pub each : (place : Place) → (new.programs place ≡ old.programs place) ⊎ (page_at s place ≢ page_at x place)
  pub later : (place : Place) → ext_pages 18 (17 + p) place ≡ false → (new.programs place ≡ old.programs place) × (page_at x place ≡ page_at s place)

pub worn_none : (s : State) (old new : View) → Reads old new → IsWornTo 0 s s old new
worn_none s old new read = record {
  once = λ place. omega (arith, read.programs place);
  each = λ place. inl (read.programs place);
  later = λ place no. (read.programs place, refl);
}

pub worn_reads : (p : ℕ) (s x : State) (old mid new : View) → IsWornTo p s x old mid → Reads mid new → IsWornTo p s x old new
worn_reads p s x old mid new worn read = record {
  once = λ place. omega (arith, worn.once place, read.programs place);
  each = λ place. ⊎_elim (λ same. inl (read.programs place ∙ same)) (λ other. inr other) (worn.each place);
  later = λ place no. let was = worn.later place no in (read.programs place ∙ was.0, was.1);
}

-- a place is this page, or another
place_cases : (place : Place) (page : ℕ) → (place ≡ Ext page) ⊎ (place ≢ Ext page)
place_cases (Prog n) page = inr (λ same. absurd cc)
place_cases (Ext n) page = elim (cases_eq n page) [ inl same ↦ inl (ap Ext same) | inr other ↦ inr (λ same. other (let e : n ≡ page = cc in e)) ]

-- a page behind the first p is none of them
behind : (p : ℕ) → ext_pages 18 (17 + p) (Ext (18 + p)) ≡ false
behind p = grind (arith, nat_tests)

fewer : (p : ℕ) (place : Place) → ext_pages 18 (17 + (p + 1)) place ≡ false → ext_pages 18 (17 + p) place ≡ false
fewer p (Prog n) out = refl
fewer p (Ext n) out = grind (arith, nat_tests)

not_last : (p : ℕ) (place : Place) → ext_pages 18 (17 + (p + 1)) place ≡ false → place ≢ Ext (18 + p)
not_last p place out same = absurd (false≢true (sym out ∙ ap (ext_pages 18 (17 + (p + 1))) same ∙ there))
  where
    there : ext_pages 18 (17 + (p + 1)) (Ext (18 + p)) ≡ true
    there = grind (arith, nat_tests)

-- the next page is programmed where it differs
pub worn_more : (p : ℕ) (s t : State) (bytes : List ℕ) (did : Bool) (old mid new : View) → IsState t → 18 + p < 2048 → IsWornTo p s t old mid → mid.state ≡ Some t
    → Programs (Differs (Ext (18 + p)) bytes) (Ext (18 + p)) mid new → IsTrue did ↔ Differs (Ext (18 + p)) bytes t → IsWornTo (p + 1) s (with_page t (Ext (18 + p)) bytes) old new
worn_more p s t bytes did old mid new state room worn told program answer = record {
  once = λ place. ⊎_elim
      (λ here. subst (λ (q : Place). new.programs q ≤ old.programs q + 1) (sym here) (omega (arith, (program.at_most t told).0, first.0)))
      (λ other. omega (arith, program.others t place told other, worn.once place))
      (place_cases place (18 + p));
  each = λ place. ⊎_elim
      (λ here. subst (λ (q : Place). (new.programs q ≡ old.programs q) ⊎ (page_at s q ≢ page_at x q)) (sym here) (this did refl))
      (λ other. ⊎_elim
      (λ same. inl (program.others t place told other ∙ same))
      (λ differs. inr (λ same. differs (same ∙ page_at-apart t (Ext (18 + p)) place bytes other)))
      (worn.each place))
      (place_cases place (18 + p));
  later = λ place no.
      let other = not_last p place no in
      let was = worn.later place (fewer p place no) in
      (program.others t place told other ∙ was.0, page_at-apart t (Ext (18 + p)) place bytes other ∙ was.1);
}
  where
    x : State
    x = with_page t (Ext (18 + p)) bytes

    first : (mid.programs (Ext (18 + p)) ≡ old.programs (Ext (18 + p))) × (page_at t (Ext (18 + p)) ≡ page_at s (Ext (18 + p)))
    first = worn.later (Ext (18 + p)) (behind p)

    this : (b : Bool) → did ≡ b → (new.programs (Ext (18 + p)) ≡ old.programs (Ext (18 + p))) ⊎ (page_at s (Ext (18 + p)) ≢ page_at x (Ext (18 + p)))
    this true is = inr (λ same. answer.0 (subst IsTrue (sym is) refl) (first.1 ∙ same ∙ page_at-with_page t (18 + p) bytes state room))
    this false is = inl ((program.none t told (λ differs. false≢true (subst IsTrue is (answer.1 differs)))).0 ∙ first.0)

-- a page outside the area
outside : (p : ℕ) (place : Place) → p ≤ 32 → (symbol_pages place ≡ true → ⊥) → ext_pages 18 (17 + p) place ≡ false
outside p (Prog n) few free = refl
outside p (Ext n) few free = ⊎_elim (λ inside. absurd (free inside)) (λ no. grind (arith, nat_tests)) (cases_Bool (symbol_pages (Ext n)))

-- so it was, from each state that is told at first to one that is told now
abbrev pub WornTo : ℕ → View → View → Type 0
WornTo p old new = (s : State) → old.state ≡ Some s → (x : State) × (new.state ≡ Some x) × IsWornTo p s x old new

-- where the calls of the board did not fail, and where one failed in reading
pub worn_so : (p : ℕ) (b : Bool) (old new : View) → p ≤ 32 → WornTo p old new → WearsOnce (IsWorn b new) old new
worn_so p true old new few worn = record {
  once = λ s was. (worn s was).2.once;
  none = λ s was place free. ((worn s was).2.later place (outside p place few free)).0;
}
worn_so p false old new few worn = record {
  once = λ s was. (worn s was).2.once;
  none = λ s was place free.
      let now = worn s was in
      ⊎_elim (λ same. same) (λ differs. absurd (free (λ y there. subst (λ (z : State). page_at s place ≢ page_at z place) (same_Some now.0 y (sym now.1 ∙ there)) differs))) (now.2.each place);
}

-- where the program of the next page failed
pub worn_failed : (p : ℕ) (needed : State → Type 0) (old mid new : View) → p < 32 → WornTo p old mid → Programs needed (Ext (18 + p)) mid new → WearsOnce (IsWorn true new) old new
worn_failed p needed old mid new few worn program = record {
  once = λ s was place.
      let now = worn s was in
      ⊎_elim
      (λ here. subst (λ (q : Place). new.programs q ≤ old.programs q + 1) (sym here) (omega (arith, (program.at_most now.0 now.1).0, (now.2.later (Ext (18 + p)) (behind p)).0)))
      (λ other. omega (arith, program.others now.0 place now.1 other, now.2.once place))
      (place_cases place (18 + p));
  none = λ s was place free.
      let now = worn s was in
      let out = outside (p + 1) place (omega arith) free in
      program.others now.0 place now.1 (not_last p place out) ∙ (now.2.later place (fewer p place out)).0;
}
