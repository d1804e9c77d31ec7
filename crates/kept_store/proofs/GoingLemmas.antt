-- For the loader: a package that is being installed fits its slot, and a table slot that keeps its run keeps its entry's.
use Rattle.std.proofs.Common.{◌≡◌, ℕ, ◌<◌, ◌≤◌, Bool, true, cond, Some, List, [], ◌++◌, length, take, get_or, set, sym, ap, ◌∙◌, arith, slice_range}
use Rattle.std.specs.Prelude.{slice_get}
use Rattle.std.proofs.lemmas.List.{take_at, length-take-le, get_or-set_same}
use Rattle.flash_pages.specs.State.{State, IsState}
use Rattle.flash_pages.specs.Board.{View}
use Rattle.component_package.specs.declared.part.Header.{Header}
use Rattle.component_package.specs.packages.Component.{Component, spelling}
use Rattle.component_package.specs.packages.Manifest.{IsManifestEntry}
use Rattle.component_package.specs.packages.Reading.{header_of, header_of_component, exports_at, total_of}
use Rattle.component_package.proofs.Laws.{steps_find_the_fault}
use Rattle.component_package.proofs.Lists.{all_at}
use Rattle.component_package.proofs.ReadAgain.{length-spelling}
use Rattle.kept_definitions.specs.Runs.{run_of, run_in_package}
use Rattle.kept_definitions.specs.Stored.{Placed, StoredRelease, IsStored}
use Rattle.kept_definitions.specs.Kept.{HoldPackages, inbox_of, tables_of, table_run, going_run, going_packages}
use Rattle.kept_definitions.specs.Sides.{Parts, going_set}
use Rattle.kept_laws.specs.Laws.{HasGoingRun, KeepsItsRun}
use Rattle.kept_laws.proofs.Reading.{header_alone}
use Rattle.kept_laws.proofs.Sets.{going_is_the_set}
use Rattle.kept_store.specs.Tables.{inbox_slot, FitsSlot, KeepsRun}
use Rattle.kept_store.proofs.RestLemmas.{pair_of}
use Rattle.kept_store.proofs.TableLemmas.{length-inbox, length-tables}

-- the run of a package has its header
packed_header : (b : List ℕ) → 32 ≤ length b → header_of (run_in_package b) ≡ header_of b
packed_header b room =
    let h : Header = header_of b in
    let tail : List ℕ = slice_range b (exports_at h) (total_of h) in
    sym (steps_find_the_fault.header (take 32 b ++ tail)) ∙ ap header_of (take_at (take 32 b) tail 32 (length-take-le 32 b room)) ∙ steps_find_the_fault.header b

-- a fresh entry's run, as it goes
fresh_run : (tables inbox : List (List ℕ)) (p : Placed) → p.fresh ≡ true → going_run tables inbox p ≡ run_in_package (get_or inbox p.slot [])
fresh_run tables inbox p fresh = ap (λ (f : Bool). cond f (run_in_package (get_or inbox p.slot [])) (table_run tables p)) fresh

-- so no package of a set that is being installed is passed over
pub going_fits : (s : State) → IsState s → (staged : List (List ℕ)) (m : StoredRelease) (k : ℕ) (p : Placed) → IsStored m
    → HoldPackages m.placed (going_packages (tables_of s.ext) (inbox_of s.ext) staged m) → slice_get m.placed k ≡ Some p → p.fresh ≡ true → FitsSlot p.slot s
going_fits s is staged m k p stored holds at fresh =
    let tables : List (List ℕ) = tables_of s.ext in
    let inbox : List (List ℕ) = inbox_of s.ext in
    let b : List ℕ = inbox_slot p.slot s in
    let own = pair_of (HasGoingRun tables inbox) m.placed (going_set tables inbox staged m) k p (going_is_the_set.found tables inbox staged m holds) at in
    let c : Component = own.0 in
    let low : p.slot < 16 = all_at (λ (q : Placed). q.slot < 16) m.placed k p stored.slots at in
    let entry : IsManifestEntry p.entry = all_at (λ (q : Placed). IsManifestEntry q.entry) m.placed k p stored.entries at in
    let run : run_in_package b ≡ run_of c = sym (fresh_run tables inbox p fresh) ∙ own.2.run in
    let header : header_of b ≡ header_of_component c = sym (packed_header b (omega (arith, length-inbox s is p.slot low))) ∙ ap header_of run ∙ header_alone c in
    let total : total_of (header_of b) ≡ length (spelling c) = ap total_of header ∙ sym (length-spelling c) in
    omega (arith, total, own.2.entry.size, entry.most)

-- what is kept is what the end of an installation asks for
pub keeps_its_run : (s : State) (v : View) (p : Placed) → p.slot < 16 → (keeps : KeepsRun p.slot s v) → KeepsItsRun (tables_of keeps.end.ext) (inbox_of s.ext) p
keeps_its_run s v p low keeps fresh =
    let tables : List (List ℕ) = tables_of s.ext in
    let bytes : List ℕ = run_in_package (inbox_slot p.slot s) ++ keeps.rest in
    let run : going_run (tables_of keeps.end.ext) (inbox_of s.ext) p ≡ run_in_package (inbox_slot p.slot s) = fresh_run (tables_of keeps.end.ext) (inbox_of s.ext) p fresh in
    record {
      rest = keeps.rest;
      is = ap (λ (q : Parts). get_or q.tables p.slot []) keeps.parts_are ∙ get_or-set_same tables p.slot bytes [] (omega (arith, length-tables s.ext))
          ∙ ap (λ (l : List ℕ). l ++ keeps.rest) (sym run);
    }
