-- Components of an installed set can be read.
use Rattle.std.proofs.Common.{◌≡◌, ℕ, zero, suc, ◌+◌, ◌-◌, ◌*◌, ◌≤◌, true, false, Some, List, [], ◌∷◌, length, take, replicate, ap, subst, ◌∙◌, arith, slice_range}
use Rattle.std.specs.Prelude.{slice_get}
use Rattle.std.specs.List.{concat, AllByRecursion}
use Rattle.component_package.specs.packages.Component.{Component}
use Rattle.component_package.specs.packages.Grammar.{IsComponent}
use Rattle.component_package.specs.link.Layout.{code_base, load_base}
use Rattle.component_package.specs.link.Link.{rooms_of}
use Rattle.component_package.specs.link.Pages.{padded, IsPages}
use Rattle.kept_definitions.specs.Runs.{cleared}
use Rattle.kept_definitions.specs.Stored.{Placed}
use Rattle.kept_definitions.specs.Sides.{kept_set}
use Rattle.link_laws.proofs.Apart.{IsAt}
use Rattle.link_laws.proofs.Own.{no_cause}
use Rattle.link_laws.proofs.Room.{room_from_cause, plain_length}
use Rattle.kept_laws.specs.Laws.{AreAll, IsInTable}
use Rattle.kept_laws.specs.Held.{InstalledIsReadable}
use Rattle.kept_laws.proofs.Image.{part_within, part_taken}
use Rattle.kept_laws.proofs.Whole.{joined_from, slice_joined}
use Rattle.kept_laws.proofs.Sets.{kept_is_the_set}

-- what holds of each pair
pair_at : (P : Placed → Component → Type 0) (ps : List Placed) (cs : List Component) (k : ℕ) (p : Placed) (c : Component) → AreAll P ps cs → slice_get ps k ≡ Some p → slice_get cs k ≡ Some c → P p c
pair_at P [] cs k p c all a b = absurd cc
pair_at P (q ∷ ps) [] k p c all a b = absurd cc
pair_at P (q ∷ ps) (d ∷ cs) zero p c all a b =
    let one : q ≡ p = cc in
    let two : d ≡ c = cc in
    subst (λ (x : Placed). P x c) one (subst (λ (y : Component). P q y) two all.0)
pair_at P (q ∷ ps) (d ∷ cs) (suc k) p c all a b = pair_at P ps cs k p c all.1 a b

-- all are of the grammar
components : (tables : List (List ℕ)) (ps : List Placed) (cs : List Component) → AreAll (IsInTable tables) ps cs → AllByRecursion IsComponent cs
components tables [] [] all = tt
components tables [] (c ∷ cs) all = absurd all
components tables (p ∷ ps) [] all = absurd all
components tables (p ∷ ps) (c ∷ cs) all = (all.0.entry.component, components tables ps cs all.1)

-- the pages have the image in front
pub image_in_front : (set : List Component) (pages : List (List ℕ)) (is : IsPages set pages) (low high : ℕ)
    → low ≤ high → high ≤ length is.image → slice_range (concat pages) low high ≡ slice_range is.image low high
image_in_front set pages is low high le inside =
    let b = is.image in
    let back = replicate {A = ℕ} (122880 - length b) 255 in
    let room = (room_from_cause (rooms_of set) (no_cause set is.is.possible).room).flash in
    let few : length b ≤ 122880 = omega (arith, is.is.put.size, plain_length set, room) in
    let joined : concat pages ≡ take (256 * 480) (padded b) = ap concat is.are ∙ joined_from (padded b) 0 480 in
    ap (λ (l : List ℕ). slice_range l low high) joined ∙ slice_joined 480 b back low high le inside few

pub installed_is_readable : InstalledIsReadable
installed_is_readable prog tables inbox m k p c holds is at here =
    let set = kept_set tables prog m in
    let all = kept_is_the_set.found tables prog m holds in
    let one = pair_at (IsInTable tables) m.placed set k p c all at here in
    let place : IsAt set k c = record { here = here } in
    let taken = part_taken set (components tables m.placed set all) is.image is.is.bytes is.is.put k c place one.entry.component in
    let code = image_in_front set prog is (code_base (rooms_of set) k) (code_base (rooms_of set) k + length c.code) (omega arith) (omega (arith, part_within set k c false place, is.is.put.size)) in
    let init = image_in_front set prog is (load_base (rooms_of set) k) (load_base (rooms_of set) k + length c.init) (omega arith) (omega (arith, part_within set k c true place, is.is.put.size)) in
    record {
      entry = one.entry;
      came = λ isnt. absurd cc;
      run = λ held. one.run;
      code = λ held. ap (cleared false c.relocs) code ∙ taken false;
      init = λ held. ap (cleared true c.relocs) init ∙ taken true;
    }
