-- What the words of soundness give each other at a commit and at its end.
use Rattle.std.proofs.Common.{◌≡◌, ◌≢◌, inl, inr, ℕ, Bool, false, cond, Option, Some, None, List, [], ◌∷◌, map, set, get_or, refl, sym, ap, ap₂, subst, ◌∙◌, get_or-set_other}
use Rattle.std.specs.Prelude.{not, is_some, unwrap_or}
use Rattle.std.specs.List.{concat, AllByRecursion}
use Rattle.std.proofs.lemmas.Bool.{cases_Bool}
use Rattle.component_package.specs.declared.manifest.Entry.{Entry}
use Rattle.component_package.specs.packages.Component.{Component}
use Rattle.component_package.specs.link.Pages.{IsPages}
use Rattle.component_package.specs.packages.Manifest.{Release}
use Rattle.kept_definitions.specs.Runs.{run_in_table, run_in_package, taken_back}
use Rattle.kept_definitions.specs.Stored.{Placed, StoredRelease, Stores}
use Rattle.kept_definitions.specs.Kept.{Chosen, HoldPackages, table_run, going_run, kept_packages, going_packages, components_in, coming_set, held_slot, held_slots, least_free, place, placed_from, slots_for}
use Rattle.kept_definitions.specs.Sides.{kept_set, going_set}
use Rattle.kept_definitions.specs.Sound.{IsInstalled, IsGoing, Comes, HasImage, IsNext}
use Rattle.kept_laws.specs.Laws.{IsOver, IsNow, KeepsItsRun, AreAll, IsOnItsWay}
use Rattle.kept_laws.specs.Steps.{HasNoRun, SameRun}
use Rattle.kept_laws.proofs.Sets.{going_is_the_set, coming_is_on_its_way, going_is_kept}
use Rattle.kept_laws.proofs.Stored.{release_one}

-- ---- slots over a release

-- an entry that isn't fresh has the slot that it had
placed_over : (current : StoredRelease) (taken : List ℕ) (e : Entry) → IsOver current (place current taken e)
placed_over current taken e = at (held_slot current e) refl
  where
    at : (o : Option ℕ) → held_slot current e ≡ o → not (is_some (held_slot current e)) ≡ false → held_slot current e ≡ Some (unwrap_or (held_slot current e) (least_free taken))
    at (Some s) is held = rw is refl
    at None is held = absurd (let h = rw is at held in cc)

-- so have all
over_from : (current : StoredRelease) (taken : List ℕ) (es : List Entry) → AllByRecursion (IsOver current) (placed_from current taken es)
over_from current taken [] = tt
over_from current taken (e ∷ es) = (placed_over current taken e, over_from current (cond (place current taken e).fresh ((place current taken e).slot ∷ taken) taken) es)

-- the entries of a release over a current one
pub all_over : (current : StoredRelease) (r : Release) → AllByRecursion (IsOver current) (slots_for current r).placed
all_over current r = over_from current (held_slots current r.entries) r.entries

-- ---- a commit

-- what comes in, where its image is staged
record IsWhole (tables prog inbox staged : List (List ℕ)) (current side : List ℕ) : Type 0 where
  pub comes : Comes tables prog inbox current side
  pub image : IsPages (coming_set comes.now inbox comes.next) staged
  pub all : AreAll (IsOnItsWay tables inbox) comes.next.placed (coming_set comes.now inbox comes.next)

whole : (tables prog inbox staged : List (List ℕ)) (current side : List ℕ) → IsInstalled tables prog current → IsNext current side → HasImage tables prog inbox current side staged
    → IsWhole tables prog inbox staged current side
unfolding IsInstalled IsNext HasImage
whole tables prog inbox staged current side (n, stores, hold, pages) (m, r, stores_m, is_release, above, stores_next) (c, image) =
    let same : n ≡ c.now.release = release_one current n c.now.release stores c.is_now in
    let former : m ≡ c.now.release = release_one current m c.now.release stores_m c.is_now in
    let next : slots_for c.now.release r ≡ c.next = ap (λ (x : StoredRelease). slots_for x r) (sym former) ∙ release_one side (slots_for m r) c.next stores_next c.is_next in
    let over = subst (λ (x : StoredRelease). AllByRecursion (IsOver c.now.release) x.placed) next (all_over c.now.release r) in
    let now : IsNow tables prog c.now = record { packages = subst (λ (x : StoredRelease). HoldPackages x.placed (kept_packages tables prog x)) same hold; set = c.set } in
    record { comes = c; image = image; all = coming_is_on_its_way tables prog inbox c.now c.next now c.there over }

-- an incoming set whose image is staged can be installed from it
pub can_go : (tables prog inbox staged : List (List ℕ)) (current side : List ℕ) → IsInstalled tables prog current → IsNext current side → HasImage tables prog inbox current side staged
    → IsGoing tables inbox staged side
unfolding IsGoing
can_go tables prog inbox staged current side installed next image =
    let w = whole tables prog inbox staged current side installed next image in
    let m = w.comes.next in
    let set = coming_set w.comes.now inbox m in (
      m,
      w.comes.is_next,
      going_is_the_set.packages tables inbox staged m set w.image w.all,
      subst (λ (s : List Component). IsPages s staged) (sym (going_is_the_set.set tables inbox staged m set w.image w.all)) w.image,
    )

-- and is the same set
pub goes_as_it_came : (tables prog inbox staged : List (List ℕ)) (current side : List ℕ) → IsInstalled tables prog current → IsNext current side → HasImage tables prog inbox current side staged
    → (now : Chosen) → Stores current now.release → kept_set tables prog now.release ≡ now.set → (m : StoredRelease) → Stores side m
    → going_set tables inbox staged m ≡ coming_set now inbox m
goes_as_it_came tables prog inbox staged current side installed next image now is_now set m is_m =
    let w = whole tables prog inbox staged current side installed next image in
    let c = w.comes in
    let release : c.now.release ≡ now.release = release_one current c.now.release now.release c.is_now is_now in
    let sets : c.now.set ≡ now.set = sym c.set ∙ ap (kept_set tables prog) release ∙ set in
    let same : c.now ≡ now = λ i. record { release = release i; set = sets i } in
    let next : m ≡ c.next = release_one side m c.next is_m c.is_next in
    ap (going_set tables inbox staged) next ∙ going_is_the_set.set tables inbox staged c.next (coming_set c.now inbox c.next) w.image w.all
    ∙ ap₂ (λ (x : Chosen) (y : StoredRelease). coming_set x inbox y) same (sym next)

-- ---- its end

-- what goes is installed, once it is in program flash and its runs are in the tables
pub comes_to_rest : (tables inbox staged : List (List ℕ)) (side : List ℕ) → IsGoing tables inbox staged side
    → ((m : StoredRelease) → Stores side m → AllByRecursion (KeepsItsRun tables inbox) m.placed) → IsInstalled tables staged side
unfolding IsGoing IsInstalled
comes_to_rest tables inbox staged side (m, stores, hold, pages) keeps =
    let same = sym (going_is_kept tables inbox staged m hold (keeps m stores)) in
    (m, stores, subst (HoldPackages m.placed) same hold, subst (λ (ps : List (List ℕ)). IsPages (components_in ps) staged) same pages)

-- and it is the same set
pub rests_as_it_went : (tables inbox staged : List (List ℕ)) (side : List ℕ) → IsGoing tables inbox staged side
    → ((m : StoredRelease) → Stores side m → AllByRecursion (KeepsItsRun tables inbox) m.placed) → (m : StoredRelease) → Stores side m
    → kept_set tables staged m ≡ going_set tables inbox staged m
unfolding IsGoing
rests_as_it_went tables inbox staged side (n, stores, hold, pages) keeps m is_m =
    let same : n ≡ m = release_one side n m stores is_m in
    let hold_m = subst (λ (x : StoredRelease). HoldPackages x.placed (going_packages tables inbox staged x)) same hold in
    ap components_in (going_is_kept tables inbox staged m hold_m (keeps m is_m))

-- ---- table slots that change

-- the runs of a release in which no run stands in this slot
same_runs : (tables inbox : List (List ℕ)) (s : ℕ) (bytes : List ℕ) (ps : List Placed) → AllByRecursion (λ q. q.fresh ≡ false → q.slot ≢ s) ps
    → map (going_run (set tables s bytes) inbox) ps ≡ map (going_run tables inbox) ps
same_runs tables inbox s bytes [] all = refl
same_runs tables inbox s bytes (p ∷ ps) all = ap₂ (λ (x : List ℕ) (xs : List (List ℕ)). x ∷ xs) here (same_runs tables inbox s bytes ps all.1)
  where
    here : going_run (set tables s bytes) inbox p ≡ going_run tables inbox p
    here = elim (cases_Bool p.fresh) [
      | inl e ↦ ap (λ (f : Bool). cond f (run_in_package (get_or inbox p.slot [])) (table_run (set tables s bytes) p)) e
          ∙ sym (ap (λ (f : Bool). cond f (run_in_package (get_or inbox p.slot [])) (table_run tables p)) e)
      | inr e ↦ ap (λ (f : Bool). cond f (run_in_package (get_or inbox p.slot [])) (table_run (set tables s bytes) p)) e
          ∙ ap run_in_table (get_or-set_other tables s p.slot bytes [] (all.0 e))
          ∙ sym (ap (λ (f : Bool). cond f (run_in_package (get_or inbox p.slot [])) (table_run tables p)) e)
    ]

-- the same packages go
pub same_going : (tables inbox staged : List (List ℕ)) (s : ℕ) (bytes : List ℕ) (m : StoredRelease)
    → HasNoRun m s → going_packages (set tables s bytes) inbox staged m ≡ going_packages tables inbox staged m
unfolding going_packages
same_going tables inbox staged s bytes m none = ap (taken_back (concat staged)) (same_runs tables inbox s bytes m.placed none)

-- so the release can go as before
pub still_goes : (tables inbox staged : List (List ℕ)) (s : ℕ) (bytes side : List ℕ)
    → ((m : StoredRelease) → Stores side m → HasNoRun m s) → IsGoing tables inbox staged side → IsGoing (set tables s bytes) inbox staged side
unfolding IsGoing
still_goes tables inbox staged s bytes side none (m, stores, hold, pages) =
    let same = sym (same_going tables inbox staged s bytes m (none m stores)) in
    (m, stores, subst (HoldPackages m.placed) same hold, subst (λ (ps : List (List ℕ)). IsPages (components_in ps) staged) same pages)

-- ---- tables that keep their runs

kept_runs : (before after : List (List ℕ)) (ps : List Placed) → AllByRecursion (SameRun before after) ps → map (table_run after) ps ≡ map (table_run before) ps
kept_runs before after [] all = refl
kept_runs before after (p ∷ ps) all = ap₂ (λ (x : List ℕ) (xs : List (List ℕ)). x ∷ xs) all.0 (kept_runs before after ps all.1)

pub same_kept : (before after pages : List (List ℕ)) (m : StoredRelease) → AllByRecursion (SameRun before after) m.placed → kept_packages after pages m ≡ kept_packages before pages m
unfolding kept_packages
same_kept before after pages m all = ap (taken_back (concat pages)) (kept_runs before after m.placed all)

-- the same is installed
pub still_installed : (before after pages : List (List ℕ)) (side : List ℕ) → ((m : StoredRelease) → Stores side m → AllByRecursion (SameRun before after) m.placed)
    → IsInstalled before pages side → IsInstalled after pages side
unfolding IsInstalled
still_installed before after pages side all (m, stores, hold, image) =
    let same = sym (same_kept before after pages m (all m stores)) in
    (m, stores, subst (HoldPackages m.placed) same hold, subst (λ (ps : List (List ℕ)). IsPages (components_in ps) pages) same image)
