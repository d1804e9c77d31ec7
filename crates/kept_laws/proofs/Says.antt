-- The words of soundness where the releases are known.
use Rattle.std.proofs.Common.{◌≡◌, ◌↔◌, ℕ, ◌<◌, true, false, List, None, refl, sym, ap, subst, ◌∙◌}
use Rattle.component_package.specs.packages.Component.{Component}
use Rattle.component_package.specs.link.Areas.{MergedSymbol, Tells, Lists}
use Rattle.component_package.specs.link.Pages.{IsTableOf, listed, IsPages}
use Rattle.component_package.specs.link.Link.{IsLate, link_cause}
use Rattle.component_package.specs.packages.Manifest.{Release, IsRelease}
use Rattle.kept_definitions.specs.Stored.{StoredRelease, Stores}
use Rattle.kept_definitions.specs.Kept.{Chosen, HoldPackages, kept_packages, going_packages, coming_set, HasComing, slots_for}
use Rattle.kept_definitions.specs.Sides.{Parts, chosen_side, is_pending, kept_set, going_set, set_of}
use Rattle.kept_definitions.specs.Sound.{IsInstalled, IsGoing, Comes, HoldsSet, HasNoCause, HasLateCause, HasTable, HasList, HasImage, IsNext, IsSound}
use Rattle.kept_definitions.specs.Headline.{Chooses}
use Rattle.kept_laws.specs.Invariant.{AreEntries}
use Rattle.kept_laws.specs.Words.{AreKnown, WordsSayWhatTheyMean, ImageIsTheChosens}
use Rattle.kept_laws.proofs.Stored.{release_one}
use Rattle.kept_laws.proofs.Steps.{at_rest, standing}
use Rattle.kept_laws.proofs.Invariant.{chosen_whole}

-- ---- a side

module _ (side : List ℕ) (m : StoredRelease) (stores : Stores side m) where
  -- the release that a word names is the one that is known
  known : (P : StoredRelease → Type 0) (n : StoredRelease) → Stores side n → P n → P m
  known P n stores_n holds = subst P (release_one side n m stores_n stores) holds

  -- it is installed
  installed_says : (tables prog : List (List ℕ)) → IsInstalled tables prog side ↔ (HoldPackages m.placed (kept_packages tables prog m) × IsPages (kept_set tables prog m) prog)
  unfolding IsInstalled
  installed_says tables prog = (
    (λ (n, stores_n, hold, image). known (λ k. HoldPackages k.placed (kept_packages tables prog k) × IsPages (kept_set tables prog k) prog) n stores_n (hold, image)),
    (λ (hold, image). (m, stores, hold, image)),
  )

  -- it is being installed
  going_says : (tables inbox staged : List (List ℕ))
      → IsGoing tables inbox staged side ↔ (HoldPackages m.placed (going_packages tables inbox staged m) × IsPages (going_set tables inbox staged m) staged)
  unfolding IsGoing
  going_says tables inbox staged = (
    (λ (n, stores_n, hold, image). known (λ k. HoldPackages k.placed (going_packages tables inbox staged k) × IsPages (going_set tables inbox staged k) staged) n stores_n (hold, image)),
    (λ (hold, image). (m, stores, hold, image)),
  )

  -- the other side is next
  next_says : (other : List ℕ) → IsNext side other ↔ ((r : Release) × IsRelease r × (m.number < r.number) × Stores other (slots_for m r))
  unfolding IsNext
  next_says other = (
    (λ (n, r, stores_n, release, above, next). known (λ k. (r : Release) × IsRelease r × (k.number < r.number) × Stores other (slots_for k r)) n stores_n (r, release, above, next)),
    (λ (r, release, above, next). (m, r, stores, release, above, next)),
  )

-- ---- what comes in

module _ (tables prog inbox : List (List ℕ)) (current side : List ℕ) (now : Chosen) (next : StoredRelease) (are : AreKnown tables prog current side now next) where
  -- what comes in where it is there
  abbrev comes : HasComing now inbox next → Comes tables prog inbox current side
  comes there = record { now = now; is_now = are.is_now; set = are.set; next = next; is_next = are.is_next; there = there }

  -- the releases and the set that a word names are those that are known
  meant : (P : Chosen → StoredRelease → Type 0) (c : Comes tables prog inbox current side) → P c.now c.next → P now next
  meant P c holds =
      let release : c.now.release ≡ now.release = release_one current c.now.release now.release c.is_now are.is_now in
      let sets : c.now.set ≡ now.set = sym c.set ∙ ap (kept_set tables prog) release ∙ are.set in
      let same : c.now ≡ now = λ i. record { release = release i; set = sets i } in
      subst (P now) (release_one side c.next next c.is_next are.is_next) (subst (λ (x : Chosen). P x c.next) same holds)

  -- it is there
  there_of : (c : Comes tables prog inbox current side) → HasComing now inbox next
  there_of c = meant (λ x y. HasComing x inbox y) c c.there

  set_says : HoldsSet tables prog inbox current side ↔ HasComing now inbox next
  unfolding HoldsSet
  set_says = ((λ c. there_of c), (λ there. comes there))

  -- nothing refuses it
  no_cause_says : HasNoCause tables prog inbox current side ↔ (HasComing now inbox next × (link_cause (coming_set now inbox next) ≡ None))
  unfolding HasNoCause
  no_cause_says = ((λ (c, none). (there_of c, meant (λ x y. link_cause (coming_set x inbox y) ≡ None) c none)), (λ (there, none). (comes there, none)))

  -- nothing refuses it before its fields
  late_cause_says : HasLateCause tables prog inbox current side ↔ (HasComing now inbox next × IsLate (link_cause (coming_set now inbox next)))
  unfolding HasLateCause
  late_cause_says = ((λ (c, late). (there_of c, meant (λ x y. IsLate (link_cause (coming_set x inbox y))) c late)), (λ (there, late). (comes there, late)))

  -- the area is its symbol table
  table_says : (area : List ℕ) → HasTable tables prog inbox current side area
      ↔ (HasComing now inbox next × ((t : List MergedSymbol) × IsTableOf (coming_set now inbox next) t × Tells area t))
  unfolding HasTable
  table_says area = (
    (λ (c, t, is, tells). (there_of c, meant (λ x y. (t : List MergedSymbol) × IsTableOf (coming_set x inbox y) t × Tells area t) c (t, is, tells))),
    (λ (there, (t, is, tells)). (comes there, t, is, tells)),
  )

  -- the area is its relocation list
  list_says : (area : List ℕ) → HasList tables prog inbox current side area
      ↔ (HasComing now inbox next × ((t : List MergedSymbol) × IsTableOf (coming_set now inbox next) t × Lists area (listed (coming_set now inbox next) t)))
  unfolding HasList
  list_says area = (
    (λ (c, t, is, lists). (there_of c, meant (λ x y. (t : List MergedSymbol) × IsTableOf (coming_set x inbox y) t × Lists area (listed (coming_set x inbox y) t)) c (t, is, lists))),
    (λ (there, (t, is, lists)). (comes there, t, is, lists)),
  )

  -- the pages are its image
  image_says : (pages : List (List ℕ)) → HasImage tables prog inbox current side pages ↔ (HasComing now inbox next × IsPages (coming_set now inbox next) pages)
  unfolding HasImage
  image_says pages = ((λ (c, is). (there_of c, meant (λ x y. IsPages (coming_set x inbox y) pages) c is)), (λ (there, is). (comes there, is)))

pub words_say_what_they_mean : WordsSayWhatTheyMean
words_say_what_they_mean = record {
  side = λ side m stores. record { installed = installed_says side m stores; going = going_says side m stores; next = next_says side m stores };
  coming = λ tables prog inbox current side now next are. record {
    set = set_says tables prog inbox current side now next are;
    no_cause = no_cause_says tables prog inbox current side now next are;
    late_cause = late_cause_says tables prog inbox current side now next are;
    table = table_says tables prog inbox current side now next are;
    list = list_says tables prog inbox current side now next are;
    image = image_says tables prog inbox current side now next are;
  };
}

-- ---- what is chosen

-- the chosen set is the one that is installed
boots : (p : Parts) (c : Chosen) → IsSound p → is_pending p ≡ false → Chooses p c → IsPages c.set p.prog
boots p c sound calm chooses =
    subst (λ (set : List Component). IsPages set p.prog) (sym (at_rest p c.release calm) ∙ chooses.set)
    ((installed_says (chosen_side p) c.release chooses.release p.tables p.prog).0 (sound.rest calm).installed).1

-- or the one that goes
stands : (p : Parts) (c : Chosen) → IsSound p → is_pending p ≡ true → Chooses p c → IsPages c.set p.staged
stands p c sound pending chooses =
    subst (λ (set : List Component). IsPages set p.staged) (sym (standing p c.release pending) ∙ chooses.set)
    ((going_says (chosen_side p) c.release chooses.release p.tables p.inbox p.staged).0 (sound.going pending)).1

-- it is whole
whole : (p : Parts) (c : Chosen) → IsSound p → Chooses p c → AreEntries c × (link_cause c.set ≡ None)
whole p c sound chooses =
    let chosen = chosen_whole p sound (is_pending p) refl in
    let release : chosen.0 ≡ c.release = release_one (chosen_side p) chosen.0 c.release chosen.1 chooses.release in
    let sets : set_of p chosen.0 ≡ c.set = ap (set_of p) release ∙ chooses.set in
    let same : record { release = chosen.0; set = set_of p chosen.0 } ≡ c = λ i. record { release = release i; set = sets i } in
    (subst AreEntries same chosen.2, ap link_cause (sym sets) ∙ chosen.3)

pub image_is_the_chosens : ImageIsTheChosens
image_is_the_chosens = record { boots = boots; stands = stands; whole = whole }
