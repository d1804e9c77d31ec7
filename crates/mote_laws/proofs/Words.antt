-- The words of soundness at a release that is known.
use Rattle.std.proofs.Common.{◌≡◌, ◌↔◌, ℕ, ◌<◌, List, None, subst}
use Rattle.component_package.specs.packages.Component.{Component}
use Rattle.component_package.specs.link.Areas.{MergedSymbol, Tells, Lists}
use Rattle.component_package.specs.link.Pages.{IsTableOf, listed, IsPages}
use Rattle.component_package.specs.link.Link.{link_cause}
use Rattle.component_package.specs.packages.Manifest.{Release, StoredRelease, IsRelease, Stores}
use Rattle.component_package.specs.mote.Store.{HasSet, components_of, slots_for}
use Rattle.component_package.specs.mote.Sides.{Parts, chosen_side}
use Rattle.component_package.specs.mote.Sound.{HoldsSet, HasNoCause, HasLateCause, HasTable, HasList, HasImage, IsNext}
use Rattle.component_package.specs.link.Link.{IsLate}
use Rattle.component_package.specs.mote.Machine.{Chosen}
use Rattle.component_package.specs.mote.Headline.{Chooses}
use Rattle.mote_laws.specs.Words.{WordsSayWhatTheyMean, ImageIsTheChosens}
use Rattle.component_package.proofs.ManifestLaws.{stored_release_is_one}

module _ (slots : List (List ℕ)) (side : List ℕ) (m : StoredRelease) (stores : Stores side m) where
  -- the release that a word names is the one that is known
  known : (P : StoredRelease → Type 0) (n : StoredRelease) → Stores side n → P n → P m
  known P n stores_n holds = subst P (stored_release_is_one.release side n m stores_n stores) holds

  -- the set is there
  set_says : HoldsSet slots side ↔ HasSet slots m
  unfolding HoldsSet
  set_says = ((λ (n, stores_n, has). known (HasSet slots) n stores_n has), (λ has. (m, stores, has)))

  -- nothing refuses it
  no_cause_says : HasNoCause slots side ↔ (HasSet slots m × (link_cause (components_of slots m) ≡ None))
  unfolding HasNoCause
  no_cause_says =
      ((λ (n, stores_n, has, none). known (λ k. HasSet slots k × (link_cause (components_of slots k) ≡ None)) n stores_n (has, none)), (λ (has, none). (m, stores, has, none)))

  -- nothing refuses it before its fields
  late_cause_says : HasLateCause slots side ↔ (HasSet slots m × IsLate (link_cause (components_of slots m)))
  unfolding HasLateCause
  late_cause_says =
      ((λ (n, stores_n, has, late). known (λ k. HasSet slots k × IsLate (link_cause (components_of slots k))) n stores_n (has, late)), (λ (has, late). (m, stores, has, late)))

  -- the area is its symbol table
  table_says : (area : List ℕ) → HasTable slots side area ↔ ((t : List MergedSymbol) × IsTableOf (components_of slots m) t × Tells area t)
  unfolding HasTable
  table_says area =
      ((λ (n, t, stores_n, is, tells). known (λ k. (t : List MergedSymbol) × IsTableOf (components_of slots k) t × Tells area t) n stores_n (t, is, tells)), (λ (t, is, tells). (m, t, stores, is, tells)))

  -- the area is its relocation list
  list_says : (area : List ℕ) → HasList slots side area ↔ ((t : List MergedSymbol) × IsTableOf (components_of slots m) t × Lists area (listed (components_of slots m) t))
  unfolding HasList
  list_says area = (
    (λ (n, t, stores_n, is, lists). known (λ k. (t : List MergedSymbol) × IsTableOf (components_of slots k) t × Lists area (listed (components_of slots k) t)) n stores_n (t, is, lists)),
    (λ (t, is, lists). (m, t, stores, is, lists)),
  )

  -- the pages are its image
  image_says : (pages : List (List ℕ)) → HasImage slots side pages ↔ IsPages (components_of slots m) pages
  unfolding HasImage
  image_says pages = ((λ (n, stores_n, is). known (λ k. IsPages (components_of slots k) pages) n stores_n is), (λ is. (m, stores, is)))

  -- the other side is next
  next_says : (other : List ℕ) → IsNext side other ↔ ((r : Release) × IsRelease r × (m.number < r.number) × Stores other (slots_for m r))
  unfolding IsNext
  next_says other = (
    (λ (n, r, stores_n, release, above, next). known (λ k. (r : Release) × IsRelease r × (k.number < r.number) × Stores other (slots_for k r)) n stores_n (r, release, above, next)),
    (λ (r, release, above, next). (m, r, stores, release, above, next)),
  )

pub words_say_what_they_mean : WordsSayWhatTheyMean
words_say_what_they_mean slots side m stores = record {
  set = set_says slots side m stores;
  no_cause = no_cause_says slots side m stores;
  late_cause = late_cause_says slots side m stores;
  table = table_says slots side m stores;
  list = list_says slots side m stores;
  image = image_says slots side m stores;
  next = next_says slots side m stores;
}

-- the image of what is chosen
image_chosen : (p : Parts) (c : Chosen) (pages : List (List ℕ)) → Chooses p c → HasImage p.slots (chosen_side p) pages → IsPages c.set pages
image_chosen p c pages chooses image = subst (λ (set : List Component). IsPages set pages) chooses.set ((image_says p.slots (chosen_side p) c.release chooses.release pages).0 image)

pub image_is_the_chosens : ImageIsTheChosens
image_is_the_chosens = record {
  boots = λ p c sound calm chooses. image_chosen p c p.prog chooses (sound.rest calm).prog;
  stands = λ p c sound pending chooses. image_chosen p c p.staged chooses (sound.pending pending);
}
