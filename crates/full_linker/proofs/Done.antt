-- Fields while they are made.
use Rattle.std.proofs.Common.{◌≡◌, ℕ, ◌+◌, ◌<◌, ◌≤◌, length, List, [], ◌∷◌, ◌++◌, Some, None, Option, map, take, drop, get_or, zero, suc, sym, ap, subst, ◌∙◌, refl}
use Rattle.std.specs.Prelude.{slice_get}
use Rattle.std.specs.List.{All, AllByRecursion}
use Rattle.std.specs.Option.{option_or}
use Rattle.std.proofs.lemmas.List.{take_more, take_all, map-append, take-append-drop}
use Rattle.std.proofs.lemmas.List.Elements.{All-push}
use Rattle.std.proofs.lemmas.Option.{slice_get_within, slice_get-get_or}
use Rattle.avr_reloc.specs.declared.fixup.Fixup.{Fixup}
use Rattle.avr_reloc.specs.Field.{IsNear}
use Rattle.component_package.specs.declared.part.Site.{Site}
use Rattle.component_package.specs.packages.Component.{Component}
use Rattle.component_package.specs.packages.Grammar.{IsComponent}
use Rattle.link_laws.proofs.Room.{IsSite, all_sites}
use Rattle.component_package.specs.link.Link.{Cause, first_cause, site_cause, sites_of, fixup_of}

-- the first n relocations have no fault, and these are their fields
pub record AreDone (set : List Component) (sites : List Site) (n : ℕ) (fixups : List Fixup) : Type 0 where
  pub made : fixups ≡ map (fixup_of set) (take n sites)
  pub near : All (λ (x : Fixup). IsNear x.s_plus_a) fixups
  pub none : first_cause (site_cause set) (take n sites) ≡ None

-- the first of two, where the former is none
first_or : (a b d z : Option Cause) → option_or a b ≡ None → (b ≡ None → d ≡ z) → option_or a d ≡ z
first_or None b d z e h = h e
first_or (Some c) b d z e h = absurd cc

-- the first cause of a longer list, where the front has none
first_append : (f : Site → Option Cause) (xs ys : List Site) → first_cause f xs ≡ None → first_cause f (xs ++ ys) ≡ first_cause f ys
first_append f [] ys e = refl
first_append f (x ∷ xs) ys e = first_or (f x) (first_cause f xs) (first_cause f (xs ++ ys)) (first_cause f ys) e (first_append f xs ys)

-- the rest begins with the next element
drop_more : {X : Type 0} (xs : List X) (n : ℕ) (x : X) → slice_get xs n ≡ Some x → drop n xs ≡ x ∷ drop (suc n) xs
drop_more [] n x e = absurd cc
drop_more (y ∷ ys) zero x e = let same : y ≡ x = cc in ap (λ z. z ∷ ys) same
drop_more (y ∷ ys) (suc n) x e = drop_more ys n x e

-- the next relocation has no fault, and its field is made
pub done_more : (set : List Component) (sites : List Site) (n : ℕ) (d : Site) (fixups next : List Fixup) (f : Fixup) → AreDone set sites n fixups → n < length sites
    → f ≡ fixup_of set (get_or sites n d) → IsNear f.s_plus_a → site_cause set (get_or sites n d) ≡ None → next ≡ fixups ++ f ∷ [] → AreDone set sites (n + 1) next
done_more set sites n d fixups next f are lt is near none e =
    let x = get_or sites n d in
    let more = take_more sites n d lt in
    record {
      made = e ∙ ap (λ (xs : List Fixup). xs ++ f ∷ []) are.made ∙ ap (λ (y : Fixup). map (fixup_of set) (take n sites) ++ y ∷ []) is
          ∙ sym (ap (map (fixup_of set)) more ∙ map-append (fixup_of set) (take n sites) (x ∷ []));
      near = subst (λ (xs : List Fixup). All (λ (x : Fixup). IsNear x.s_plus_a) xs) (sym e) (All-push (λ (x : Fixup). IsNear x.s_plus_a) fixups f are.near near);
      none = ap (first_cause (site_cause set)) more ∙ first_append (site_cause set) (take n sites) (x ∷ []) are.none ∙ rw none refl;
    }

-- the fault at the next relocation is the first
pub first_here : (set : List Component) (sites : List Site) (n : ℕ) (d : Site) (c : Cause) → n < length sites → first_cause (site_cause set) (take n sites) ≡ None → site_cause set (get_or sites n d) ≡ Some c
    → first_cause (site_cause set) sites ≡ Some c
first_here set sites n d c lt none fault =
    sym (ap (first_cause (site_cause set)) (take-append-drop n sites)) ∙ first_append (site_cause set) (take n sites) (drop n sites) none
    ∙ ap (first_cause (site_cause set)) (drop_more sites n (get_or sites n d) (slice_get-get_or sites n d lt)) ∙ rw fault refl

-- what holds of all holds of each
all_at : {X : Type 0} (P : X → Type 0) (xs : List X) (i : ℕ) (x : X) → AllByRecursion P xs → slice_get xs i ≡ Some x → P x
all_at P [] i x all here = absurd cc
all_at P (y ∷ ys) zero x all here = let same : y ≡ x = cc in subst P same all.0
all_at P (y ∷ ys) (suc i) x all here = all_at P ys i x all.1 here

-- a relocation's component is one of the set
pub owner_inside : (set : List Component) → AllByRecursion IsComponent set → (sites : List Site) → sites ≡ sites_of set → (n : ℕ) (d : Site) → n < length sites → (get_or sites n d).component < length set
owner_inside set components sites are n d lt =
    let x = get_or sites n d in
    let site = all_at (IsSite set) (sites_of set) n x (all_sites set components) (ap (λ (xs : List Site). slice_get xs n) (sym are) ∙ slice_get-get_or sites n d lt) in
    slice_get_within set x.component site.owner site.at.here

-- all are made
pub done_all : (set : List Component) (sites : List Site) (n : ℕ) → length sites ≤ n → take n sites ≡ sites
done_all set sites n past = take_all n sites past
