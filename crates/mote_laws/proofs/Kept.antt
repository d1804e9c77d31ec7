-- A slot that a release doesn't use can hold anything: its set stays.
use Rattle.std.proofs.Common.{◌≡◌, ◌≢◌, ℕ, List, [], ◌∷◌, false, map, set, take, sym, ◌∙◌, ap, subst, refl, get_or-set_other, arith}
use Rattle.std.specs.List.{AllByRecursion}
use Rattle.sha2.specs.Sha256.{sha256}
use Rattle.component_package.specs.packages.Grammar.{Spells}
use Rattle.component_package.specs.packages.Component.{Component}
use Rattle.component_package.specs.packages.Reading.{component_of}
use Rattle.component_package.specs.link.Link.{link_cause}
use Rattle.component_package.specs.packages.Manifest.{StoredRelease, Placed, Stores}
use Rattle.component_package.specs.mote.Store.{package_in, HoldsPackage, HasSet, components_of, is_taken}
use Rattle.component_package.specs.link.Pages.{IsPages}
use Rattle.component_package.specs.mote.Sound.{HasNoCause, HasImage}
use Rattle.mote_laws.specs.Steps.{IsUnused}

-- another slot's bytes are as they were
pub package_kept : (store : List (List ℕ)) (s : ℕ) (bytes : List ℕ) (p : Placed) → p.slot ≢ s → package_in (set store s bytes) p ≡ package_in store p
package_kept store s bytes p apart = ap (λ (b : List ℕ). take p.entry.length b) (get_or-set_other store s p.slot bytes [] apart)

-- the same bytes hold the same package
pub holds_kept : (store other : List (List ℕ)) (p : Placed) → package_in other p ≡ package_in store p → HoldsPackage store p → HoldsPackage other p
holds_kept store other p same holds = record {
  digest = subst (λ (b : List ℕ). sha256 b ≡ p.entry.digest) (sym same) holds.digest;
  component = holds.component;
  spelled = subst (λ (b : List ℕ). Spells b holds.component) (sym same) holds.spelled;
  number = holds.number;
  version = holds.version;
}

-- what a release's packages are, one after another
packages_kept : (store : List (List ℕ)) (s : ℕ) (bytes : List ℕ) (ps : List Placed) → is_taken (map (λ p. p.slot) ps) s ≡ false
    → (AllByRecursion (HoldsPackage store) ps → AllByRecursion (HoldsPackage (set store s bytes)) ps) × (map (λ p. component_of (package_in (set store s bytes) p)) ps ≡ map (λ p. component_of (package_in store p)) ps)
packages_kept store s bytes [] unused = (λ all. tt, refl)
packages_kept store s bytes (p ∷ ps) unused =
    let apart : p.slot ≢ s = grind arith in
    let others : is_taken (map (λ p. p.slot) ps) s ≡ false = grind arith in
    let same = package_kept store s bytes p apart in
    let rest = packages_kept store s bytes ps others in
    (λ all. (holds_kept store (set store s bytes) p same all.0, rest.0 all.1), (let one : component_of (package_in (set store s bytes) p) ≡ component_of (package_in store p) = ap component_of same in cc (one, rest.1)))

-- the set
pub set_kept : (store : List (List ℕ)) (s : ℕ) (bytes : List ℕ) (m : StoredRelease) → IsUnused m s → HasSet store m → HasSet (set store s bytes) m
set_kept store s bytes m unused = (packages_kept store s bytes m.placed unused).0

-- its components
pub components_kept : (store : List (List ℕ)) (s : ℕ) (bytes : List ℕ) (m : StoredRelease) → IsUnused m s → components_of (set store s bytes) m ≡ components_of store m
components_kept store s bytes m unused = (packages_kept store s bytes m.placed unused).1

-- that nothing refuses it
pub no_cause_kept : (store : List (List ℕ)) (s : ℕ) (bytes side : List ℕ) → ((m : StoredRelease) → Stores side m → IsUnused m s) → HasNoCause store side → HasNoCause (set store s bytes) side
unfolding HasNoCause
no_cause_kept store s bytes side unused (m, stores, has, none) =
    (m, stores, set_kept store s bytes m (unused m stores) has, ap link_cause (components_kept store s bytes m (unused m stores)) ∙ none)

-- its image
pub image_kept : (store : List (List ℕ)) (s : ℕ) (bytes side : List ℕ) (pages : List (List ℕ)) → ((m : StoredRelease) → Stores side m → IsUnused m s) → HasImage store side pages
    → HasImage (set store s bytes) side pages
unfolding HasImage
image_kept store s bytes side pages unused (m, stores, image) =
    (m, stores, subst (λ (set : List Component). IsPages set pages) (sym (components_kept store s bytes m (unused m stores))) image)
