-- What kept tables have for a mote: its releases, and the packages of each.
use Rattle.std.proofs.Common.{◌≡◌, ⊎_elim, ℕ, zero, suc, ◌+◌, ◌<◌, ◌≤◌, Bool, true, false, cond, eqb, List, [], ◌∷◌, length, map, Option, Some, None, get_or, refl, sym, ap, ap₂, subst, ◌∙◌, arith}
use Rattle.std.specs.Prelude.{bytes_eq, ◌&&◌, unwrap_or}
use Rattle.std.specs.List.{All, AllByRecursion, find, filter, range_with_len}
use Rattle.std.specs.Option.{option_map, option_and_then}
use Rattle.std.proofs.lemmas.Bool.{cond-true, cond-false, cases_Bool, and_parts, eqb-true, ne_eqb, eq-eqb, both_ways}
use Rattle.std.proofs.lemmas.Option.{same_Some}
use Rattle.std.proofs.lemmas.List.{length-map}
use Rattle.component_package.specs.packages.Reading.{component_of}
use Rattle.component_package.specs.link.Link.{link_cause}
use Rattle.release_rows.specs.declared.part.Numbered.{Numbered}
use Rattle.release_rows.specs.declared.row.VersionRow.{VersionRow}
use Rattle.release_rows.specs.declared.row.ReleaseRow.{ReleaseRow}
use Rattle.release_rows.specs.Tables.{Tables, is_version, is_release, stored_package, stored_release, release_count, releases_of}
use Rattle.release_rows.specs.Change.{IsPackageOf, IsPartList}
use Rattle.release_rows.specs.Kept.{AreKept, IsKeptVersion, IsKeptRelease, packages_of}
use Rattle.release_judging.specs.Packages.{ArePackagesOf}
use Rattle.update_laws.specs.Update.{Delivered}
use Rattle.release_updates.specs.Updates.{with_packages}

-- ---- rows that are found

found_passes : {X : Type 0} (p : X → Bool) (rows : List X) (x : X) → find p rows ≡ Some x → p x ≡ true
found_passes p [] x is = absurd cc
found_passes p (r ∷ rows) x is = ⊎_elim
    (λ here. subst (λ y. p y ≡ true) (same_Some r x (sym (cond-true (p r) _ _ here) ∙ is)) here)
    (λ not_here. found_passes p rows x (sym (cond-false (p r) _ _ not_here) ∙ is))
    (cases_Bool (p r))

found_is : {X : Type 0} (P : X → Type 0) (p : X → Bool) (rows : List X) (x : X) → All P rows → find p rows ≡ Some x → P x
found_is P p [] x all is = absurd cc
found_is P p (r ∷ rows) x all is = ⊎_elim
    (λ here. subst P (same_Some r x (sym (cond-true (p r) _ _ here) ∙ is)) (all zero r (omega arith)))
    (λ not_here. found_is P p rows x (λ k d lt. all (suc k) d (omega (arith, lt))) (sym (cond-false (p r) _ _ not_here) ∙ is))
    (cases_Bool (p r))

-- the first of those that pass one test that passes another
find_both : {X : Type 0} (p q : X → Bool) (rows : List X) → find (λ x. p x && q x) rows ≡ find q (filter p rows)
find_both p q [] = refl
find_both {X = X} p q (r ∷ rows) = by (p r) refl (find_both p q rows)
  where
    rest : List X
    rest = filter p rows

    later : Option X
    later = find (λ x. p x && q x) rows

    by : (b : Bool) → p r ≡ b → later ≡ find q rest → cond (p r && q r) (Some r) later ≡ find q (cond (p r) (r ∷ rest) rest)
    by true is same = ap (λ (b : Bool). cond (b && q r) (Some r) later) is ∙ ap (λ (o : Option X). cond (q r) (Some r) o) same ∙ sym (ap (λ (b : Bool). find q (cond b (r ∷ rest) rest)) is)
    by false is same = ap (λ (b : Bool). cond (b && q r) (Some r) later) is ∙ same ∙ sym (ap (λ (b : Bool). find q (cond b (r ∷ rest) rest)) is)

head_same : (a b : ℕ) (as_ bs : List ℕ) → a ∷ as_ ≡ b ∷ bs → a ≡ b
head_same a b as_ bs is = ap (λ (l : List ℕ). get_or l 0 a) is

tail_same : (a b : ℕ) (as_ bs : List ℕ) → a ∷ as_ ≡ b ∷ bs → as_ ≡ bs
tail_same a b as_ bs is = cc

-- of rows that are numbered without a gap each is found
numbered_found : {X : Type 0} (number : X → ℕ) (rows : List X) (first n : ℕ) → map number rows ≡ range_with_len first (length rows) → first ≤ n → n < first + length rows
    → (x : X) × (find (λ y. eqb (number y) n) rows ≡ Some x)
numbered_found number [] first n are low high = absurd (omega (arith, low, high))
numbered_found number (r ∷ rows) first n are low high =
    let here = head_same (number r) first (map number rows) (range_with_len (first + 1) (length rows)) are in
    let behind = tail_same (number r) first (map number rows) (range_with_len (first + 1) (length rows)) are in
    ⊎_elim
    (λ is. (r, cond-true (eqb (number r) n) _ _ is))
    (λ other.
    let apart : n ≡ first → ⊥ = λ same. both_ways (eqb (number r) n) other (eq-eqb (number r) n (here ∙ sym same)) in
    let rest = numbered_found number rows (first + 1) n behind (omega (arith, low, apart)) (omega (arith, high)) in
    (rest.0, cond-false (eqb (number r) n) _ _ other ∙ rest.1))
    (cases_Bool (eqb (number r) n))

-- ---- releases

-- a release of the mote up to its last is there, and is kept
pub record Stands (t : Tables) (mote : List ℕ) (number : ℕ) : Type 0 where
  pub parts : List Numbered
  pub there : stored_release t mote number ≡ Some parts
  pub kept : IsKeptRelease t parts

pub stands : (t : Tables) (mote : List ℕ) (number : ℕ) → AreKept t → 1 ≤ number → number ≤ release_count t mote → Stands t mote number
stands t mote number kept low high =
    let of_mote : ReleaseRow → Bool = λ r. bytes_eq mote r.mote in
    let of_number : ReleaseRow → Bool = λ r. eqb r.number number in
    let rows : List ReleaseRow = releases_of t mote in
    let numbers = kept.releases mote ∙ ap (λ (n : ℕ). range_with_len 1 n) (length-map rows (λ r. r.number)) in
    let found = numbered_found (λ (r : ReleaseRow). r.number) rows 1 number numbers low (omega (arith, high)) in
    let is : find (is_release mote number) t.releases ≡ Some found.0 = find_both of_mote of_number t.releases ∙ found.1 in
    record {
      parts = found.0.parts;
      there = ap (option_map (λ (r : ReleaseRow). r.parts)) is;
      kept = found_is (λ (r : ReleaseRow). IsKeptRelease t r.parts) (is_release mote number) t.releases found.0 kept.sets is;
    }

-- ---- packages

-- a stored package is one of its component and version
pub stored_is : (t : Tables) (component version : ℕ) (b : List ℕ) → AreKept t → stored_package t component version ≡ Some b → IsPackageOf component version b
stored_is t component version b kept is = by (find (is_version component version) t.versions) refl
  where
    by : (o : Option VersionRow) → find (is_version component version) t.versions ≡ o → IsPackageOf component version b
    by None none = absurd (let no_row = sym (ap (option_map (λ (r : VersionRow). r.bytes)) none) ∙ is in cc)
    by (Some r) some =
        let bytes : r.bytes ≡ b = same_Some r.bytes b (sym (ap (option_map (λ (x : VersionRow). x.bytes)) some) ∙ is) in
        let row = found_is (IsKeptVersion t) (is_version component version) t.versions r kept.packages some in
        let passes = and_parts (eqb r.component component) (eqb r.version version) (found_passes (is_version component version) t.versions r some) in
        subst (λ (c : List ℕ). IsPackageOf component version c) bytes
        (subst (λ (v : ℕ). IsPackageOf component v r.bytes) (eqb-true r.version version passes.1)
        (subst (λ (c : ℕ). IsPackageOf c r.version r.bytes) (eqb-true r.component component passes.0) row.bytes))

-- packages of parts, where all are there: each is the stored one of its part
pub record Stored (t : Tables) (ps : List Numbered) (set : List (List ℕ)) : Type 0 where
  pub count : length ps ≡ length set
  pub each : AllByRecursion (λ d. stored_package t d.component d.version ≡ Some d.bytes) (with_packages ps set)

pub stored : (t : Tables) (ps : List Numbered) (set : List (List ℕ)) → packages_of t ps ≡ Some set → Stored t ps set
stored t [] set is = subst (Stored t []) (same_Some [] set is) (record { count = refl; each = tt })
stored t (p ∷ ps) set is = by (stored_package t p.component p.version) refl (packages_of t ps) refl (λ bs rest. stored t ps bs rest)
  where
    joined : Option (List ℕ) → Option (List (List ℕ)) → Option (List (List ℕ))
    joined o others = option_and_then (λ (a : List ℕ). option_map (λ (l : List (List ℕ)). a ∷ l) others) o

    by : (o : Option (List ℕ)) → stored_package t p.component p.version ≡ o → (others : Option (List (List ℕ))) → packages_of t ps ≡ others
        → ((bs : List (List ℕ)) → packages_of t ps ≡ Some bs → Stored t ps bs) → Stored t (p ∷ ps) set
    by None none others rest later = absurd (let no_set = sym (ap₂ joined none rest) ∙ is in cc)
    by (Some b) some None rest later = absurd (let no_set = sym (ap₂ joined some rest) ∙ is in cc)
    by (Some b) some (Some bs) rest later =
        let set_is : b ∷ bs ≡ set = same_Some (b ∷ bs) set (sym (ap₂ joined some rest) ∙ is) in
        let behind = later bs rest in
        subst (Stored t (p ∷ ps)) set_is (record { count = ap (λ (n : ℕ). suc n) behind.count; each = (some, behind.each) })

pub stored_packages : (t : Tables) (ps : List Numbered) (set : List (List ℕ)) → AreKept t → length ps ≡ length set → AllByRecursion (λ d. stored_package t d.component d.version ≡ Some d.bytes) (with_packages ps set) → ArePackagesOf ps set
stored_packages t [] [] kept same each = tt
stored_packages t [] (b ∷ bs) kept same each = absurd (omega (arith, same))
stored_packages t (p ∷ ps) [] kept same each = absurd (omega (arith, same))
stored_packages t (p ∷ ps) (b ∷ bs) kept same each = (stored_is t p.component p.version b kept each.0, stored_packages t ps bs kept (omega (arith, same)) each.1)

-- the table of packages has each
abbrev pub package_table : Tables → ℕ → ℕ → List ℕ
package_table t component version = unwrap_or (stored_package t component version) []

pub in_table : (t : Tables) (ds : List Delivered) → AllByRecursion (λ d. stored_package t d.component d.version ≡ Some d.bytes) ds → AllByRecursion (λ d. d.bytes ≡ package_table t d.component d.version) ds
in_table t [] each = tt
in_table t (d ∷ ds) each = (sym (ap (λ (o : Option (List ℕ)). unwrap_or o []) each.0), in_table t ds each.1)
