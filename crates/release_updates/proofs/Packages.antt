-- Parts with their packages.
use Rattle.std.proofs.Common.{◌≡◌, ℕ, zero, suc, ◌+◌, ◌^◌, ◌<◌, ◌≤◌, List, [], ◌∷◌, ◌++◌, length, take, map, get_or, set, refl, sym, ap, ap₂, subst, ◌∙◌, arith}
use Rattle.std.specs.List.{AllByRecursion}
use Rattle.std.proofs.lemmas.List.{length-map, length-take, take_more, take_more_set, take_all, map-append}
use Rattle.std.proofs.lemmas.Simd.{map-map}
use Rattle.component_package.specs.declared.manifest.Entry.{Entry}
use Rattle.component_package.specs.packages.Reading.{component_of}
use Rattle.component_package.specs.packages.Component.{Component, spelling}
use Rattle.component_package.specs.packages.Manifest.{AreDistinct, IsRelease, IsManifestEntry}
use Rattle.component_package.specs.mote.Frames.{stream_of}
use Rattle.release_rows.specs.declared.part.Numbered.{Numbered}
use Rattle.release_rows.specs.Change.{IsPackageOf, IsPartList}
use Rattle.release_judging.specs.Packages.{ArePackagesOf}
use Rattle.update_laws.specs.Update.{Delivered, IsDelivered, pieces_from, components_in, entry_of, release_of_packages}
use Rattle.update_laws.proofs.Deliveries.{good_entries}
use Rattle.release_updates.specs.Updates.{with_packages}
use Rattle.release_updates.proofs.Sent.{stream_append, delivered_at, from_more}

-- ---- as many packages as parts

pub are_lengths : (ps : List Numbered) (bs : List (List ℕ)) → ArePackagesOf ps bs → length ps ≡ length bs
are_lengths [] [] are = refl
are_lengths [] (b ∷ bs) are = absurd are
are_lengths (p ∷ ps) [] are = absurd are
are_lengths (p ∷ ps) (b ∷ bs) are = ap (λ (n : ℕ). suc n) (are_lengths ps bs are.1)

pub length_with : (ps : List Numbered) (bs : List (List ℕ)) → length ps ≡ length bs → length (with_packages ps bs) ≡ length ps
length_with [] bs same = refl
length_with (p ∷ ps) [] same = absurd (omega (arith, same))
length_with (p ∷ ps) (b ∷ bs) same = ap (λ (n : ℕ). suc n) (length_with ps bs (omega (arith, same)))

pub with_components : (ps : List Numbered) (bs : List (List ℕ)) → length ps ≡ length bs → map (λ d. d.component) (with_packages ps bs) ≡ map (λ p. p.component) ps
with_components [] bs same = refl
with_components (p ∷ ps) [] same = absurd (omega (arith, same))
with_components (p ∷ ps) (b ∷ bs) same = ap (λ (ns : List ℕ). p.component ∷ ns) (with_components ps bs (omega (arith, same)))

pub with_spelled : (ps : List Numbered) (bs : List (List ℕ)) → length ps ≡ length bs → components_in (with_packages ps bs) ≡ map component_of bs
with_spelled [] [] same = refl
with_spelled [] (b ∷ bs) same = absurd (omega (arith, same))
with_spelled (p ∷ ps) [] same = absurd (omega (arith, same))
with_spelled (p ∷ ps) (b ∷ bs) same = ap (λ (cs : List Component). component_of b ∷ cs) (with_spelled ps bs (omega (arith, same)))

-- ---- one part more

with_at : (ps : List Numbered) (bs : List (List ℕ)) (i : ℕ) (p : Numbered) (b : List ℕ) → length ps ≡ length bs → i < length ps
    → get_or (with_packages ps bs) i (delivered_at p b) ≡ delivered_at (get_or ps i p) (get_or bs i b)
with_at [] bs i p b same lt = absurd (omega (arith, lt))
with_at (q ∷ ps) [] i p b same lt = absurd (omega (arith, same))
with_at (q ∷ ps) (c ∷ bs) zero p b same lt = refl
with_at (q ∷ ps) (c ∷ bs) (suc i) p b same lt = with_at ps bs i p b (omega (arith, same)) (omega (arith, lt))

pub with_more : (ps : List Numbered) (bs : List (List ℕ)) (i : ℕ) (p : Numbered) (b : List ℕ) → length ps ≡ length bs → i < length ps
    → take (i + 1) (with_packages ps bs) ≡ take i (with_packages ps bs) ++ delivered_at (get_or ps i p) (get_or bs i b) ∷ []
with_more ps bs i p b same lt =
    take_more (with_packages ps bs) i (delivered_at p b) (omega (arith, lt, length_with ps bs same))
    ∙ ap (λ (d : Delivered). take i (with_packages ps bs) ++ d ∷ []) (with_at ps bs i p b same lt)

-- ---- what each package is

pub package_at : (ps : List Numbered) (bs : List (List ℕ)) (i : ℕ) (p : Numbered) (b : List ℕ) → ArePackagesOf ps bs → i < length ps
    → IsPackageOf (get_or ps i p).component (get_or ps i p).version (get_or bs i b)
package_at [] bs i p b are lt = absurd (omega (arith, lt))
package_at (q ∷ ps) [] i p b are lt = absurd are
package_at (q ∷ ps) (c ∷ bs) zero p b are lt = are.0
package_at (q ∷ ps) (c ∷ bs) (suc i) p b are lt = package_at ps bs i p b are.1 (omega (arith, lt))

pub package_short : (component version : ℕ) (b : List ℕ) → IsPackageOf component version b → length b ≤ 9984
package_short component version b is = omega (arith, is.spelled.component.short, ap (λ (l : List ℕ). length l) is.spelled.bytes)

pub is_delivered : (p : Numbered) (b : List ℕ) → IsPackageOf p.component p.version b → IsDelivered (delivered_at p b)
is_delivered p b is = record { spelled = is.spelled; component = is.component_is; version = is.version_is }

pub all_delivered : (ps : List Numbered) (bs : List (List ℕ)) → ArePackagesOf ps bs → AllByRecursion IsDelivered (with_packages ps bs)
all_delivered [] bs are = tt
all_delivered (p ∷ ps) [] are = absurd are
all_delivered (p ∷ ps) (b ∷ bs) are = (is_delivered p b are.0, all_delivered ps bs are.1)

-- ---- the manifest

-- a release of parts with their packages is one
pub parts_release : (number : ℕ) (ps : List Numbered) (bs : List (List ℕ)) → number < 2 ^ 32 → IsPartList ps → ArePackagesOf ps bs → IsRelease (release_of_packages number (with_packages ps bs))
parts_release number ps bs small list are =
    let news : List Delivered = with_packages ps bs in
    let same = are_lengths ps bs are in
    let count : length (map entry_of news) ≡ length ps = length-map news entry_of ∙ length_with ps bs same in
    record {
      number = small;
      some = omega (arith, list.some, count);
      few = omega (arith, list.few, count);
      entries = good_entries news (all_delivered ps bs are);
      distinct = subst AreDistinct (sym (map-map (λ (e : Entry). e.component) entry_of news ∙ with_components ps bs same)) list.distinct;
    }

-- one entry more
pub entries_more : (es : List Entry) (ds : List Delivered) (i : ℕ) (e : Entry) (d : Delivered) → i < length es → e ≡ entry_of d → take (i + 1) ds ≡ take i ds ++ d ∷ [] → take i es ≡ map entry_of (take i ds)
    → take (i + 1) (set es i e) ≡ map entry_of (take (i + 1) ds)
entries_more es ds i e d lt is more before =
    take_more_set es i e lt ∙ ap₂ (λ (x : List Entry) (y : Entry). x ++ y ∷ []) before is
    ∙ sym (map-append entry_of (take i ds) (d ∷ [])) ∙ ap (map entry_of) (sym more)

-- all of them
pub entries_all : (n i : ℕ) (es : List Entry) (ds : List Delivered) → n ≡ length ds → i ≡ n → take i es ≡ map entry_of (take i ds) → take n es ≡ map entry_of ds
entries_all n i es ds count end before =
    subst (λ (k : ℕ). take k es ≡ map entry_of (take k ds)) end before ∙ ap (map entry_of) (take_all n ds (omega (arith, count)))

-- ---- the pieces

-- those of one part more
pub pieces_next : (olds : List Delivered) (ps : List Numbered) (bs : List (List ℕ)) (i : ℕ) (p : Numbered) (b : List ℕ) → length ps ≡ length bs → i < length ps
    → stream_of (pieces_from olds 0 (take (i + 1) (with_packages ps bs)))
    ≡ stream_of (pieces_from olds 0 (take i (with_packages ps bs))) ++ stream_of (pieces_from olds i (delivered_at (get_or ps i p) (get_or bs i b) ∷ []))
pieces_next olds ps bs i p b same lt =
    let news : List Delivered = with_packages ps bs in
    let d : Delivered = delivered_at (get_or ps i p) (get_or bs i b) in
    let place : 0 + length (take i news) ≡ i = omega (arith, lt, length_with ps bs same, length-take i news) in
    ap (λ (ds : List Delivered). stream_of (pieces_from olds 0 ds)) (with_more ps bs i p b same lt) ∙ ap stream_of (from_more olds 0 (take i news) d)
    ∙ stream_append (pieces_from olds 0 (take i news)) (pieces_from olds (0 + length (take i news)) (d ∷ []))
    ∙ ap (λ (k : ℕ). stream_of (pieces_from olds 0 (take i news)) ++ stream_of (pieces_from olds k (d ∷ []))) place

-- and of all parts
pub pieces_all : (olds : List Delivered) (ps : List Numbered) (bs : List (List ℕ)) (i : ℕ) → length ps ≡ length bs → length ps ≤ i
    → pieces_from olds 0 (take i (with_packages ps bs)) ≡ pieces_from olds 0 (with_packages ps bs)
pieces_all olds ps bs i same past = ap (pieces_from olds 0) (take_all i (with_packages ps bs) (omega (arith, past, length_with ps bs same)))
