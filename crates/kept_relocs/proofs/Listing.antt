-- The list's bytes, page by page.
use Rattle.std.proofs.Common.{◌≡◌, ℕ, zero, suc, ◌+◌, ◌-◌, ◌*◌, ◌<◌, ◌≤◌, List, [], ◌∷◌, ◌++◌, All, Some, length, take, drop, map, get_or, replicate, refl, sym, ap, ap₂, ◌∙◌}
use Rattle.std.proofs.Common.{subst, arith, slice_range, length-append, append_assoc}
use Rattle.std.specs.Prelude.{slice_get}
use Rattle.std.specs.List.{flat_map, concat, AllByRecursion}
use Rattle.std.proofs.lemmas.List.{replicate-append-replicate, length-replicate, drop-drop, drop-map, length-take, length-take-le, length-drop, get_or-take, get_or-drop, take-append-drop}
use Rattle.std.proofs.lemmas.List.Elements.{All-tail, All-take, All-drop}
use Rattle.std.proofs.lemmas.List.FromFn.{get_or-map-range_with_len, length-map-range_with_len}
use Rattle.std.proofs.Math.Seq.{drop-append_seam, take-append_seam}
use Rattle.flash_pages.specs.State.{State, IsState}
use Rattle.avr_reloc.specs.declared.fixup.Fixup.{Fixup}
use Rattle.component_package.specs.declared.part.Site.{Site}
use Rattle.component_package.specs.packages.Component.{Component}
use Rattle.component_package.specs.link.Link.{fixup_with, sites_of}
use Rattle.component_package.specs.link.Areas.{MergedSymbol, area_bytes, entry_bytes, list_bytes}
use Rattle.component_package.specs.link.Pages.{address_in, in_image_order, listed}
use Rattle.component_package.proofs.Lists.{length-entries}
use Rattle.kept_relocs.specs.List.{list_area}
use Rattle.kept_relocs.specs.Written.{in_pages}
use Rattle.kept_relocs.proofs.Written.{HoldsFirst}

-- ---- the next of a list

pub record IsNextOf {X : Type 0} (xs : List X) (j : ℕ) (x : X) (ys : List X) : Type 0 where
  pub below : j < length xs
  pub here : slice_get xs j ≡ Some x
  pub taken : take (j + 1) xs ≡ take j xs ++ x ∷ []
  pub left : drop (j + 1) xs ≡ ys

pub next_of : {X : Type 0} (xs : List X) (j : ℕ) (x : X) (ys : List X) → drop j xs ≡ x ∷ ys → IsNextOf xs j x ys
next_of [] zero x ys e = absurd cc
next_of [] (suc j) x ys e = absurd cc
next_of {X = X} (y ∷ xs) zero x ys e =
    let head : y ≡ x = cc in
    let tail : xs ≡ ys = cc in
    record { below = omega arith; here = ap (λ (z : X). Some z) head; taken = ap (λ (z : X). z ∷ []) head; left = tail }
next_of {X = X} (y ∷ xs) (suc j) x ys e =
    let rest = next_of xs j x ys e in
    let one : suc j + 1 ≡ suc (j + 1) = omega arith in
    record {
      below = omega (arith, rest.below);
      here = rest.here;
      taken = subst (λ (n : ℕ). take n (y ∷ xs) ≡ y ∷ (take j xs ++ x ∷ [])) (sym one) (ap (λ (l : List X). y ∷ l) rest.taken);
      left = subst (λ (n : ℕ). drop n (y ∷ xs) ≡ ys) (sym one) rest.left;
    }

pub all_left : {X : Type 0} (P : X → Type 0) (n : ℕ) (xs : List X) → AllByRecursion P xs → AllByRecursion P (drop n xs)
all_left P zero xs all = all
all_left P (suc n) [] all = tt
all_left P (suc n) (x ∷ xs) all = all_left P n xs all.1

-- ---- records in pages

length-area : (size : ℕ) (xs : List Fixup) → 8 * length xs ≤ size → length (area_bytes entry_bytes size xs) ≡ size
length-area size xs few =
    length-append (flat_map entry_bytes xs) (replicate {A = ℕ} (size - 8 * length xs) 255)
    ∙ omega (arith, few, length-entries entry_bytes 8 (λ x. refl) xs, length-replicate {A = ℕ} (size - 8 * length xs) 255)

-- an area is its first records and then the others
area_split : (k n : ℕ) (xs : List Fixup) → 8 * length xs ≤ 8 * k + n → area_bytes entry_bytes (8 * k + n) xs ≡ area_bytes entry_bytes (8 * k) (take k xs) ++ area_bytes entry_bytes n (drop k xs)
area_split zero n xs few = let e : 8 * 0 + n ≡ n = omega arith in ap (λ (m : ℕ). area_bytes entry_bytes m xs) e
area_split (suc k) n [] few =
    let a : ℕ = 8 * suc k in
    let e : a + n - 8 * 0 ≡ (a - 8 * 0) + (n - 8 * 0) = omega arith in
    ap (λ (m : ℕ). replicate {A = ℕ} m 255) e ∙ sym (replicate-append-replicate (a - 8 * 0) (n - 8 * 0) 255)
area_split (suc k) n (x ∷ xs) few =
    let rest = area_split k n xs (omega (arith, few)) in
    let w : List ℕ = entry_bytes x in
    let m1 : 8 * suc k + n - 8 * suc (length xs) ≡ 8 * k + n - 8 * length xs = omega (arith, few) in
    let m2 : 8 * suc k - 8 * suc (length (take k xs)) ≡ 8 * k - 8 * length (take k xs) = omega arith in
    let back : List ℕ = area_bytes entry_bytes n (drop k xs) in
    ap (λ (m : ℕ). (w ++ flat_map entry_bytes xs) ++ replicate {A = ℕ} m 255) m1
    ∙ append_assoc w (flat_map entry_bytes xs) (replicate {A = ℕ} (8 * k + n - 8 * length xs) 255)
    ∙ ap (λ (l : List ℕ). w ++ l) rest
    ∙ sym (append_assoc w (area_bytes entry_bytes (8 * k) (take k xs)) back)
    ∙ ap (λ (l : List ℕ). l ++ back) (sym (append_assoc w (flat_map entry_bytes (take k xs)) (replicate {A = ℕ} (8 * k - 8 * length (take k xs)) 255)))
    ∙ ap (λ (m : ℕ). ((w ++ flat_map entry_bytes (take k xs)) ++ replicate {A = ℕ} m 255) ++ back) (sym m2)

-- page p of an area of whole pages
page_slice : (p n : ℕ) (xs : List Fixup) → 8 * length xs ≤ 256 * p + (256 + n)
    → slice_range (area_bytes entry_bytes (256 * p + (256 + n)) xs) (256 * p) (256 * p + 256) ≡ area_bytes entry_bytes 256 (take 32 (drop (32 * p) xs))
page_slice p n xs few =
    let k : ℕ = 32 * p in
    let size : 256 * p + (256 + n) ≡ 8 * k + (8 * 32 + n) = omega arith in
    let whole : List ℕ = area_bytes entry_bytes (256 * p + (256 + n)) xs in
    let front : List ℕ = area_bytes entry_bytes (8 * k) (take k xs) in
    let rest : List ℕ = area_bytes entry_bytes (8 * 32 + n) (drop k xs) in
    let split : whole ≡ front ++ rest = ap (λ (m : ℕ). area_bytes entry_bytes m xs) size ∙ area_split k (8 * 32 + n) xs (omega (arith, few)) in
    let front_long : length front ≡ 256 * p = length-area (8 * k) (take k xs) (omega (arith, length-take k xs)) ∙ omega arith in
    let dropped : drop (256 * p) whole ≡ rest = ap (drop (256 * p)) split ∙ subst (λ (m : ℕ). drop m (front ++ rest) ≡ rest) front_long (drop-append_seam front rest) in
    let page : List ℕ = area_bytes entry_bytes (8 * 32) (take 32 (drop k xs)) in
    let behind : List ℕ = area_bytes entry_bytes n (drop 32 (drop k xs)) in
    let again : rest ≡ page ++ behind = area_split 32 n (drop k xs) (omega (arith, few, length-drop k xs)) in
    let page_long : length page ≡ 256 = length-area (8 * 32) (take 32 (drop k xs)) (omega (arith, length-take 32 (drop k xs))) in
    let width : 256 * p + 256 - 256 * p ≡ 256 = omega arith in
    ap (λ (m : ℕ). take m (drop (256 * p) whole)) width ∙ ap (take 256) (dropped ∙ again) ∙ subst (λ (m : ℕ). take m (page ++ behind) ≡ page) page_long (take-append_seam page behind)

-- page p of the list
pub list_page_is : (p : ℕ) (xs : List Fixup) → p < 256 → length xs ≤ 8192 → get_or (in_pages 256 (list_bytes xs)) p [] ≡ area_bytes entry_bytes 256 (take 32 (drop (32 * p) xs))
list_page_is p xs lt few =
    let n : ℕ = 65536 - 256 * p - 256 in
    let size : 65536 ≡ 256 * p + (256 + n) = omega arith in
    get_or-map-range_with_len (λ q. slice_range (list_bytes xs) (256 * q) (256 * q + 256)) 0 256 p p [] lt (omega arith)
    ∙ ap (λ (m : ℕ). slice_range (area_bytes entry_bytes m xs) (256 * p) (256 * p + 256)) size ∙ page_slice p n xs (omega (arith, few))

pub list_length : (xs : List Fixup) → length xs ≤ 8192 → length (list_bytes xs) ≡ 65536
list_length xs few = length-area 65536 xs (omega (arith, few))

-- ---- pages joined

drop-drop_other : (n : ℕ) (b : List ℕ) → drop n (drop 256 b) ≡ drop (n + 256) b
drop-drop_other n b = let e : 256 + n ≡ n + 256 = omega arith in drop-drop n 256 b ∙ ap (λ (m : ℕ). drop m b) e

joined : (ps : List (List ℕ)) (b : List ℕ) → All (λ p. length p ≡ 256) ps → length b ≡ 256 * length ps
    → ((p : ℕ) → p < length ps → get_or ps p [] ≡ slice_range b (256 * p) (256 * p + 256)) → concat ps ≡ b
joined [] [] all long each = refl
joined [] (x ∷ b) all long each = absurd (omega (arith, long))
joined (q ∷ ps) b all long each =
    let first : q ≡ take 256 b = each 0 (omega arith) in
    let rest = joined ps (drop 256 b) (All-tail (λ (p : List ℕ). length p ≡ 256) q ps all) (omega (arith, long, length-drop 256 b)) later in
    ap₂ (λ (x y : List ℕ). x ++ y) first rest ∙ take-append-drop 256 b
  where
    later : (p : ℕ) → p < length ps → get_or ps p [] ≡ slice_range (drop 256 b) (256 * p) (256 * p + 256)
    later p lt =
        let e1 : 256 * suc p ≡ 256 + 256 * p = omega arith in
        let w1 : 256 * suc p + 256 - 256 * suc p ≡ 256 = omega arith in
        let w2 : 256 * p + 256 - 256 * p ≡ 256 = omega arith in
        each (suc p) (omega (arith, lt)) ∙ ap (λ (m : ℕ). take m (drop (256 * suc p) b)) w1 ∙ ap (λ (m : ℕ). take 256 (drop m b)) e1
        ∙ ap (λ (m : ℕ). take 256 (drop m b)) (let e : 256 + 256 * p ≡ 256 * p + 256 = omega arith in e)
        ∙ ap (take 256) (sym (drop-drop_other (256 * p) b)) ∙ ap (λ (m : ℕ). take m (drop (256 * p) (drop 256 b))) (sym w2)

-- 256 pages that are the list's are the list
pub area_is_list : (x : State) (xs : List Fixup) → IsState x → length xs ≤ 8192 → HoldsFirst 50 256 x (λ p. get_or (in_pages 256 (list_bytes xs)) p []) → list_area x ≡ list_bytes xs
area_is_list x xs sizes few holds =
    let ps : List (List ℕ) = take 256 (drop 50 x.ext) in
    let all : All (λ p. length p ≡ 256) ps =
    All-take (λ (p : List ℕ). length p ≡ 256) 256 (drop 50 x.ext) (All-drop (λ (p : List ℕ). length p ≡ 256) 50 x.ext (λ k d lt. (sizes.ext_pages k d lt).0)) in
    let count : length ps ≡ 256 = length-take-le 256 (drop 50 x.ext) (omega (arith, length-drop 50 x.ext, sizes.ext)) in
    joined ps (list_bytes xs) all (omega (arith, count, list_length xs few)) (λ p lt.
    get_or-take 256 (drop 50 x.ext) p [] (omega (arith, lt, count)) ∙ get_or-drop 50 x.ext p [] ∙ holds p (omega (arith, lt, count))
    ∙ get_or-map-range_with_len (λ q. slice_range (list_bytes xs) (256 * q) (256 * q + 256)) 0 256 p p [] (omega (arith, lt, count)) (omega arith))

-- ---- the rest of a set's list

-- the records of what is to come
pub rest_records : (set : List Component) (table : List MergedSymbol) (rest : List Site) (n : ℕ) → rest ≡ drop n (in_image_order (sites_of set))
    → map (fixup_with (address_in table) set) rest ≡ drop n (listed set table)
rest_records set table rest n is = ap (map (fixup_with (address_in table) set)) is ∙ sym (drop-map (fixup_with (address_in table) set) n (in_image_order (sites_of set)))

pub pages_count : (b : List ℕ) → length (in_pages 256 b) ≡ 256
pages_count b = length-map-range_with_len (λ p. slice_range b (256 * p) (256 * p + 256)) 0 256
